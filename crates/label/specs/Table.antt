-- The lines of data/label-classes.txt, made by data/make-label-table.
use Rattle.std.specs.Prelude.{List, [], ◌∷◌}
use Rattle.classes.specs.ClusterBreak as break
use Rattle.classes.specs.MyanmarClass as myanmar
use Rattle.classes.specs.Category as category
use Rattle.label.specs.Lines.{Line, line}

unfoldable pub table : List Line
table =
    line 0 9 break.CN myanmar.O category.Control 0 0 ∷
    line 10 10 break.LF myanmar.O category.Control 0 0 ∷
    line 11 12 break.CN myanmar.O category.Control 0 0 ∷
    line 13 13 break.CR myanmar.O category.Control 0 0 ∷
    line 14 31 break.CN myanmar.O category.Control 0 0 ∷
    line 32 126 break.XX myanmar.O category.Other 0 0 ∷
    line 127 127 break.CN myanmar.O category.Control 0 0 ∷
    line 160 160 break.XX myanmar.REST category.Other 0 0 ∷
    line 169 169 break.XX myanmar.O category.Other 1 0 ∷
    line 192 214 break.XX myanmar.O category.Other 0 0 ∷
    line 215 215 break.XX myanmar.REST category.Other 0 0 ∷
    line 216 246 break.XX myanmar.O category.Other 0 0 ∷
    line 248 255 break.XX myanmar.O category.Other 0 0 ∷
    line 768 879 break.EX myanmar.O category.Other 0 0 ∷
    line 4096 4098 break.XX myanmar.C category.Other 0 0 ∷
    line 4099 4099 break.XX myanmar.C category.Other 0 0 ∷
    line 4100 4109 break.XX myanmar.C category.Other 0 0 ∷
    line 4110 4110 break.XX myanmar.C category.Other 0 0 ∷
    line 4111 4127 break.XX myanmar.C category.Other 0 0 ∷
    line 4128 4128 break.XX myanmar.C category.Other 0 0 ∷
    line 4129 4129 break.XX myanmar.IV category.Other 0 0 ∷
    line 4130 4130 break.XX myanmar.IV category.Other 0 0 ∷
    line 4131 4131 break.XX myanmar.IV category.Other 0 0 ∷
    line 4132 4132 break.XX myanmar.IV category.Other 0 0 ∷
    line 4133 4135 break.XX myanmar.IV category.Other 0 0 ∷
    line 4136 4136 break.XX myanmar.IV category.Other 0 0 ∷
    line 4137 4138 break.XX myanmar.IV category.Other 0 0 ∷
    line 4139 4140 break.XX myanmar.VPst category.Other 0 0 ∷
    line 4141 4142 break.EX myanmar.VAbv category.Other 0 0 ∷
    line 4143 4144 break.EX myanmar.VBlw category.Other 0 0 ∷
    line 4145 4145 break.SM myanmar.VPre category.Other 0 0 ∷
    line 4146 4146 break.EX myanmar.A category.Other 0 0 ∷
    line 4150 4150 break.EX myanmar.A category.Other 0 0 ∷
    line 4151 4151 break.EX myanmar.DB category.Other 0 0 ∷
    line 4152 4152 break.XX myanmar.«V» category.Other 0 0 ∷
    line 4153 4153 break.EX myanmar.H category.Other 0 0 ∷
    line 4154 4154 break.EX myanmar.As category.Other 0 0 ∷
    line 4155 4155 break.SM myanmar.MY category.Other 0 0 ∷
    line 4156 4156 break.SM myanmar.MR category.Other 0 0 ∷
    line 4157 4157 break.EX myanmar.MW category.Other 0 0 ∷
    line 4158 4158 break.EX myanmar.MH category.Other 0 0 ∷
    line 4159 4159 break.XX myanmar.C category.Other 0 0 ∷
    line 4160 4160 break.XX myanmar.D0 category.Other 0 0 ∷
    line 4161 4166 break.XX myanmar.D category.Other 0 0 ∷
    line 4167 4168 break.XX myanmar.D category.Other 0 0 ∷
    line 4169 4169 break.XX myanmar.D category.Other 0 0 ∷
    line 4170 4171 break.XX myanmar.P category.Other 0 0 ∷
    line 4172 4173 break.XX myanmar.S category.Other 0 0 ∷
    line 4174 4174 break.XX myanmar.C category.Other 0 0 ∷
    line 4175 4175 break.XX myanmar.O category.Other 0 0 ∷
    line 4186 4186 break.XX myanmar.C category.Other 0 0 ∷
    line 4191 4191 break.EX myanmar.MY category.Other 0 0 ∷
    line 4192 4192 break.EX myanmar.MH category.Other 0 0 ∷
    line 4194 4194 break.XX myanmar.VPst category.Other 0 0 ∷
    line 4195 4196 break.XX myanmar.PT category.Other 0 0 ∷
    line 4197 4197 break.XX myanmar.C category.Other 0 0 ∷
    line 4213 4213 break.XX myanmar.C category.Other 0 0 ∷
    line 4220 4221 break.XX myanmar.C category.Other 0 0 ∷
    line 4225 4225 break.XX myanmar.C category.Other 0 0 ∷
    line 4226 4226 break.EX myanmar.MW category.Other 0 0 ∷
    line 4230 4230 break.EX myanmar.VAbv category.Other 0 0 ∷
    line 4232 4233 break.XX myanmar.«V» category.Other 0 0 ∷
    line 4239 4239 break.XX myanmar.«V» category.Other 0 0 ∷
    line 4253 4253 break.EX myanmar.VAbv category.Other 0 0 ∷
    line 4352 4447 break.L myanmar.O category.Other 0 0 ∷
    line 4448 4519 break.«V» myanmar.O category.Other 0 0 ∷
    line 4520 4607 break.T myanmar.O category.Other 0 0 ∷
    line 8203 8203 break.CN myanmar.O category.Format 0 0 ∷
    line 8204 8204 break.EX myanmar.J category.Format 0 0 ∷
    line 8205 8205 break.ZWJ myanmar.J category.Format 0 0 ∷
    line 8212 8212 break.XX myanmar.REST category.Other 0 0 ∷
    line 8226 8226 break.XX myanmar.REST category.Other 0 0 ∷
    line 8288 8288 break.CN myanmar.WJ category.Format 0 0 ∷
    line 8482 8482 break.XX myanmar.O category.Other 1 0 ∷
    line 9676 9676 break.XX myanmar.REST category.Other 0 0 ∷
    line 9786 9786 break.XX myanmar.O category.Other 1 0 ∷
    line 10084 10084 break.XX myanmar.O category.Other 1 0 ∷
    line 43489 43490 break.XX myanmar.O category.Other 0 0 ∷
    line 43616 43617 break.XX myanmar.C category.Other 0 0 ∷
    line 43644 43644 break.EX myanmar.R category.Other 0 0 ∷
    line 43645 43647 break.XX myanmar.R category.Other 0 0 ∷
    line 65024 65039 break.EX myanmar.VS category.Other 0 1 ∷
    line 127462 127487 break.RI myanmar.O category.Other 0 0 ∷
    line 127744 127994 break.XX myanmar.O category.Other 1 0 ∷
    line 127995 127999 break.EX myanmar.O category.Other 0 0 ∷
    line 128000 128253 break.XX myanmar.O category.Other 1 0 ∷
    line 128512 128591 break.XX myanmar.O category.Other 1 0 ∷
    []
