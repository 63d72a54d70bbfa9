-- "The reader needs the value names of both files with their codes."
use Rattle.std.specs.Prelude.{ℕ, cond, List, [], ◌∷◌, Option, Some, None}
use Prim.Native.Char.{code}
use Prim.Native.String.{String}
use Rattle.classes.specs.ClusterBreak as ClusterBreak
use Rattle.classes.specs.WordBreak as WordBreak
use Rattle.cases.specs.Spans.{equal}
use Rattle.properties.specs.declared.File.{File}
use Rattle.properties.specs.declared.File.TheVariants.{Cluster, Word}

-- the bytes of a text of ASCII
abbrev pub ascii : String → List ℕ
ascii String.[] = []
ascii (String.◌∷◌ c s) = code c ∷ ascii s

pub record Named : Type 0 where
  pub name : List ℕ
  pub means : ℕ

abbrev pub named : String → ℕ → Named
named name means = record { name = ascii name; means = means }

-- the long names of GraphemeBreakProperty.txt, in the order of the codes
abbrev pub cluster_names : List Named
cluster_names =
    named "Other" ClusterBreak.XX
    ∷ named "Control" ClusterBreak.CN
    ∷ named "CR" ClusterBreak.CR
    ∷ named "LF" ClusterBreak.LF
    ∷ named "L" ClusterBreak.L
    ∷ named "V" ClusterBreak.«V»
    ∷ named "T" ClusterBreak.T
    ∷ named "LV" ClusterBreak.LV
    ∷ named "LVT" ClusterBreak.LVT
    ∷ named "Regional_Indicator" ClusterBreak.RI
    ∷ named "Extend" ClusterBreak.EX
    ∷ named "SpacingMark" ClusterBreak.SM
    ∷ named "ZWJ" ClusterBreak.ZWJ
    ∷ named "Prepend" ClusterBreak.PP
    ∷ []

-- the long names of WordBreakProperty.txt, in the order of the codes
abbrev pub word_names : List Named
word_names =
    named "Other" WordBreak.Other
    ∷ named "CR" WordBreak.CR
    ∷ named "LF" WordBreak.LF
    ∷ named "Newline" WordBreak.NL
    ∷ named "Extend" WordBreak.Extend
    ∷ named "ZWJ" WordBreak.ZWJ
    ∷ named "Format" WordBreak.FO
    ∷ named "WSegSpace" WordBreak.WSegSpace
    ∷ named "ALetter" WordBreak.ALetter
    ∷ named "Hebrew_Letter" WordBreak.HL
    ∷ named "MidLetter" WordBreak.ML
    ∷ named "MidNumLet" WordBreak.MidNumLet
    ∷ named "MidNum" WordBreak.MN
    ∷ named "Numeric" WordBreak.NU
    ∷ named "Single_Quote" WordBreak.SQ
    ∷ named "Double_Quote" WordBreak.DQ
    ∷ named "Katakana" WordBreak.KA
    ∷ named "ExtendNumLet" WordBreak.EX
    ∷ named "Regional_Indicator" WordBreak.RI
    ∷ []

-- the numbers of the files
abbrev pub file_code : File → ℕ
file_code Cluster = 0
file_code Word = 1

abbrev pub names_of : File → List Named
names_of Cluster = cluster_names
names_of Word = word_names

-- "Files of Unicode 9 and 10 still hold E_Base, E_Modifier, Glue_After_Zwj and E_Base_GAZ; read them as XX or Other."
abbrev pub old_names : List Named
old_names = named "E_Base" 0 ∷ named "E_Modifier" 0 ∷ named "Glue_After_Zwj" 0 ∷ named "E_Base_GAZ" 0 ∷ []

-- what the value of a line stands for
abbrev pub Value : Type 0
Value = Option ℕ

-- the code of the first row that has the name, byte by byte
unfoldable pub among : List Named → List ℕ → Value
among [] value = None
among (n ∷ ns) value = cond (equal n.name value) (Some n.means) (among ns value)

abbrev pub or_else : Value → Value → Value
or_else (Some c) later = Some c
or_else None later = later

-- what a value stands for: it is of its file alone, and in the case of its letters as published. 12 is "unknown value"
unfoldable pub code_of : File → List ℕ → Value
code_of file value = or_else (among (names_of file) value) (among old_names value)
