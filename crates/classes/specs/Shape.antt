-- The class of a pushed character as a number, that which a full run writes for it (SCOPE 4.1).
use Rattle.std.specs.Prelude.{ℕ, List, [], ◌∷◌}
use Rattle.classes.specs.declared.Shape.{Shape}
use Rattle.classes.specs.declared.Shape.TheVariants.{Base, Mark, Control, Reph, Kinzi, Halant, VPre, VBlw, VMPre, MedialRa, Anusvara, Vs, Zwnj, Zwj, Other}

abbrev pub shape_code : Shape → ℕ
shape_code Base = 0
shape_code Mark = 1
shape_code Control = 2
shape_code Reph = 3
shape_code Kinzi = 4
shape_code Halant = 5
shape_code VPre = 6
shape_code VBlw = 7
shape_code VMPre = 8
shape_code MedialRa = 9
shape_code Anusvara = 10
shape_code Vs = 11
shape_code Zwnj = 12
shape_code Zwj = 13
shape_code Other = 14

-- the classes in order
abbrev pub shapes : List Shape
shapes =
    Base ∷ Mark ∷ Control ∷ Reph ∷ Kinzi ∷ Halant ∷ VPre ∷ VBlw ∷ VMPre ∷ MedialRa ∷ Anusvara ∷ Vs ∷ Zwnj ∷ Zwj ∷ Other ∷ []
