-- The vocabulary of UAX #29's rules: what a rule asks of the characters on the two sides of a place, and how a list of rules decides.
use Rattle.std.specs.Prelude.{ℕ, zero, suc, ◌+◌, ◌-◌, Bool, true, false, cond, not, ◌&&◌, ◌||◌, List, [], ◌∷◌, eqb, length}
use Rattle.basics.specs.Sets.{member}
use Rattle.records.specs.Text.{cell}

-- a character as the rules see it: the code of its class, 1 where it is Extended_Pictographic, and the code of its part in a conjunct,
-- which no rule of Unicode 15.0 asks for
pub record Item : Type 0 where
  pub kind : ℕ
  pub mark : ℕ
  pub conjunct : ℕ

abbrev pub Test : Type 0
Test = Item → Bool

unfoldable pub is : ℕ → Test
is k x = eqb x.kind k

unfoldable pub is_not : ℕ → Test
is_not k x = not (is k x)

-- (A | B | …)
unfoldable pub among : List ℕ → Test
among ks x = member ks x.kind

-- \p{Extended_Pictographic}
unfoldable pub pictographic : Test
pictographic x = eqb x.mark 1

-- One side of a rule, asked of the characters on that side of a place, those nearest to the place first.
abbrev pub Side : Type 0
Side = List Item → Bool

-- nothing is asked
unfoldable pub anything : Side
anything xs = true

-- sot, eot
unfoldable pub edge : Side
edge [] = true
edge (x ∷ xs) = false

-- Any
unfoldable pub any : Side
any xs = not (edge xs)

-- a character
unfoldable pub one : Test → Side
one p [] = false
one p (x ∷ xs) = p x

-- a character, and q beyond it
unfoldable pub next : Test → Side → Side
next p q [] = false
next p q (x ∷ xs) = p x && q xs

-- p*, and q beyond
unfoldable pub many : Test → Side → Side
many p q [] = q []
many p q (x ∷ xs) = q (x ∷ xs) || (p x && many p q xs)

-- (p p)*, and q beyond
unfoldable pub pairs : Test → Side → Side
pairs p q [] = q []
pairs p q (x ∷ []) = q (x ∷ [])
pairs p q (x ∷ y ∷ xs) = q (x ∷ y ∷ xs) || (p x && (p y && pairs p q xs))

-- a rule: its two sides, and whether it says ÷, a boundary, or ×, none
pub record Rule : Type 0 where
  pub before : Side
  pub after : Side
  pub parts : Bool

infixl 10 ◌÷◌
abbrev pub ◌÷◌ : Side → Side → Rule
before ÷ after = record { before = before; after = after; parts = true }

infixl 10 ◌⨯◌
abbrev pub ◌⨯◌ : Side → Side → Rule
before ⨯ after = record { before = before; after = after; parts = false }

unfoldable pub applies : Rule → List Item → List Item → Bool
applies r before after = r.before before && r.after after

-- whether a boundary stands between these characters: the first rule that applies decides, and to the empty text none does
unfoldable pub decide : List Rule → List Item → List Item → Bool
decide [] before after = false
decide (r ∷ rs) before after = cond (applies r before after) r.parts (decide rs before after)

-- The characters of three columns, the classes, the marks and the conjunct codes; what is past the end of its column is 0: no mark, none.
abbrev pub item_in : List ℕ → List ℕ → List ℕ → ℕ → Item
item_in classes marks conjuncts i = record { kind = cell classes i; mark = cell marks i; conjunct = cell conjuncts i }

-- those before a place
unfoldable pub before_in : List ℕ → List ℕ → List ℕ → ℕ → List Item
before_in classes marks conjuncts zero = []
before_in classes marks conjuncts (suc i) = item_in classes marks conjuncts i ∷ before_in classes marks conjuncts i

-- n from a place on
unfoldable pub items_from : List ℕ → List ℕ → List ℕ → ℕ → ℕ → List Item
items_from classes marks conjuncts i zero = []
items_from classes marks conjuncts i (suc n) = item_in classes marks conjuncts i ∷ items_from classes marks conjuncts (i + 1) n

-- those from a place on
abbrev pub after_in : List ℕ → List ℕ → List ℕ → ℕ → List Item
after_in classes marks conjuncts at = items_from classes marks conjuncts at (length classes - at)

-- the same of two columns, where no conjunct is asked for
abbrev pub item_at : List ℕ → List ℕ → ℕ → Item
item_at classes marks i = item_in classes marks [] i

abbrev pub before_of : List ℕ → List ℕ → ℕ → List Item
before_of classes marks at = before_in classes marks [] at

abbrev pub after_of : List ℕ → List ℕ → ℕ → List Item
after_of classes marks at = after_in classes marks [] at
