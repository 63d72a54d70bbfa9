-- A line of the class table, and what the table says of a scalar.
use Rattle.std.specs.Prelude.{ℕ, zero, suc, Bool, cond, ◌&&◌, List, [], ◌∷◌, leb, length, get_or}
use Rattle.label.specs.declared.lookup.Field.{Field}
use Rattle.label.specs.declared.lookup.Field.TheVariants.{Break, Myanmar, Category, Emoji, Selector}

pub record Line : Type 0 where
  pub first : ℕ
  pub last : ℕ
  pub brk : ℕ
  pub myanmar : ℕ
  pub category : ℕ
  pub emoji : ℕ
  pub selector : ℕ

abbrev pub line : ℕ → ℕ → ℕ → ℕ → ℕ → ℕ → ℕ → Line
line first last brk myanmar category emoji selector =
    record { first = first; last = last; brk = brk; myanmar = myanmar; category = category; emoji = emoji; selector = selector }

abbrev pub field_of : Field → Line → ℕ
field_of Break l = l.brk
field_of Myanmar l = l.myanmar
field_of Category l = l.category
field_of Emoji l = l.emoji
field_of Selector l = l.selector

-- a code of no list: the library refuses it
abbrev pub UNKNOWN : ℕ
UNKNOWN = 255

-- what a field of the first line with the scalar says; UNKNOWN where there is none
unfoldable pub said : (Line → ℕ) → List Line → ℕ → ℕ
said field [] x = UNKNOWN
said field (l ∷ ls) x = cond (leb l.first x && leb x l.last) (field l) (said field ls x)

-- the same over columns: f of the first number from i on, of n, of which p is true
unfoldable pub seek : (ℕ → Bool) → (ℕ → ℕ) → ℕ → ℕ → ℕ
seek p f i zero = UNKNOWN
seek p f i (suc n) = cond (p i) (f i) (seek p f (suc i) n)

unfoldable pub has : List ℕ → List ℕ → ℕ → ℕ → Bool
has firsts lasts x i = leb (get_or firsts i 0) x && leb x (get_or lasts i 0)

unfoldable pub class_in : List ℕ → List ℕ → List ℕ → ℕ → ℕ
class_in firsts lasts classes x = seek (has firsts lasts x) (λ i. get_or classes i 0) 0 (length firsts)
