-- The search of the table's columns is the search of its lines; a column after i scalars. Assumes nothing.
use Prim.Native.Nat.{ℕ, zero, suc, ◌+◌, ◌-◌, ◌≤◌, ◌<◌}
use mathlib.Core.Path.{◌≡◌, refl, ◌∙◌, ap}
use mathlib.Core.Bool.{Bool, cond, ◌&&◌}
use mathlib.Core.List.{List, [], ◌∷◌, map}
use native.Mathlib.Numerals.{add-one}
use native.Mathlib.Omega.{arith}
use lib.Dec.{leb}
use lib.ListN.{length, get_or, take, set}
use lib.Seq.{take-suc-set}
use borrow.Author.Tests.{le-leb, lt-leb}
use Rattle.basics.specs.Columns.{cells}
use Rattle.label.specs.declared.lookup.Field.{Field}
use Rattle.label.specs.Lines.{Line, UNKNOWN, field_of, said, seek, has, class_in}
use Rattle.label.specs.Said.{said_at}
use Rattle.label.specs.Table.{table}

-- what is left to search from i on
abbrev pub Left : List ℕ → List ℕ → List ℕ → ℕ → ℕ → Type 0
Left firsts lasts classes x i =
    seek (has firsts lasts x) (λ k. get_or classes k 0) i (length firsts - i) ≡ class_in firsts lasts classes x

pub left_all : (firsts lasts classes : List ℕ) (x : ℕ) → Left firsts lasts classes x 0
unfolding class_in
left_all firsts lasts classes x = let e : length firsts - 0 ≡ length firsts = omega arith in rw e

module _ (firsts lasts classes : List ℕ) (x i : ℕ) (left : Left firsts lasts classes x i) where
  pub found_none : length firsts ≤ i → UNKNOWN ≡ class_in firsts lasts classes x
  unfolding seek
  found_none h = let e : length firsts - i ≡ 0 = omega arith in rw e at left

  module _ (h : i < length firsts) where
    one_more : cond (has firsts lasts x i) (get_or classes i 0) (seek (has firsts lasts x) (λ k. get_or classes k 0) (i + 1) (length firsts - (i + 1))) ≡ class_in firsts lasts classes x
    unfolding seek
    one_more =
        let e : length firsts - i ≡ suc (length firsts - suc i) = omega arith in
        rw (add-one i) (rw e at left)

    pub found_low : x < get_or firsts i 0 → Left firsts lasts classes x (i + 1)
    unfolding has
    found_low k = rw (lt-leb _ _ k) at one_more

    -- last is what the code read
    module _ (low : get_or firsts i 0 ≤ x) (last : ℕ) (e : last ≡ get_or lasts i 0) where
      pub found_high : last < x → Left firsts lasts classes x (i + 1)
      unfolding has
      found_high k = rw (le-leb _ _ low, ← e, lt-leb _ _ k) at one_more

      pub found_here : x ≤ last → (r : ℕ) → r ≡ get_or classes i 0 → r ≡ class_in firsts lasts classes x
      unfolding has
      found_here k r f = f ∙ (rw (le-leb _ _ low, ← e, le-leb _ _ k) at one_more)

-- one line more in front
seek_shift : (p q : ℕ → Bool) (f g : ℕ → ℕ) → ((i : ℕ) → p (suc i) ≡ q i) → ((i : ℕ) → f (suc i) ≡ g i) → (i n : ℕ) → seek p f (suc i) n ≡ seek q g i n
unfolding seek
seek_shift p q f g ep ef i zero = refl
seek_shift p q f g ep ef i (suc n) = rw (ep i, ef i, seek_shift p q f g ep ef (suc i) n)

pub said_in : (field : Line → ℕ) (ls : List Line) (x : ℕ) → class_in (map (λ l. l.first) ls) (map (λ l. l.last) ls) (map field ls) x ≡ said field ls x
unfolding class_in seek has said
said_in field [] x = refl
said_in field (l ∷ ls) x =
    ap (cond (leb l.first x && leb x l.last) (field l))
    (seek_shift
    (has (map (λ l. l.first) (l ∷ ls)) (map (λ l. l.last) (l ∷ ls)) x)
    (has (map (λ l. l.first) ls) (map (λ l. l.last) ls) x)
    (λ i. get_or (map field (l ∷ ls)) i 0)
    (λ i. get_or (map field ls) i 0)
    (λ i. refl)
    (λ i. refl)
    0
    (length (map (λ l. l.first) ls))
    ∙ said_in field ls x)

-- the field that the code was asked for
pub said_field : (field k : Field) (x r : ℕ) → field ≡ k → r ≡ said (field_of k) table x → r ≡ said (field_of field) table x
said_field field k x r e f = rw e f

-- a column after i scalars
pub classed_more : (field : Field) (scalars column : List ℕ) (i v : ℕ) → i < length column → v ≡ said (field_of field) table (get_or scalars i 0)
    → take i column ≡ cells (said_at field scalars) i → take (i + 1) (set column i v) ≡ cells (said_at field scalars) (i + 1)
unfolding cells said_at
classed_more field scalars column i v h e left = rw (add-one i, take-suc-set column i v h, left, e)
