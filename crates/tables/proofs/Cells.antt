-- What a number of a table stands for, and tables checked by one computed test. Assumes nothing.
use Prim.Native.Nat.{ℕ, zero, suc, ◌+◌, ◌-◌, ◌/◌, ◌%◌, ◌<◌}
use mathlib.Core.Path.{◌≡◌, refl, sym, ◌∙◌, ap}
use mathlib.Core.Bool.{Bool, true, false, cond}
use mathlib.Core.List.{List, [], ◌∷◌, map}
use native.Mathlib.Nat.{add-zero, zero-add, add-suc, suc-add, le_of_suc-le-suc, not-suc-le-zero}
use lib.Dec.{eqb, ltb}
use lib.ListN.{get_or}
use Rattle.basics.proofs.Tests.{both_of}
use Rattle.classes.specs.Shape.{shape_code}
use Rattle.classes.specs.declared.Shape.{Shape}
use Rattle.classes.specs.declared.Shape.TheVariants.{Base, Mark, Control, Reph, Kinzi, Halant, VPre, VBlw, VMPre, MedialRa, Anusvara, Vs, Zwnj, Zwj, Other}
use Rattle.parse.specs.Rule.{Rule, skip}
use Rattle.residual.proofs.Residual.{Res, pass, halt, act, put, noted}

-- a cell of a table: the cluster is over and the loop is left, a character, a note, a character of a new cluster; and the rule that is left
pub data Cell : Type 0 where
  over : Cell
  sets_as : Shape → Rule → Cell
  notes : Rule → Cell
  opens : Shape → Rule → Cell

abbrev pub cell_of : ℕ → Res → Cell
cell_of t (pass m) = over
cell_of t (halt m) = over
cell_of t (act m (put f) k) = sets_as (f t) k
cell_of t (act m noted k) = notes k

-- a rule that is over gives way to a new cluster
abbrev pub fresh : Cell → Cell
fresh over = over
fresh (sets_as c k) = opens c k
fresh (notes k) = over
fresh (opens c k) = over

abbrev pub or_fresh : Cell → Cell → Cell
or_fresh over y = fresh y
or_fresh (sets_as c k) y = sets_as c k
or_fresh (notes k) y = notes k
or_fresh (opens c k) y = over

abbrev pub shapes : List Shape
shapes = Base ∷ Mark ∷ Control ∷ Reph ∷ Kinzi ∷ Halant ∷ VPre ∷ VBlw ∷ VMPre ∷ MedialRa ∷ Anusvara ∷ Vs ∷ Zwnj ∷ Zwj ∷ Other ∷ []

abbrev pub shape_at : ℕ → Shape
shape_at c = get_or shapes c Other

-- by the rules of the rows from 1 on
abbrev pub decoded_by : List Rule → ℕ → Cell
decoded_by rules v =
    let k = get_or rules (v / 64 - 1) skip in
    let c = shape_at (v % 16) in
    cond (eqb (v / 16 % 4) 3) over
    (cond (eqb (v / 16 % 4) 2) (notes k)
    (cond (eqb (v / 16 % 4) 1) (opens c k)
    (sets_as c k)))

-- a class that is one, and a row that is one, and not that between two clusters unless the loop is left
abbrev pub okay : ℕ → ℕ → Bool
okay rows v = cond (ltb (v % 16) 15) (cond (ltb (v / 64) rows) (cond (eqb (v / 16 % 4) 3) true (ltb 0 (v / 64))) false) false

abbrev pub tabulate : {A : Type 0} → (ℕ → A) → ℕ → ℕ → List A
tabulate f i zero = []
tabulate f i (suc n) = f i ∷ tabulate f (suc i) n

module _ {A : Type 0} (f : ℕ → A) (g : ℕ → A) where
  from : (i n j : ℕ) (xs : List ℕ) → tabulate f i n ≡ map g xs → j < n → f (i + j) ≡ g (get_or xs j 0)
  from i n j xs e h = sym (get_tab i n j h) ∙ ap (λ l. get_or l j (g 0)) e ∙ get_map xs j
    where
      get_tab : (i n j : ℕ) → j < n → get_or (tabulate f i n) j (g 0) ≡ f (i + j)
      get_tab i zero j h = absurd (not-suc-le-zero h)
      get_tab i (suc n) zero h = ap f (sym (add-zero i))
      get_tab i (suc n) (suc j) h = get_tab (suc i) n j (le_of_suc-le-suc h) ∙ ap f (suc-add i j ∙ sym (add-suc i j))

      get_map : (xs : List ℕ) (j : ℕ) → get_or (map g xs) j (g 0) ≡ g (get_or xs j 0)
      get_map [] j = refl
      get_map (x ∷ xs) zero = refl
      get_map (x ∷ xs) (suc j) = get_map xs j

  pub tab_at : (n : ℕ) (xs : List ℕ) → tabulate f 0 n ≡ map g xs → (j : ℕ) → j < n → f j ≡ g (get_or xs j 0)
  tab_at n xs e j h = ap f (sym (zero-add j)) ∙ from 0 n j xs e h

-- two functions that agree below n, computed
module _ {A : Type 0} where
  get : (g : ℕ → A) (d : A) (i n j : ℕ) → j < n → get_or (tabulate g i n) j d ≡ g (i + j)
  get g d i zero j h = absurd (not-suc-le-zero h)
  get g d i (suc n) zero h = ap g (sym (add-zero i))
  get g d i (suc n) (suc j) h = get g d (suc i) n j (le_of_suc-le-suc h) ∙ ap g (suc-add i j ∙ sym (add-suc i j))

  pub agree : (f g : ℕ → A) (n : ℕ) → tabulate f 0 n ≡ tabulate g 0 n → (j : ℕ) → j < n → f j ≡ g j
  agree f g n e j h = ap f (sym (zero-add j)) ∙ sym (get f (f 0) 0 n j h) ∙ ap (λ l. get_or l j (f 0)) e ∙ get g (f 0) 0 n j h ∙ ap g (zero-add j)

pub code_at : (c : ℕ) → c < 15 → shape_code (shape_at c) ≡ c
code_at c h = agree (λ c. shape_code (shape_at c)) (λ c. c) 15 refl c h

pub map_at : {A B : Type 0} (f : A → B) (xs : List A) (d : A) (j : ℕ) → f (get_or xs j d) ≡ get_or (map f xs) j (f d)
map_at f [] d j = refl
map_at f (x ∷ xs) d zero = refl
map_at f (x ∷ xs) d (suc j) = map_at f xs d j

abbrev pub all_true : List Bool → Bool
all_true [] = true
all_true (b ∷ bs) = cond b (all_true bs) false

pub true_at : (bs : List Bool) → all_true bs ≡ true → (j : ℕ) → get_or bs j true ≡ true
true_at [] e j = refl
true_at (b ∷ bs) e zero = (both_of b (all_true bs) e).0
true_at (b ∷ bs) e (suc j) = true_at bs (both_of b (all_true bs) e).1 j
