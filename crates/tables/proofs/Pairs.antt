-- The tables with a late row, by pairs of symbols: one law for Myanmar, complex and Khmer. Assumes nothing.
use Prim.Native.Nat.{ℕ, ◌+◌, ◌*◌, ◌/◌, ◌%◌, ◌<◌}
use mathlib.Core.Path.{◌≡◌, sym, ◌∙◌, ap}
use mathlib.Core.Bool.{Bool, true, cond}
use mathlib.Core.List.{List}
use native.Mathlib.Omega.{arith}
use lib.Dec.{ltb}
use lib.ListN.{get_or}
use Rattle.parse.specs.Rule.{Rule}
use Rattle.tables.proofs.Cells.{Cell, decoded_by}

-- symbol a of 34 rows, and symbol e of the late row, whose cells begin at `late`
abbrev pub place_of : ℕ → ℕ → ℕ → ℕ → ℕ
place_of late a e row = cond (ltb row 34) (a * 34 + row) (late + e)

module _ (late most : ℕ) (rules : List Rule) (table : List ℕ) (expected : ℕ → ℕ → Cell) (feasible : ℕ → ℕ → Bool)
    (right : (n : ℕ) → n < most → feasible (n / 210) (n / 35 % 6) ≡ true → expected (n / 35) (n % 35) ≡ decoded_by rules (get_or table (place_of late (n / 35 / 6) (n / 35 % 6) (n % 35)) 0)) where
  pub pair_law : (a e row : ℕ) → (a * 6 + e) * 35 + 35 < most + 1 → e < 6 → row < 35 → feasible a e ≡ true → expected (a * 6 + e) row ≡ decoded_by rules (get_or table (place_of late a e row) 0)
  pair_law a e row m l h f =
      let p : ℕ = a * 6 + e in
      let n : ℕ = p * 35 + row in
      let q : n / 35 ≡ p = omega arith in
      let r : n % 35 ≡ row = omega arith in
      let u : n / 210 ≡ a = omega arith in
      let pa : p / 6 ≡ a = omega arith in
      let pe : p % 6 ≡ e = omega arith in
      let g : feasible (n / 210) (n / 35 % 6) ≡ true = ap (λ x. feasible x (n / 35 % 6)) u ∙ ap (λ x. feasible a (x % 6)) q ∙ ap (feasible a) pe ∙ f in
      sym (ap (λ x. expected x (n % 35)) q ∙ ap (expected p) r)
      ∙ right n (omega arith) g
      ∙ ap (λ x. decoded_by rules (get_or table x 0))
      (ap (λ x. place_of late (x / 6) (x % 6) (n % 35)) q ∙ ap (λ x. place_of late x (p % 6) (n % 35)) pa ∙ ap (λ x. place_of late a x (n % 35)) pe ∙ ap (place_of late a e) r)
