-- Covers, one character and one note at a time: what a push and a note add to it, how many tokens it counts, and what is left without
-- the last character. Assumes nothing.
use Prim.Native.Nat.{ℕ, suc, ◌+◌, ◌-◌, ◌<◌, ◌≤◌}
use mathlib.Core.Path.{◌≡◌}
use mathlib.Core.List.{List, [], ◌∷◌, ◌++◌}
use native.Mathlib.Omega.{arith}
use native.Mathlib.Numerals.{add-one}
use borrow.Author.Tests.{lt-ltb}
use lib.ListN.{length, take, set, get_or}
use lib.Seq.{take-suc, take-suc-set}
use Rattle.parse.specs.declared.Pushed.{Pushed}
use Rattle.parse.specs.State.{noted_more, nothing}
use Rattle.parse.specs.Cover.{IsOf, Covers, notes}

cover_snoc : (look : ℕ → ℕ) (cs : List Pushed) (from to : ℕ) (x : Pushed) → Covers look from cs to → IsOf x (look to) → x.noted ≡ 0 → Covers look from (cs ++ (x ∷ [])) (to + 1)
cover_snoc look [] from to x e i z = (rw e i, rw (e, z) (omega arith))
cover_snoc look (c ∷ cs) from to x e i z = (e.0, cover_snoc look cs (from + 1 + c.noted) to x e.1 i z)

cover_note : (look : ℕ → ℕ) (cs : List Pushed) (from to : ℕ) (x : Pushed) → Covers look from (cs ++ (x ∷ [])) to → to ≤ 65535 → Covers look from (cs ++ (noted_more x ∷ [])) (to + 1)
cover_note look [] from to x e h = (e.0, rw (lt-ltb x.noted 65535 (omega (arith, e.1))) (omega (arith, e.1)))
cover_note look (c ∷ cs) from to x e h = (e.0, cover_note look cs (from + 1 + c.noted) to x e.1 h)

-- every character and every note is one token
pub cover_count : (look : ℕ → ℕ) (cs : List Pushed) (from to : ℕ) → Covers look from cs to → from + (length cs + notes cs) ≡ to
cover_count look [] from to e = omega arith
cover_count look (c ∷ cs) from to e = let h = cover_count look cs (from + 1 + c.noted) to e.1 in omega arith

-- only the places below the last count
pub cover_same : (f g : ℕ → ℕ) (n : ℕ) → ((i : ℕ) → i < n → f i ≡ g i) → (cs : List Pushed) (from to : ℕ) → to ≤ n → Covers f from cs to → Covers g from cs to
cover_same f g n same [] from to h e = e
cover_same f g n same (c ∷ cs) from to h e =
    (rw (same from (omega (arith, cover_count f cs (from + 1 + c.noted) to e.1))) at e.0, cover_same f g n same cs (from + 1 + c.noted) to h e.1)

-- the last character taken off, which has no note
cover_unsnoc : (look : ℕ → ℕ) (cs : List Pushed) (from to : ℕ) (x : Pushed) → Covers look from (cs ++ (x ∷ [])) (to + 1) → x.noted ≡ 0 → Covers look from cs to × IsOf x (look to)
cover_unsnoc look [] from to x e z = let h : from ≡ to = omega (arith, e.1) in (h, rw (← h) e.0)
cover_unsnoc look (c ∷ cs) from to x e z = let k = cover_unsnoc look cs (from + 1 + c.noted) to x e.1 z in ((e.0, k.0), k.1)

-- the same of a cluster of n characters in 32 cells
module _ (look : ℕ → ℕ) (cells : List Pushed) (n from to : ℕ) (full : length cells ≡ 32) where
  pub cells_put : (x : Pushed) → n < 32 → Covers look from (take n cells) to → IsOf x (look to) → x.noted ≡ 0 → Covers look from (take (n + 1) (set cells n x)) (to + 1)
  cells_put x h c i z = rw (add-one n, take-suc-set cells n x (omega (arith, full))) (cover_snoc look (take n cells) from to x c i z)

  cells_noted : (k : ℕ) → n ≡ suc k → k < 32 → Covers look from (take n cells) to → to ≤ 65535 → Covers look from (take n (set cells k (noted_more (get_or cells k nothing)))) (to + 1)
  cells_noted k e h c b =
      let l : k < length cells = omega (arith, full) in
      let d : Covers look from (take k cells ++ (get_or cells k nothing ∷ [])) to = rw (e, take-suc cells k nothing l) at c in
      rw (e, take-suc-set cells k (noted_more (get_or cells k nothing)) l) (cover_note look (take k cells) from to (get_or cells k nothing) d b)

  pub cells_note : 0 < n → n ≤ 32 → Covers look from (take n cells) to → to ≤ 65535 → Covers look from (take n (set cells (n - 1) (noted_more (get_or cells (n - 1) nothing)))) (to + 1)
  cells_note p h c b = cells_noted (n - 1) (omega arith) (omega arith) c b

  cells_taken : (k : ℕ) → n ≡ suc k → k < 32 → Covers look from (take n cells) (to + 1) → (get_or cells k nothing).noted ≡ 0 → Covers look from (take k cells) to × IsOf (get_or cells k nothing) (look to)
  cells_taken k e h c z = cover_unsnoc look (take k cells) from to (get_or cells k nothing) (rw (e, take-suc cells k nothing (omega (arith, full))) at c) z

  pub cells_last : 0 < n → n ≤ 32 → Covers look from (take n cells) (to + 1) → (get_or cells (n - 1) nothing).noted ≡ 0 → Covers look from (take (n - 1) cells) to × IsOf (get_or cells (n - 1) nothing) (look to)
  cells_last p h c z = cells_taken (n - 1) (omega arith) (omega arith) c z
