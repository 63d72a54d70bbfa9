-- What `note` leaves in the columns beside. Assumes nothing.
use Prim.Native.Nat.{ℕ, ◌+◌, ◌<◌}
use mathlib.Core.Path.{◌≡◌, refl}
use mathlib.Core.List.{List, ◌∷◌}
use native.Mathlib.Nat.{le_refl}
use native.Mathlib.Numerals.{add-one}
use native.Mathlib.Omega.{arith}
use lib.ListN.{length, set}
use lib.Seq.{get_or-set_same}
use Rattle.properties.specs.declared.Ruling.{Ruling}
use Rattle.properties.specs.Reading.{holding, held_from}
use Rattle.properties.specs.Inner.{NotedBy}
use Rattle.properties.proofs.Merges.{held_kept}

module _ (ruling : Ruling) (firsts lasts codes : List ℕ) (n : ℕ) where
  pub noted_nothing : ruling ≡ Ruling.Nothing → NotedBy ruling firsts lasts codes n n firsts lasts codes
  noted_nothing e = rw e (record { noted = refl; counted = omega arith })

  pub noted_refused : (refused : ℕ) → ruling ≡ Ruling.Refused refused → NotedBy ruling firsts lasts codes n n firsts lasts codes
  noted_refused refused e = rw e (record { noted = refl; counted = omega arith })

  module _ (first last code : ℕ) (a : n < length firsts) (b : n < length lasts) (c : n < length codes) where
    one_more : held_from (set firsts n first) (set lasts n last) (set codes n code) 0 (n + 1) ≡ holding first last code ∷ held_from firsts lasts codes 0 n
    unfolding held_from
    one_more =
        let z : 0 + n ≡ n = omega arith in
        rw (
          add-one n,
          z,
          get_or-set_same firsts n first 0 a,
          get_or-set_same lasts n last 0 b,
          get_or-set_same codes n code 0 c,
          held_kept firsts lasts codes n n first last code (le_refl n),
        )

    pub noted_range : ruling ≡ Ruling.Range first last code → NotedBy ruling firsts lasts codes n (n + 1) (set firsts n first) (set lasts n last) (set codes n code)
    noted_range e = rw e (record { noted = one_more; counted = omega arith })
