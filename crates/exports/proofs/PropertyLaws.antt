-- A property file by number, and the reader and the lookup as numbers. Assumes nothing.
use Rattle.std.specs.Prelude.{Err, Some, Option, None}
use Prim.Native.Nat.{ℕ, ◌<◌, ◌≤◌}
use mathlib.Core.Path.{◌≡◌, refl, subst, ap}
use mathlib.Core.List.{List, [], ◌∷◌}
use native.Mathlib.Omega.{arith}
use lib.ListN.{length}
use borrow.Author.Tests.{lt-ltb, le-ltb}
use Rattle.records.specs.declared.Refusal.{Refusal}
use Rattle.records.specs.Verdict.{Verdict}
use Rattle.properties.specs.declared.File.{File}
use Rattle.properties.specs.declared.Filled.{Filled}
use Rattle.properties.specs.Ranges.{Ranges, lookup_verdict, filled}
use Rattle.properties.specs.Reading.{read_verdict, read_into, read_ranges, HasRead}
use Rattle.exports.specs.Requests.{which_by, unlisted}
use Rattle.exports.specs.Results.{Told}
use Rattle.exports.specs.Properties.{ranges_for, read_numbers, ReadFor, LookupFor}
use Rattle.exports.proofs.Refusals.{told_tight}

-- with a refusal the ranges are those that were lent, whatever is asked
pub refused_ranges : (q : Option File) (r : Refusal) (s : Ranges) (bytes : List ℕ) → ranges_for q (Err r) s bytes ≡ s
refused_ranges (Some file) r s bytes = refl
refused_ranges None r s bytes = refl

-- the reader
module _ (n : ℕ) (bytes : List ℕ) (s : Ranges) (results : List ℕ) where
  pub read_tight : length results < 4 → ReadFor n bytes s results 9 s.firsts s.lasts s.codes results
  read_tight h =
      rw (lt-ltb (length results) 4 h, refused_ranges (which_by n) _ s bytes)
      (record { told = told_tight (s.held ∷ []) results (omega arith); first = refl; last = refl; code = refl })

  module _ (q : Option File) (e : q ≡ which_by n) (a : Filled) (r : ℕ) (results' : List ℕ) (h : 4 ≤ length results) (told : Told a.verdict (read_numbers a.held) results r results') where
    pub read_outside : (u : Refusal) → q ≡ None → u ≡ unlisted → a ≡ record { verdict = Err u; held = s.held } → ReadFor n bytes s results r s.firsts s.lasts s.codes results'
    read_outside u k eu ea =
        rw (le-ltb (length results) 4 h, ← e, k, ← eu)
        (record { told = subst (λ (b : Filled). Told b.verdict (read_numbers b.held) results r results') ea told; first = refl; last = refl; code = refl })

    pub read_listed : (file : File) (firsts' lasts' codes' : List ℕ) → q ≡ Some file → HasRead file s bytes a firsts' lasts' codes' → ReadFor n bytes s results r firsts' lasts' codes' results'
    unfolding read_ranges
    read_listed file firsts' lasts' codes' k w =
        let judged : Told (read_verdict file s bytes) (read_numbers a.held) results r results' =
        subst (λ (v : Verdict). Told v (read_numbers a.held) results r results') w.judged told in
        let kept : Told (read_verdict file s bytes) (read_numbers (read_into (read_verdict file s bytes) file s bytes).held) results r results' =
        subst (λ (t : Ranges). Told (read_verdict file s bytes) (read_numbers t.held) results r results') w.held judged in
        rw (le-ltb (length results) 4 h, ← e, k)
        (record { told = kept; first = ap (λ (t : Ranges). t.firsts) w.held; last = ap (λ (t : Ranges). t.lasts) w.held; code = ap (λ (t : Ranges). t.codes) w.held })

-- the lookup
module _ (scalars : List ℕ) (clusters words : Ranges) (breaks classes results : List ℕ) where
  pub lookup_tight : length results < 3 → LookupFor scalars clusters words breaks classes results 9 breaks classes results
  lookup_tight h = rw (lt-ltb (length results) 3 h) (record { told = told_tight [] results (omega arith); cluster = refl; word = refl })

  pub lookup_told : (v : Verdict) (r : ℕ) (breaks' classes' results' : List ℕ) → 3 ≤ length results → v ≡ lookup_verdict scalars (length breaks) (length classes) → breaks' ≡ filled v clusters scalars breaks → classes' ≡ filled v words scalars classes → Told v [] results r results' → LookupFor scalars clusters words breaks classes results r breaks' classes' results'
  lookup_told v r breaks' classes' results' h e b c t = rw (le-ltb (length results) 3 h, ← e) (record { told = t; cluster = b; word = c })
