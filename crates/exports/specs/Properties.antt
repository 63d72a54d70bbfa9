-- What the calls over property files tell, and what stands in the lent columns afterwards.
use Rattle.std.specs.Prelude.{ℕ, ◌≡◌, List, [], ◌∷◌, length, Err, Some, Option, None}
use Rattle.records.specs.Refusals.{◌⊳◌}
use Rattle.records.specs.Verdict.{Verdict}
use Rattle.properties.specs.Ranges.{Ranges, lookup_verdict, filled}
use Rattle.properties.specs.Reading.{read_verdict, read_into}
use Rattle.properties.specs.declared.File.{File}
use Rattle.exports.specs.Requests.{which_by, unlisted}
use Rattle.exports.specs.Results.{check_room, read_room, tight, Told}

-- # The reader

abbrev pub read_for : Option File → Ranges → List ℕ → Verdict
read_for (Some file) r bytes = read_verdict file r bytes
read_for None r bytes = Err unlisted

-- the ranges afterwards: with a refusal those that were lent
abbrev pub ranges_for : Option File → Verdict → Ranges → List ℕ → Ranges
ranges_for (Some file) v r bytes = read_into v file r bytes
ranges_for None v r bytes = r

-- the results after the first three: held
abbrev pub read_numbers : ℕ → List ℕ
read_numbers held = held ∷ []

-- what a call tells, and its three columns, which are those of the ranges afterwards
pub record Read (v : Verdict) (after : Ranges) (results : List ℕ) (r : ℕ) (firsts' lasts' codes' results' : List ℕ) : Type 0 where
  pub told : Told v (read_numbers after.held) results r results'
  pub first : firsts' ≡ after.firsts
  pub last : lasts' ≡ after.lasts
  pub code : codes' ≡ after.codes

-- the whole of it, with the results column's room first
abbrev pub read_of : ℕ → List ℕ → Ranges → ℕ → Verdict
read_of file bytes r cells = tight cells read_room ⊳ read_for (which_by file) r bytes

abbrev pub ReadFor : ℕ → List ℕ → Ranges → List ℕ → ℕ → List ℕ → List ℕ → List ℕ → List ℕ → Type 0
ReadFor file bytes r results =
    Read (read_of file bytes r (length results)) (ranges_for (which_by file) (read_of file bytes r (length results)) r bytes) results

-- # The lookup

pub record LookedUp (v : Verdict) (clusters words : Ranges) (scalars breaks classes results : List ℕ) (r : ℕ) (breaks' classes' results' : List ℕ) : Type 0 where
  pub told : Told v [] results r results'
  pub cluster : breaks' ≡ filled v clusters scalars breaks
  pub word : classes' ≡ filled v words scalars classes

abbrev pub LookupFor : List ℕ → Ranges → Ranges → List ℕ → List ℕ → List ℕ → ℕ → List ℕ → List ℕ → List ℕ → Type 0
LookupFor scalars clusters words breaks classes results =
    LookedUp (tight (length results) check_room ⊳ lookup_verdict scalars (length breaks) (length classes)) clusters words scalars breaks classes results
