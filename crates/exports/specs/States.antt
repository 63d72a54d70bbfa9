-- A step over a state that a caller gives as numbers.
use Rattle.std.specs.Prelude.{ℕ, min, Bool, List, length, Ok, Err}
use Rattle.records.specs.Refusals.{refuse, ◌⊳◌}
use Rattle.records.specs.declared.Side.TheVariants.{Neither}
use Rattle.records.specs.Verdict.{Verdict}
use Rattle.exports.specs.Results.{tight, Told}

-- a number as a code: no list has 255 codes, so that a larger number is outside too
abbrev pub narrow : ℕ → ℕ
narrow x = min x 255

-- the step's own refusals; 8 also where a number stands for nothing that a state keeps
unfoldable pub judged : Verdict → Bool → Verdict
judged v bad = v ⊳ refuse bad 8 Neither 0

-- the results after the first three: the state after the step and its answer; with a refusal the numbers that were given and the
-- answer 0 (SCOPE 5.4)
abbrev pub numbers_under : Verdict → List ℕ → List ℕ → List ℕ
numbers_under (Ok _) given after = after
numbers_under (Err r) given after = given

abbrev pub Stepped : Verdict → List ℕ → List ℕ → List ℕ → ℕ → List ℕ → Type 0
Stepped v given after results = Told v (numbers_under v given after) results

-- the same, with the results column's room first
abbrev pub SteppedIn : ℕ → Verdict → List ℕ → List ℕ → List ℕ → ℕ → List ℕ → Type 0
SteppedIn room v given after results = Stepped (tight (length results) room ⊳ v) given after results
