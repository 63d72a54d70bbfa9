-- Why a loop over the calls ends: a call that finds a cluster leaves fewer tokens. Assumes nothing.
use Prim.Native.Nat.{ℕ, suc, ◌-◌, ◌<◌}
use native.Mathlib.Omega.{arith}
use mathlib.Core.Path.{◌≡◌, sym, ap, ◌∙◌}
use mathlib.Core.Bool.{Bool, true, cond}
use lib.ListN.{length}
use Rattle.records.specs.Text.{Text}
use Rattle.segment.specs.Calls.{next_of, refused, end, found}
use Rattle.segment.specs.declared.Answer.{Answer}
use Rattle.segment.specs.declared.Segmenter.{Segmenter}
use Rattle.segment.specs.declared.What.TheVariants.{Found}
use Rattle.segment.proofs.Coverage.{tokens, next_case, accepted_short}
use Rattle.segment.proofs.Progress.{progress}

abbrev pub left : Segmenter → Text → ℕ
left s t = length (tokens s t) - s.place.at

pub fewer : (s : Segmenter) (t : Text) → (next_of s t).what ≡ Found → left (next_of s t).state t < left s t
unfolding refused end found
fewer s t = next_case s t (λ a. a.what ≡ Found → left a.state t < left s t)
    (λ r e h. absurd (let z : ◌≡◌ {A = ℕ} 0 1 = cc in omega arith)) (λ e l h. absurd (let z : ◌≡◌ {A = ℕ} 0 1 = cc in omega arith)) (λ e l h. absurd (let z : ◌≡◌ {A = ℕ} 0 1 = cc in omega arith))
    (λ e l h. omega (arith, progress s.parser s.mode (tokens s t) (accepted_short s.mode s.parser t e) s.place.at l))

-- the turns that a loop has left, which goes on as long as clusters are found
abbrev pub turns : Segmenter → Text → Bool → ℕ
turns s t more = cond more (suc (left s t)) 0

pub turn_falls : (s : Segmenter) (t : Text) (a : Answer) (more : Bool) → more ≡ true → a ≡ next_of s t → a.what ≡ Found → turns a.state t more < turns s t more
turn_falls s t a more m e f = rw (m, e) (omega (arith, fewer s t (sym (ap (λ (b : Answer). b.what) e) ∙ f)))

pub turns_end : (s : Segmenter) (t : Text) (more : Bool) → more ≡ true → 0 < turns s t more
turns_end s t more m = rw m (omega arith)
