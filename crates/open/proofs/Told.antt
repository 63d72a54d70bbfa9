-- What the flow of a parse says: full is 32 characters, and the end sets `done`. Assumes nothing.
use Prim.Native.Nat.{ℕ, ◌+◌, ◌≤◌}
use mathlib.Core.Path.{◌≡◌, refl, sym, ◌∙◌, ap}
use mathlib.Core.Bool.{true, false≢true}
use mathlib.Core.List.{List}
use native.Mathlib.Omega.{arith}
use lib.ListN.{length}
use Rattle.basics.proofs.Tests.{if_intro}
use Rattle.parse.specs.declared.Parse.{Parse}
use Rattle.parse.specs.declared.Flow.{Flow}
use Rattle.parse.specs.declared.Flow.TheVariants.{GoOn, Stop, Full, End}
use Rattle.parse.specs.State.{token_at, with_place, with_flow, with_again, is_going, going, go_on, passes_end}
use Rattle.parse.proofs.Moves.{put_same, noted_same, moved_case}
use Rattle.parse.proofs.Keeps.{Keeps}

-- as a number, so that two flows are told apart
unfoldable pub code : Flow → ℕ
code GoOn = 0
code Stop = 1
code Full = 2
code End = 3

on_full : (f : Flow) → go_on f ≡ Full → f ≡ Full
unfolding code
on_full GoOn e = e
on_full Stop e = absurd (let z : ◌≡◌ {A = ℕ} 0 2 = ap code e in omega arith)
on_full Full e = refl
on_full End e = e

on_end : (f : Flow) → go_on f ≡ End → f ≡ End
unfolding code
on_end GoOn e = e
on_end Stop e = absurd (let z : ◌≡◌ {A = ℕ} 0 3 = ap code e in omega arith)
on_end Full e = e
on_end End e = refl

module _ (text : List ℕ) where
  abbrev pub Told : Parse → Type 0
  Told q = (q.flow ≡ Full → 32 ≤ q.len) × (q.flow ≡ End → q.done ≡ true)

  pub going_told : (q : Parse) → going q ≡ true → Told q
  going_told q g = (λ e. absurd (false≢true (sym (ap is_going e) ∙ g)), λ e. absurd (false≢true (sym (ap is_going e) ∙ g)))

  pub told_keeps : Keeps text Told (λ q. going q ≡ true)
  unfolding code
  told_keeps = record {
    put = λ c s g i. put_same going (λ n cs q. refl) (token_at text s.at) s c ∙ g;
    noted = λ s g i. noted_same going (λ n cs q. refl) (token_at text s.at) s ∙ g;
    moved = λ s j. moved_case Told (length text) s (λ l h. going_told (with_place (s.at + 1) s) j)
        (λ l h. (λ e. absurd (let z : ◌≡◌ {A = ℕ} 3 2 = ap code e in omega arith), λ e. refl)) (λ l. (λ e. l, λ e. absurd (let z : ◌≡◌ {A = ℕ} 2 3 = ap code e in omega arith)));
    marked = λ i s h. h;
    stopped = λ s g h. (λ e. absurd (let z : ◌≡◌ {A = ℕ} 1 2 = ap code e in omega arith), λ e. absurd (let z : ◌≡◌ {A = ℕ} 1 3 = ap code e in omega arith));
    resumed = λ s h. (λ e. h.0 (on_full s.flow e), λ e. h.1 (on_end s.flow e));
    retried = λ s h. if_intro Told (passes_end s.mode s.flow s.again) _ _ (λ e. going_told (with_flow GoOn (with_again s)) refl) (λ e. h);
  }
