-- The act of a rule, one step of a call: a character or a note more, the step behind it, and the U+034F that stand there.
-- Assumes nothing.
use Prim.Native.Nat.{ℕ, ◌-◌, ◌<◌}
use mathlib.Core.Path.{◌≡◌, refl, ◌∙◌, ap}
use mathlib.Core.Bool.{false}
use mathlib.Core.List.{List}
use native.Mathlib.Omega.{arith}
use lib.Dec.{ltb}
use lib.ListN.{length, set, get_or}
use borrow.Author.Tests.{ltb-false}
use Rattle.basics.proofs.Tests.{if_intro}
use Rattle.parse.specs.declared.Parse.{Parse}
use Rattle.parse.specs.State.{token_at, nothing, noted_more, going, with_cells, loop, put_of, noted_of, moved_of, on_joiner, hop, step_of, push_of, note_of}
use Rattle.parse.specs.Rule.{Rule, run}
use Rattle.parse.proofs.Loop.{loop_stays}
use Rattle.parse.proofs.Runs.{run_still}
use Rattle.residual.proofs.Residual.{Act, put, noted, does}

-- a note more

abbrev pub more : Parse → Parse
more s = with_cells s.len (set s.chars (s.len - 1) (noted_more (get_or s.chars (s.len - 1) nothing))) s

pub noted_more_lem : (t : ℕ) (s : Parse) → 0 < s.len → s.len < 32 → noted_of t s ≡ more s
noted_more_lem t s h l = if_intro (λ q. q ≡ more s) (ltb 0 s.len) _ _
    (λ a. if_intro (λ q. q ≡ more s) (ltb s.len 33) _ _ (λ b. refl) (λ b. absurd (omega (arith, l, ltb-false s.len 33 b))))
    (λ a. absurd (omega (arith, h, ltb-false 0 s.len a)))

-- the rule after the U+034F that stand here
abbrev pub pend : List ℕ → Rule → Parse → Parse
pend text k s = run k text (loop text (on_joiner text) (hop text) s)

pub pend_still : (text : List ℕ) (k : Rule) (s : Parse) → going s ≡ false → pend text k s ≡ s
pend_still text k s g = ap (run k text) (loop_stays text (on_joiner text) (hop text) s (rw g)) ∙ run_still k text s g

-- an act is the token put or noted, a step, and the U+034F there
abbrev pub single : List ℕ → Act → Parse → Parse
single text (put f) s = moved_of (length text) (put_of (token_at text s.at) (f (token_at text s.at)) s)
single text noted s = moved_of (length text) (noted_of (token_at text s.at) s)

pub does_single : (text : List ℕ) (k : Rule) (x : Act) (s : Parse) → run k text (does text x s) ≡ pend text k (single text x s)
unfolding push_of note_of step_of
does_single text k (put f) s = refl
does_single text k noted s = refl
