-- On plain word texts (SCOPE 8.1) "the word run writes 1 where UAX #29 has a word boundary" (8.2).
-- Assumes nothing.
use Rattle.std.specs.Prelude.{Ok, Some, None}
use Prim.Native.Nat.{ℕ, zero, suc, ◌+◌, ◌-◌, ◌<◌, ◌≤◌}
use mathlib.Core.Path.{◌≡◌, refl, sym, ◌∙◌, ap, subst}
use mathlib.Core.Bool.{Bool, true, false, cond, not, ◌&&◌, and-false, or-false}
use mathlib.Core.List.{List, ◌++◌}
use native.Mathlib.Omega.{arith}
use native.Mathlib.Numerals.{add-one}
use lib.Dec.{eqb, ltb}
use lib.ListN.{length, drop, get_or-eq_default}
use borrow.Author.Tests.{ltb-false, ltb-true, not-true}
use Rattle.basics.proofs.Columns.{cells_same}
use Rattle.basics.proofs.Sets.{every_at}
use Rattle.basics.proofs.Tests.{both}
use Rattle.basics.specs.Sets.{member}
use Rattle.classes.specs.WordBreak.{HL, NU, RI}
use Rattle.records.specs.Text.{cell}
use Rattle.words.specs.declared.WordStep.{WordStep}
use Rattle.words.specs.Rules.{exit_of, leaves, told}
use Rattle.words.specs.Run.{next_at, step_from, state_at, answer_at, answers, run_verdict, run_cells}
use Rattle.uax29.specs.Words.{newlines, ignored, boundary_at, boundaries}
use Rattle.uax29.specs.declared.words.Seen.{Seen}
use Rattle.uax29.specs.WordsSeen.{decided, from_WB1, from_WB3, after, seen_at, ahead}
use Rattle.uax29.proofs.WordsWalk.{ahead_here, ahead_none, boundary_is}
use Rattle.plain.specs.Words.{plain_word_at, is_plain_words}
use Rattle.plain.proofs.WordsStep.{Looks, held, count_of, machine, seen_past, told_same, step_right}

-- the look-ahead
looks_under : (words : List ℕ) (i : ℕ) (there : Bool) → ltb i (length words) ≡ there → Looks (cond there (Some (cell words i)) None) (cell words i)
looks_under words i true e = record { letter = refl; hebrew = or-false (eqb (cell words i) HL); number = or-false (eqb (cell words i) NU) }
looks_under words i false e =
    let z : cell words i ≡ 0 = get_or-eq_default words 0 (ltb-false _ _ e) in
    record { letter = rw z; hebrew = rw z; number = rw z }

looks_at : (words : List ℕ) (i : ℕ) → Looks (next_at words i) (cell words i)
unfolding next_at
looks_at words i = looks_under words i (ltb i (length words)) refl

begun_count : (t : Bool) → ◌≡◌ {A = ℕ} (cond t (cond (t && true) 1 2) 0) (cond t 1 0)
begun_count true = refl
begun_count false = refl

module _ (words pictographs : List ℕ) (plain : is_plain_words words ≡ true) where
  plain_at_lem : (i : ℕ) → i < length words → (member ignored (cell words i) ≡ false) × ((member newlines (cell words i) && eqb (cell words (i + 1)) RI) ≡ false)
  unfolding is_plain_words plain_word_at
  plain_at_lem i l =
      let k = both (not (member ignored (cell words i))) (not (member newlines (cell words i) && eqb (cell words (i + 1)) RI)) (every_at (plain_word_at words) (length words) i plain l) in
      (not-true _ k.0, not-true _ k.1)

  -- WB4 passes over nothing
  seen_past_lem : (i : ℕ) → i < length words → seen_at words (suc i) ≡ seen_past (seen_at words i).near (seen_at words i).odd (cell words i)
  unfolding seen_at after
  seen_past_lem i l = rw (plain_at_lem i l).0

  ahead_past : (i : ℕ) → ahead words i (length words - i) ≡ cell words i
  ahead_past i = under (ltb i (length words)) refl
    where
      under : (there : Bool) → ltb i (length words) ≡ there → ahead words i (length words - i) ≡ cell words i
      under true e = ahead_here words i (ltb-true _ _ e) (plain_at_lem i (ltb-true _ _ e)).0
      under false e = ahead_none words i (ltb-false _ _ e) ∙ sym (get_or-eq_default words 0 (ltb-false _ _ e))

  -- what the step at a record tells
  abbrev Told : Seen → ℕ → WordStep
  Told q i =
      told (cell words i) (held q.near (cell words i) (cell words (i + 1))) (count_of (cell words i) (eqb (cell words i) RI && not q.odd))
      (cond (decided q (cell words i) (cell pictographs i) (cell words (i + 1))) 1 0)

  step_at : (i : ℕ) → i < length words → step_from words pictographs (machine (seen_at words i) (cell words i)) i ≡ Told (seen_at words i) i
  unfolding seen_at exit_of leaves decided from_WB1 from_WB3
  step_at zero l = told_same (cell words 0) _ _ _ _ _ _ (simp and-false) (begun_count (eqb (cell words 0) RI)) refl
  step_at (suc i) l =
      let before = plain_at_lem i (omega arith) in
      let pair : (member newlines (cell words i) && eqb (cell words (suc i)) RI) ≡ false = rw (add-one i) at before.1 in
      subst (λ (q : Seen). step_from words pictographs (machine q (cell words (suc i))) (suc i) ≡ Told q (suc i)) (sym (seen_past_lem i (omega arith)))
      (step_right (seen_at words i).odd (cell pictographs (suc i)) (cell words (suc i + 1)) (next_at words (suc i + 1)) (looks_at words (suc i + 1))
      (seen_at words i).near (cell words i) (cell words (suc i)) before.0 (plain_at_lem (suc i) l).0 pair)

  -- the machine's state says what the rules see
  states : (i : ℕ) → i ≤ length words → state_at words pictographs i ≡ machine (seen_at words i) (cell words i)
  unfolding state_at
  states zero l = unfold seen_at in refl
  states (suc i) l =
      ap (λ s. (step_from words pictographs s i).state) (states i (omega arith))
      ∙ ap (λ (r : WordStep). r.state) (step_at i l)
      ∙ rw (seen_past_lem i l, add-one i)

  -- The answer to every record is whether the rules find a boundary before it.
  pub answer_plain : (i : ℕ) → i < length words → answer_at words pictographs i ≡ boundary_at words pictographs i
  unfolding answer_at
  answer_plain i l =
      ap (λ s. (step_from words pictographs s i).answer) (states i (omega arith))
      ∙ ap (λ (r : WordStep). r.answer) (step_at i l)
      ∙ sym (boundary_is words pictographs i l ∙ rw (ahead_past (i + 1)))

  -- The answers to a whole text are the boundaries, and so are the cells that a run writes; the boundary at the text's end does not
  -- belong to them.
  pub words_plain : answers words pictographs (length words) ≡ boundaries words pictographs (length words)
  words_plain = cells_same (answer_at words pictographs) (boundary_at words pictographs) (length words) answer_plain

  pub word_run_plain : (out : List ℕ) → run_verdict words pictographs (length out) ≡ Ok tt → run_cells words pictographs out ≡ boundaries words pictographs (length words) ++ drop (length words) out
  word_run_plain out e = rw (e, words_plain)
