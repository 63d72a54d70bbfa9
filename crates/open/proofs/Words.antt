-- A word run on an open text, resumed where it stopped and in the state that it handed back, is the run at once. Assumes nothing.
use Rattle.std.specs.Prelude.{Ok}
use Prim.Native.Nat.{ℕ, zero, suc, ◌+◌, ◌-◌, ◌<◌, ◌≤◌}
use mathlib.Core.Path.{◌≡◌, refl, sym, ◌∙◌, ap}
use mathlib.Core.Bool.{Bool, true, false, ◌&&◌, false≢true}
use mathlib.Core.List.{List, [], ◌∷◌, ◌++◌, append_assoc, map}
use native.Mathlib.Omega.{arith}
use native.Mathlib.Nat.{sub-zero}
use lib.Dec.{eqb, ltb}
use lib.ListN.{length, length-append, get_or-append}
use borrow.Author.Tests.{lt-ltb, ltb-true, ltb-false}
use Rattle.basics.specs.Sets.{member}
use Rattle.basics.specs.Columns.{cells}
use Rattle.classes.specs.WordBreak.{len, HL, ML, MN, NU, DQ}
use Rattle.records.specs.Text.{cell}
use Rattle.basics.proofs.Tests.{by_test, neither}
use Rattle.words.specs.declared.WordState.{WordState}
use Rattle.words.specs.declared.WordStep.{WordStep}
use Rattle.words.specs.Next.{Next}
use Rattle.words.specs.Rules.{AHLetter, MidNumLetQ, next_in, pair_rules, letter_rules, number_rules, flag_rules, exit_of, leaves}
use Rattle.words.specs.Step.{start_state}
use Rattle.words.specs.Run.{next_at, step_from, state_at, answer_at, answers}
use Rattle.open.specs.Grown.{grown}
use Rattle.records.specs.Refusals.{word_verdict}
use Rattle.records.proofs.Marks.{even}
use Rattle.open.specs.Words.{halfway, asks, word_wants, answers_from, state_after, answered_of, answered, Records, grown_words, grown_marks, word_pieces, GrowWords}
use Rattle.open.proofs.Grown.{grown_more}

-- a look-ahead behind a test that fails is none
guarded : (a b x y : Bool) → (a && b) ≡ false → (a && (b && x)) ≡ (a && (b && y))
guarded true true x y e = absurd (false≢true (sym e))
guarded true false x y e = refl
guarded false b x y e = refl

-- where `check_word` does not look ahead, what comes next does not count
rules_alike : (a b pictograph count : ℕ) (next next' : Next) → halfway a b ≡ false → pair_rules a b pictograph (letter_rules a b next (number_rules a b next (flag_rules a b count)))
    ≡ pair_rules a b pictograph (letter_rules a b next' (number_rules a b next' (flag_rules a b count)))
unfolding halfway letter_rules number_rules
rules_alike a b pictograph count next next' h =
    let x = neither (member AHLetter a && member (ML ∷ MidNumLetQ) b) _ h in
    let y = neither (eqb a HL && eqb b DQ) _ x.1 in
    rw (
      guarded (member AHLetter a) (member (ML ∷ MidNumLetQ) b) (next_in AHLetter next) (next_in AHLetter next') x.0,
      guarded (eqb a HL) (eqb b DQ) (next_in (HL ∷ []) next) (next_in (HL ∷ []) next') y.0,
      guarded (eqb a NU) (member (MN ∷ MidNumLetQ) b) (next_in (NU ∷ []) next) (next_in (NU ∷ []) next') y.1,
    )

pub rules_settled : (s : WordState) (b pictograph : ℕ) (next next' : Next) → asks s b ≡ false → exit_of s b pictograph next ≡ exit_of s b pictograph next'
unfolding exit_of asks
rules_settled s b pictograph next next' e = by_test s.first (λ f. rw f)
    (λ f. by_test s.prevent (λ p. rw (f, p)) (λ p. rw (f, p) (rules_alike s.previous b pictograph s.count next next' (rw (f, p) at e))))

module _ (words more marks more' : List ℕ) (even : length marks ≡ length words) where
  next_longer : (i : ℕ) → i < length words → next_at (words ++ more) i ≡ next_at words i
  unfolding next_at
  next_longer i h = rw (lt-ltb i (length words) h, lt-ltb i (length (words ++ more)) (omega (arith, length-append words more)), get_or-append words more 0 i h)

  -- a record that wants no more is answered the same on every longer text, and leaves the same state
  pub step_longer : (s : WordState) (i : ℕ) → i < length words → word_wants words s i ≡ false → step_from (words ++ more) (marks ++ more') s i ≡ step_from words marks s i
  unfolding word_wants
  step_longer s i h e =
      rw (get_or-append words more 0 i h, get_or-append marks more' 0 i (omega arith))
      (by_test (ltb (i + 1) (length words))
      (λ l. rw (next_longer (i + 1) (ltb-true _ _ l)))
      (λ l. ap (leaves s (cell words i)) (rules_settled s (cell words i) (cell marks i) (next_at (words ++ more) (i + 1)) (next_at words (i + 1)) (rw l at e))))

  pub answers_longer : (n : ℕ) (s : WordState) (i : ℕ) → i + n ≤ length words
      → (answers_from (words ++ more) (marks ++ more') (answered_of words marks n s i) s i ≡ answers_from words marks (answered_of words marks n s i) s i)
      × (state_after (words ++ more) (marks ++ more') (answered_of words marks n s i) s i ≡ state_after words marks (answered_of words marks n s i) s i)
  unfolding answers_from state_after answered_of
  answers_longer zero s i l = (refl, refl)
  answers_longer (suc n) s i l = by_test (word_wants words s i) (λ w. rw w (refl, refl))
      (λ w. let later = answers_longer n (step_from words marks s i).state (i + 1) (omega arith) in
      let e = step_longer s i (omega arith) w in
      (rw (w, e) (ap (λ bits. (step_from words marks s i).answer ∷ bits) later.0), rw w (ap (λ (r : WordStep). state_after (words ++ more) (marks ++ more') (answered_of words marks n (step_from words marks s i).state (i + 1)) r.state (i + 1)) e ∙ later.1)))

module _ (words marks : List ℕ) where
  -- a run is a run and its resumption
  split : (m n : ℕ) (s : WordState) (i : ℕ) → answers_from words marks (m + n) s i ≡ answers_from words marks m s i ++ answers_from words marks n (state_after words marks m s i) (i + m)
  unfolding answers_from state_after
  split zero n s i = let a : zero + n ≡ n = omega arith in let b : i + zero ≡ i = omega arith in rw (a, b)
  split (suc m) n s i =
      let a : suc m + n ≡ suc (m + n) = omega arith in
      let b : i + suc m ≡ i + 1 + m = omega arith in
      rw (a, b) (ap (λ bits. (step_from words marks s i).answer ∷ bits) (split m n (step_from words marks s i).state (i + 1)))

  after_more : (n : ℕ) (s : WordState) (i : ℕ) → state_after words marks (suc n) s i ≡ (step_from words marks (state_after words marks n s i) (i + n)).state
  unfolding state_after
  after_more zero s i = ap (λ (k : ℕ). (step_from words marks s k).state) (omega arith)
  after_more (suc n) s i = after_more n (step_from words marks s i).state (i + 1)
      ∙ ap (λ (k : ℕ). (step_from words marks (state_after words marks n (step_from words marks s i).state (i + 1)) k).state) (omega arith)

  -- from the start, they are the states and the answers of the run at once
  pub states_start : (n : ℕ) → state_after words marks n start_state 0 ≡ state_at words marks n
  unfolding state_at
  states_start zero = unfold state_after in refl
  states_start (suc n) = after_more n start_state 0 ∙ ap (λ (k : ℕ). (step_from words marks (state_after words marks n start_state 0) k).state) (omega arith)
      ∙ ap (λ (s : WordState). (step_from words marks s n).state) (states_start n)

  pub answers_start : (n : ℕ) → answers_from words marks n start_state 0 ≡ answers words marks n
  unfolding cells answer_at
  answers_start zero = unfold answers_from in refl
  answers_start (suc n) =
      ap (λ (k : ℕ). answers_from words marks k start_state 0) (omega arith)
      ∙ split n 1 start_state 0
      ∙ rw (answers_start n, states_start n) (unfold answers_from in ap (λ (k : ℕ). answers words marks n ++ ((step_from words marks (state_at words marks n) k).answer ∷ [])) (omega arith))

  -- it never stops earlier than one before the last record
  pub stops_late : (n : ℕ) (s : WordState) (i : ℕ) → i + n ≡ length words → n ≤ suc (answered_of words marks n s i)
  unfolding answered_of word_wants
  stops_late zero s i e = omega arith
  stops_late (suc n) s i e = by_test (ltb (i + 1) (length words))
      (λ l. rw l (omega (arith, stops_late n (step_from words marks s i).state (i + 1) (omega arith))))
      (λ l. omega (arith, ltb-false (i + 1) (length words) l))

  pub answered_most : (n : ℕ) (s : WordState) (i : ℕ) → answered_of words marks n s i ≤ n
  unfolding answered_of
  answered_most zero s i = omega arith
  answered_most (suc n) s i = by_test (word_wants words s i) (λ w. rw w (omega arith)) (λ w. rw w (omega (arith, answered_most n (step_from words marks s i).state (i + 1))))

-- **A run on an open text, and its resumption on a longer one, are the longer one's run at once**
module _ (words more marks more' : List ℕ) (even : length marks ≡ length words) (s : WordState) (i : ℕ) (inside : i ≤ length words) where
  pub words_joined : (n : ℕ) → answers_from (words ++ more) (marks ++ more') (answered words marks s i + n) s i
      ≡ answers_from words marks (answered words marks s i) s i ++ answers_from (words ++ more) (marks ++ more') n (state_after words marks (answered words marks s i) s i) (i + answered words marks s i)
  words_joined n =
      let same = answers_longer words more marks more' even (length words - i) s i (omega arith) in
      split (words ++ more) (marks ++ more') (answered words marks s i) n s i ∙ rw (same.0, same.1)

level : (words marks : List ℕ) → word_verdict words marks ≡ Ok tt → length marks ≡ length words
level words marks a = even len words marks a

-- **"For every way of extending accepted columns to an accepted closed text, the answers put together equal those of the closed text at
-- once"**: from any record and in any state,
pub words_whole : (words marks : List ℕ) (later : List Records) (s : WordState) (i : ℕ) → GrowWords words marks later → i ≤ length words
    → word_pieces words marks later s i ≡ answers_from (grown_words words later) (grown_marks marks later) (length (grown_words words later) - i) s i
unfolding word_pieces grown GrowWords
words_whole words marks [] s i a l = refl
words_whole words marks (r ∷ later) s i a l =
    let m = answered words marks s i in
    let most : m ≤ length words - i = answered_most words marks (length words - i) s i in
    let t = state_after words marks m s i in
    let g = grown_more (words ++ r.words) (map (λ (r : Records). r.words) later) in
    let h = grown_more (marks ++ r.marks) (map (λ (r : Records). r.marks) later) in
    let eg : grown_words (words ++ r.words) later ≡ words ++ (r.words ++ g.0) = g.1 ∙ append_assoc words r.words g.0 in
    let eh : grown_marks (marks ++ r.marks) later ≡ marks ++ (r.marks ++ h.0) = h.1 ∙ append_assoc marks r.marks h.0 in
    let n = length (words ++ (r.words ++ g.0)) - (i + m) in
    let all : length (words ++ (r.words ++ g.0)) - i ≡ m + n = omega (arith, length-append words (r.words ++ g.0)) in
    ap (λ bits. answers_from words marks m s i ++ bits)
    (words_whole (words ++ r.words) (marks ++ r.marks) later t (i + m) a.1 (omega (arith, length-append words r.words)))
    ∙ rw (eg, eh) (sym (words_joined words (r.words ++ g.0) marks (r.marks ++ h.0) (level words marks a.0) s i l n) ∙ ap (λ (k : ℕ). answers_from (words ++ (r.words ++ g.0)) (marks ++ (r.marks ++ h.0)) k s i) (sym all))

-- and from the start the answers of the word run
pub words_run : (words marks : List ℕ) (later : List Records) → GrowWords words marks later
    → word_pieces words marks later start_state 0 ≡ answers (grown_words words later) (grown_marks marks later) (length (grown_words words later))
words_run words marks later a =
    let w = grown_words words later in
    words_whole words marks later start_state 0 a (omega arith)
    ∙ ap (λ (n : ℕ). answers_from w (grown_marks marks later) n start_state 0) (sub-zero (length w))
    ∙ answers_start w (grown_marks marks later) (length w)
