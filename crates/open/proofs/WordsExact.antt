-- Where a word run stops one before the last record, the next record decides: `check_word` would hold the boundary after it, or not.
-- So more is wanted exactly where the answers are not settled. Assumes nothing.
use Rattle.std.specs.Prelude.{Some, None}
use Prim.Native.Nat.{ℕ, ◌+◌, ◌<◌}
use mathlib.Core.Path.{◌≡◌, refl, ◌∙◌, ap}
use mathlib.Core.Bool.{true, false, ◌&&◌, false≢true}
use mathlib.Core.List.{List, [], ◌∷◌, ◌++◌}
use native.Mathlib.Omega.{arith}
use lib.Dec.{eqb, leb, ltb}
use lib.ListN.{length, length-append, get_or-append}
use lib.Seq.{get_or-append_seam}
use borrow.Author.Tests.{eqb-true, lt-ltb, ltb-false}
use Rattle.basics.specs.Sets.{member}
use Rattle.classes.specs.WordBreak.{len, ALetter, HL, ML, MidNumLet, MN, NU, SQ, DQ, RI}
use Rattle.basics.proofs.Tests.{by_test, both}
use Rattle.records.specs.Text.{cell}
use Rattle.words.specs.declared.WordState.{WordState}
use Rattle.words.specs.declared.Exit.{Exit}
use Rattle.words.specs.Next.{Next}
use Rattle.words.specs.Rules.{AHLetter, MidNumLetQ, pair_rules, letter_rules, number_rules, flag_rules, exit_of, leaves, ruled}
use Rattle.words.specs.Run.{next_at, step_from}
use Rattle.open.specs.Words.{halfway, asks, word_wants}

-- after the first record and not behind a held boundary
abbrev exits : ℕ → ℕ → ℕ → Next → ℕ → Exit
exits a b pictograph next count = pair_rules a b pictograph (letter_rules a b next (number_rules a b next (flag_rules a b count)))

-- a next record that the boundary is held for, and is not at the end
abbrev Decides : WordState → ℕ → ℕ → ℕ → Type 0
Decides s a b pictograph =
    (c : ℕ) × ((ltb c len ≡ true) × (((leaves s b (exits a b pictograph (Some c) s.count)).state.prevent ≡ true) × ((leaves s b (exits a b pictograph None s.count)).state.prevent ≡ false)))

module _ (s : WordState) (pictograph : ℕ) where
  -- the last rules hold no boundary
  flags : (a b : ℕ) → (leaves s b (flag_rules a b s.count)).state.prevent ≡ false
  unfolding leaves flag_rules
  flags a b = by_test (leb 2 s.count)
      (λ l. by_test (eqb b RI) (λ r. rw (l, r)) (λ r. rw (l, r)))
      (λ l. by_test (eqb b RI) (λ r. by_test (eqb a RI) (λ q. rw (l, r, q)) (λ q. rw (l, r, q))) (λ r. rw (l, r)))

  letter : (a b : ℕ) → member AHLetter a ≡ true → member (ML ∷ MidNumLetQ) b ≡ true → Decides s a b pictograph
  unfolding leaves pair_rules letter_rules number_rules flag_rules
  letter a b h k = by_test (eqb a ALetter)
      (λ x. by_test (eqb b ML) (λ y. rw (eqb-true a ALetter x, eqb-true b ML y) (HL, (refl, (refl, flags ALetter ML))))
      (λ y. by_test (eqb b MidNumLet) (λ z. rw (eqb-true a ALetter x, eqb-true b MidNumLet z) (HL, (refl, (refl, flags ALetter MidNumLet))))
      (λ z. by_test (eqb b SQ) (λ t. rw (eqb-true a ALetter x, eqb-true b SQ t) (HL, (refl, (refl, flags ALetter SQ))))
      (λ t. absurd (false≢true (rw (y, z, t) at k))))))
      (λ x. by_test (eqb a HL)
      (λ u. by_test (eqb b ML) (λ y. rw (eqb-true a HL u, eqb-true b ML y) (HL, (refl, (refl, flags HL ML))))
      (λ y. by_test (eqb b MidNumLet) (λ z. rw (eqb-true a HL u, eqb-true b MidNumLet z) (HL, (refl, (refl, flags HL MidNumLet))))
      (λ z. by_test (eqb b SQ) (λ t. rw (eqb-true a HL u, eqb-true b SQ t) (HL, (refl, (refl, refl))))
      (λ t. absurd (false≢true (rw (y, z, t) at k))))))
      (λ u. absurd (false≢true (rw (x, u) at h))))

  number : (a b : ℕ) → eqb a NU ≡ true → member (MN ∷ MidNumLetQ) b ≡ true → Decides s a b pictograph
  unfolding leaves pair_rules letter_rules number_rules flag_rules
  number a b x k = by_test (eqb b MN) (λ y. rw (eqb-true a NU x, eqb-true b MN y) (NU, (refl, (refl, flags NU MN))))
      (λ y. by_test (eqb b MidNumLet) (λ z. rw (eqb-true a NU x, eqb-true b MidNumLet z) (NU, (refl, (refl, flags NU MidNumLet))))
      (λ z. by_test (eqb b SQ) (λ t. rw (eqb-true a NU x, eqb-true b SQ t) (NU, (refl, (refl, flags NU SQ))))
      (λ t. absurd (false≢true (rw (y, z, t) at k)))))

  double : (a b : ℕ) → eqb a HL ≡ true → eqb b DQ ≡ true → Decides s a b pictograph
  unfolding leaves pair_rules letter_rules number_rules flag_rules
  double a b x y = rw (eqb-true a HL x, eqb-true b DQ y) (HL, (refl, (refl, flags HL DQ)))

  decides : (a b : ℕ) → halfway a b ≡ true → Decides s a b pictograph
  unfolding halfway
  decides a b h = by_test (member AHLetter a && member (ML ∷ MidNumLetQ) b)
      (λ x. let k = both (member AHLetter a) _ x in letter a b k.0 k.1)
      (λ x. by_test (eqb a HL && eqb b DQ) (λ y. let k = both (eqb a HL) _ y in double a b k.0 k.1)
      (λ y. let k = both (eqb a NU) (member (MN ∷ MidNumLetQ) b) (rw (x, y) at h) in number a b k.0 k.1))

  later : (b : ℕ) (next : Next) → s.first ≡ false → s.prevent ≡ false → exit_of s b pictograph next ≡ exits s.previous b pictograph next s.count
  unfolding exit_of
  later b next f p = rw (f, p)

  -- where `check_word` looks ahead, a next record of the list leaves another state than the end
  asks_decides : (b : ℕ) → asks s b ≡ true → (c : ℕ) × ((ltb c len ≡ true) × (((ruled s b pictograph (Some c)).state.prevent ≡ true) × ((ruled s b pictograph None).state.prevent ≡ false)))
  unfolding asks
  asks_decides b e = by_test s.first (λ f. absurd (false≢true (rw f at e)))
      (λ f. by_test s.prevent (λ p. absurd (false≢true (rw (f, p) at e)))
      (λ p. let d = decides s.previous b (rw (f, p) at e) in
      (d.0, (d.1.0, (ap (λ (x : Exit). (leaves s b x).state.prevent) (later b (Some d.0) f p) ∙ d.1.1.0, ap (λ (x : Exit). (leaves s b x).state.prevent) (later b None f p) ∙ d.1.1.1)))))

-- **Where a run stops before the last record, the records to come decide**: behind one of some class of the list the boundary after it is
-- held, and at the end it is not. The answer may be the same (`HL SQ`), the state is not.
pub words_unsettled : (words marks : List ℕ) → length marks ≡ length words → (s : WordState) (i : ℕ) → i < length words → word_wants words s i ≡ true
    → (c : ℕ) × ((ltb c len ≡ true) × (((step_from (words ++ (c ∷ [])) (marks ++ (0 ∷ [])) s i).state.prevent ≡ true) × ((step_from words marks s i).state.prevent ≡ false)))
unfolding word_wants next_at
words_unsettled words marks even s i h w = by_test (ltb (i + 1) (length words)) (λ l. absurd (false≢true (rw l at w)))
    (λ l. let last : i + 1 ≡ length words = omega (arith, ltb-false (i + 1) (length words) l) in
    let d = asks_decides s (cell marks i) (cell words i) (rw l at w) in
    let c = d.0 in
    let room : i + 1 < length (words ++ (c ∷ [])) = omega (arith, length-append words (c ∷ [])) in
    let new : cell (words ++ (c ∷ [])) (i + 1) ≡ c = ap (cell (words ++ (c ∷ []))) last ∙ get_or-append_seam words c [] 0 in
    (c, (d.1.0, (rw (get_or-append words (c ∷ []) 0 i h, get_or-append marks (0 ∷ []) 0 i (omega arith), lt-ltb (i + 1) (length (words ++ (c ∷ []))) room, new) d.1.1.0, rw l d.1.1.1))))
