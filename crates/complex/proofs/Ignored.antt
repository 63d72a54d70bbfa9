-- The Rust does not look at the results of the first CMAbv and CMBlw runs. "Refusal 6 leaves no such text, and then going on pushes
-- nothing" (SCOPE 6.6). Assumes nothing.
use Prim.Native.Nat.{ℕ}
use mathlib.Core.Path.{◌≡◌, refl, sym, ◌∙◌, ap}
use mathlib.Core.Bool.{Bool, true, false, cond, false≢true}
use mathlib.Core.List.{List, ◌∷◌, map}
use mathlib.Core.Logic.{◌⊎◌, inl, inr}
use lib.Dec.{eqb, ltb}
use lib.ListN.{length, get_or-eq_default}
use borrow.Author.Tests.{ltb-true, ltb-false}
use Rattle.basics.proofs.Tests.{if_intro, by_test, neither}
use Rattle.basics.specs.Sets.{member}
use Rattle.classes.specs.declared.Mode.TheVariants.{Crate}
use Rattle.classes.specs.declared.Shape.TheVariants.{Other}
use Rattle.classes.specs.Scalar.{CGJ}
use Rattle.classes.specs.UseClass.{CMAbv, CMBlw}
use Rattle.token.specs.Token.{scalar_of, kind_of}
use Rattle.parse.specs.declared.Parse.{Parse}
use Rattle.parse.specs.declared.Flow.TheVariants.{GoOn}
use Rattle.parse.specs.declared.Place.{Place}
use Rattle.parse.specs.State.{token_at, at_most, loop, step_of, push_of, note_of, begin, going, with_flow}
use Rattle.parse.specs.Rule.{Rule, run, holds, take, many, is, one_of, thrice_of}
use Rattle.parse.specs.Shared.{emoji_mark, emoji_extension, emoji_turn, emojis, newline, other_arm}
use Rattle.parse.proofs.Keeps.{run_mode}
use Rattle.parse.proofs.Steps.{going_flow}
use Rattle.parse.proofs.Runs.{run_still, run_seq, run_stays}
use Rattle.complex.specs.Grammar.{given, by_kind, base_vs, symbol_marks, consonant_marks, is_coeng, halant, opens_halant, halant_base, is_vowel_modifier, vowel_modifier, medials, vowels, finals, syllable, marked_syllable, is_symbol_mark, standard_tail, standard, halant_number, number, symbol, letter, cluster}
use Rattle.complex.specs.Ignored.{syllable_classes, Unbarred, ignoring, marked_syllable_as_rust, only_above, only_below, Tree, plain, place, after, fork, rule_of, run_of, cluster_tree, cluster_as_rust, unless_ended, no_more, Same, ruled, pushes}
use Rattle.complex.proofs.Spent.{Passed, many_spent, syllable_idle}

module _ (text : List ℕ) (unbarred : Unbarred text) (i : ℕ) where
  -- a U+034F is neither CMBlw nor of a class that the tail asks for
  joiner_none : scalar_of (token_at text i) ≡ CGJ → (eqb (kind_of (token_at text i)) CMBlw ≡ false) × (member syllable_classes (kind_of (token_at text i)) ≡ false)
  joiner_none e = by_test (ltb i (length text))
      (λ h. neither _ _ (unbarred i (ltb-true i (length text) h) e))
      (λ h. rw (get_or-eq_default text 0 (ltb-false i (length text) h)) (refl, refl))

  -- nor is a token that ended the first run
  above_none : Passed CMAbv (token_at text i) → (eqb (kind_of (token_at text i)) CMBlw ≡ false) × (member syllable_classes (kind_of (token_at text i)) ≡ false)
  above_none (inl e) = rw e (refl, refl)
  above_none (inr e) = joiner_none e

  -- and one that ended the second is of no class that the tail asks for
  below_none : Passed CMBlw (token_at text i) → member syllable_classes (kind_of (token_at text i)) ≡ false
  below_none (inl e) = rw e
  below_none (inr e) = (joiner_none e).1

go_on : (s : Parse) → going s ≡ true → with_flow GoOn s ≡ s
go_on s g = ap (λ f. with_flow f s) (sym (going_flow s.flow g))

ignoring_going : (r : Rule) (text : List ℕ) (s : Parse) → going s ≡ true → ignoring r text s ≡ with_flow GoOn (run r text s)
ignoring_going r text s g = if_intro (λ q. q ≡ with_flow GoOn (run r text s)) (going s) _ _ (λ h. refl) (λ h. absurd (false≢true (sym h ∙ g)))

ignoring_still : (r : Rule) (text : List ℕ) (s : Parse) → going s ≡ false → ignoring r text s ≡ s
ignoring_still r text s g = if_intro (λ q. q ≡ s) (going s) _ _ (λ h. absurd (false≢true (sym g ∙ h))) (λ h. refl)

-- the same parse but for the flow, where the one goes on
abbrev Alike : Parse → Parse → Type 0
Alike s q = (s ≡ q) ⊎ (s ≡ with_flow GoOn q)

alike_of : (a b x y : Parse) → a ≡ x → b ≡ y → Alike x y → Alike a b
alike_of a b x y e h k = rw (e, h) k

alike_if : (b : Bool) (x y u v : Parse) → Alike x u → Alike y v → Alike (cond b x y) (cond b u v)
alike_if true x y u v h k = h
alike_if false x y u v h k = k

alike_same : (text : List ℕ) (s q : Parse) → Alike s q → Same text s q
alike_same text s q (inl e) = rw e (refl, refl)
alike_same text s q (inr e) = rw e (refl, refl)

module _ (khmer : Bool) (text : List ℕ) where
  marks_seq : (s : Parse) → run (many CMBlw) text (run (many CMAbv) text s) ≡ run consonant_marks text s
  unfolding consonant_marks
  marks_seq s = sym (run_seq _ _ text s)

  marked_seq : (s : Parse) → run (marked_syllable khmer) text s ≡ run (syllable khmer) text (run consonant_marks text s)
  unfolding marked_syllable
  marked_seq s = run_seq _ _ text s

  ended : (q : Parse) → going q ≡ false → with_flow GoOn q ≡ unless_ended khmer text q
  ended q h = if_intro (λ u. with_flow GoOn q ≡ u) (going q) _ _ (λ g. absurd (false≢true (sym h ∙ g))) (λ g. refl)

  -- the rule does the same, but for the flow
  alike_marked : (s : Parse) → Alike (no_more khmer text s) (run (marked_syllable khmer) text s)
  alike_marked s = if_intro (λ u. Alike u (run (marked_syllable khmer) text s)) (going s) _ _
      (λ g. if_intro (λ u. Alike u (run (marked_syllable khmer) text s)) (going q) _ _
      (λ h. inl (sym (marked_seq s)))
      (λ h. inr (ap (with_flow GoOn) (sym (marked_seq s ∙ run_still (syllable khmer) text q h)))))
      (λ g. inl (sym (run_still (marked_syllable khmer) text s g)))
    where
      q : Parse
      q = run consonant_marks text s

  module _ (unbarred : Unbarred text) where
    -- behind the first run, where it goes on
    below : (s : Parse) → s.mode ≡ Crate → going s ≡ true → run (syllable khmer) text (ignoring (many CMBlw) text s) ≡ unless_ended khmer text (run (many CMBlw) text s)
    below s m g =
        let q = run (many CMBlw) text s in
        ap (run (syllable khmer) text) (ignoring_going (many CMBlw) text s g)
        ∙ by_test (going q)
        (λ h. ap (run (syllable khmer) text) (go_on q h) ∙ goes q h)
        (λ h. syllable_idle text (with_flow GoOn q) (below_none text unbarred q.at ((many_spent text CMBlw s m g).1 h)) khmer ∙ ended q h)
      where
        goes : (q : Parse) → going q ≡ true → run (syllable khmer) text q ≡ unless_ended khmer text q
        goes q h = if_intro (λ u. run (syllable khmer) text q ≡ u) (going q) _ _ (λ g. refl) (λ g. absurd (false≢true (sym g ∙ h)))

    -- where the first run has ended
    above : (q : Parse) → going q ≡ false → Passed CMAbv (token_at text q.at) → run (syllable khmer) text (ignoring (many CMBlw) text (with_flow GoOn q)) ≡ unless_ended khmer text (run (many CMBlw) text q)
    above q h p =
        let none = above_none text unbarred q.at p in
        ap (run (syllable khmer) text)
        (ignoring_going (many CMBlw) text (with_flow GoOn q) refl
        ∙ ap (with_flow GoOn) (run_stays (is CMBlw) (take Other) text (with_flow GoOn q) none.0))
        ∙ syllable_idle text (with_flow GoOn q) none.1 khmer
        ∙ ended q h
        ∙ ap (unless_ended khmer text) (sym (run_still (many CMBlw) text q h))

    -- With refusal 6 going on pushes nothing, whatever the parse that comes to the two runs in crate mode.
    pub no_more_lem : (s : Parse) → s.mode ≡ Crate → marked_syllable_as_rust khmer text s ≡ no_more khmer text s
    no_more_lem s m = if_intro (λ u. marked_syllable_as_rust khmer text s ≡ u) (going s) _ _
        (λ g. let spent = many_spent text CMAbv s m g in
        ap rest (ignoring_going (many CMAbv) text s g)
        ∙ by_test (going q) (λ h. ap rest (go_on q h) ∙ below q spent.0 h) (λ h. above q h (spent.1 h))
        ∙ ap (unless_ended khmer text) (marks_seq s))
        (λ g. ap rest (ignoring_still (many CMAbv) text s g)
        ∙ ap (run (syllable khmer) text) (ignoring_still (many CMBlw) text s g)
        ∙ run_still (syllable khmer) text s g)
      where
        q : Parse
        q = run (many CMAbv) text s

        rest : Parse → Parse
        rest u = run (syllable khmer) text (ignoring (many CMBlw) text u)

    tree_alike : (d : Tree) (s : Parse) → s.mode ≡ Crate → Alike (run_of (marked_syllable_as_rust khmer) d text s) (run (rule_of (marked_syllable khmer) d) text s)
    unfolding run
    tree_alike (plain r) s m = inl refl
    tree_alike place s m = alike_of _ _ _ _ (no_more_lem s m) refl (alike_marked s)
    tree_alike (after r d) s m = tree_alike d (run r text s) (run_mode r text s ∙ m)
    tree_alike (fork p d e) s m = alike_if (holds text p s) _ _ _ _ (tree_alike d s m) (tree_alike e s m)

-- the tree is the grammar
pub cluster_tree_lem : (khmer : Bool) → rule_of (marked_syllable khmer) cluster_tree ≡ cluster khmer
unfolding standard standard_tail letter cluster
cluster_tree_lem khmer = refl

-- So a call of the Rust hands back the cluster and the place that the rule's call does.
pub ignored : (khmer : Bool) (text : List ℕ) → Unbarred text → (p : Place) → Same text (cluster_as_rust khmer text (begin p Crate true)) (run (cluster khmer) text (begin p Crate true))
ignored khmer text unbarred p =
    let s = begin p Crate true in
    alike_same text (cluster_as_rust khmer text s) (run (cluster khmer) text s)
    (alike_of _ _ _ _ refl (ap (λ r. run r text s) (sym (cluster_tree_lem khmer))) (tree_alike khmer text unbarred cluster_tree s refl))

-- And without refusal 6 it would push more: the U+034F twice. For the CMAbv run alone every class that refusal 6 bars is needed, and for
-- the CMBlw run alone every one but CMBlw.
abbrev Needed : Bool → (List ℕ → Parse → Parse) → ℕ → List ℕ → Type 0
Needed khmer only kind classes =
    (ruled khmer kind classes ≡ map (λ _. 3) classes)
    × (pushes only kind classes ≡ map (λ _. 4) classes)
    × (pushes (marked_syllable_as_rust khmer) kind classes ≡ map (λ _. 4) classes)

pub needed : (khmer : Bool) → Needed khmer (only_above khmer) CMAbv (CMBlw ∷ syllable_classes) × Needed khmer (only_below khmer) CMBlw syllable_classes
unfolding run one_of thrice_of push_of note_of step_of loop at_most emojis emoji_turn emoji_extension emoji_mark newline other_arm given by_kind base_vs symbol_marks consonant_marks is_coeng halant opens_halant halant_base is_vowel_modifier vowel_modifier medials vowels finals syllable marked_syllable is_symbol_mark standard_tail standard halant_number number symbol letter cluster
needed false = ((refl, refl, refl), (refl, refl, refl))
needed true = ((refl, refl, refl), (refl, refl, refl))
