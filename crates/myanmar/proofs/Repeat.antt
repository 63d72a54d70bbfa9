-- Repeat (b) happens exactly where SCOPE 6.8 has it: a call sets `again` there and nowhere else, and where it is set the text's last
-- token has been pushed a second time. Assumes nothing.
use Prim.Native.Nat.{ℕ, ◌+◌, ◌-◌, ◌<◌}
use mathlib.Core.Path.{◌≡◌, refl, sym, ◌∙◌, ap, subst}
use mathlib.Core.Bool.{Bool, true, false, cond, false≢true}
use mathlib.Core.List.{List}
use native.Mathlib.Omega.{arith}
use lib.Dec.{ltb}
use lib.ListN.{length, get_or, length-set}
use lib.Seq.{get_or-set_same}
use borrow.Author.Tests.{lt-ltb}
use Rattle.basics.proofs.Tests.{if_intro, by_test}
use Rattle.classes.specs.declared.Mode.{Mode}
use Rattle.classes.specs.declared.Mode.TheVariants.{Crate, Whole}
use Rattle.classes.specs.declared.Shape.{Shape}
use Rattle.classes.specs.declared.Shape.TheVariants.{Base, Kinzi, Other}
use Rattle.classes.specs.MyanmarClass.{O}
use Rattle.parse.specs.declared.Parse.{Parse}
use Rattle.parse.specs.declared.Pushed.{Pushed}
use Rattle.parse.specs.declared.Flow.{Flow}
use Rattle.parse.specs.declared.Flow.TheVariants.{GoOn, Stop, Full, End}
use Rattle.parse.specs.State.{token_at, begin, nothing, char_of, is_going, going, put_of, moved_of, step_of, push_of, go_on, passes_end, retried_of}
use Rattle.parse.specs.Rule.{Rule, skip, mark, seq, thrice, run, take, thrice_of, is, is_emoji, set_broken, ◌▸◌}
use Rattle.parse.specs.Shared.{emoji_mark, emoji_extension, emoji_turn, emojis, newline, other_arm}
use Rattle.parse.specs.Cover.{repeats}
use Rattle.parse.proofs.Moves.{moved_case, step_stays}
use Rattle.parse.proofs.Steps.{plus, put_plus}
use Rattle.parse.proofs.Keeps.{Keeps, thrice_keeps, thrice_mode}
use Rattle.parse.proofs.Runs.{run_still, run_seq}
use Rattle.parse.proofs.Fills.{choose_case}
use Rattle.parse.proofs.Free.{free, run_again, thrice_again}
use Rattle.myanmar.specs.Grammar.{is_kinzi, accept_with_as, stacked, post_base_vowel, pwo_tone_mark, medials, vowels, finals, base, kinzi, syllable, is_alone, cluster}
use Rattle.myanmar.specs.Repeat.{ends_behind, repeat_b}
use Rattle.myanmar.proofs.Kinzi.{is_end, kinzi_ends}

going_end : (f : Flow) → is_going f ≡ true → is_end f ≡ true → ⊥
going_end GoOn g e = false≢true e
going_end Stop g e = false≢true e
going_end Full g e = false≢true e
going_end End g e = false≢true g

resumed_end : (f : Flow) → is_end (go_on f) ≡ true → is_end f ≡ true
resumed_end GoOn e = e
resumed_end Stop e = e
resumed_end Full e = e
resumed_end End e = e

passes_end_lem : (m : Mode) (f : Flow) (a : Bool) → passes_end m f a ≡ true → (m ≡ Crate) × (is_end f ≡ true)
passes_end_lem Whole f a e = absurd (false≢true e)
passes_end_lem Crate GoOn a e = absurd (false≢true e)
passes_end_lem Crate Stop a e = absurd (false≢true e)
passes_end_lem Crate Full a e = absurd (false≢true e)
passes_end_lem Crate End a e = (refl, refl)

-- what holds in crate mode alone
abbrev pub in_crate : Mode → Bool → Bool
in_crate Crate b = b
in_crate Whole b = false

pub crate_none : (m : Mode) → in_crate m false ≡ false
crate_none Crate = refl
crate_none Whole = refl

passes_told : (m : Mode) (f : Flow) → passes_end m f false ≡ in_crate m (is_end f)
passes_told Whole f = refl
passes_told Crate GoOn = refl
passes_told Crate Stop = refl
passes_told Crate Full = refl
passes_told Crate End = refl

-- the parts of the grammar that have no kinzi

pub emojis_free : free emojis ≡ true
unfolding emojis emoji_turn emoji_extension emoji_mark
emojis_free = refl

pub other_free : free other_arm ≡ true
unfolding other_arm newline
other_free = refl

pub syllable_free : free syllable ≡ true
unfolding syllable base finals vowels medials pwo_tone_mark post_base_vowel stacked accept_with_as
syllable_free = refl

module _ (text : List ℕ) where
  -- the cluster has its 32 cells; in crate mode a call stays inside the text, and where it is at the end it is on the last token and
  -- the cluster has room
  abbrev Inside : Parse → Type 0
  Inside s = (length s.chars ≡ 32) × (s.mode ≡ Crate → (s.at < length text) × (is_end s.flow ≡ true → (s.done ≡ true) × (s.at + 1 ≡ length text) × (s.len < 32)))

  abbrev Spent : Parse → Type 0
  Spent s = (length s.chars ≡ 32) × (going s ≡ true) × (s.mode ≡ Crate → s.at < length text)

  put_spent : (c : Shape) (s : Parse) → going s ≡ true → Inside s → Spent (put_of (token_at text s.at) c s)
  put_spent c s g i = if_intro Spent (ltb s.len 32) _ _ (λ h. (length-set s.chars s.len _ ∙ i.0, g, λ m. (i.1 m).0)) (λ h. (i.0, g, λ m. (i.1 m).0))

  moved_inside : (s : Parse) → Spent s → Inside (moved_of (length text) s)
  moved_inside s (n, g, i) = moved_case Inside (length text) s
      (λ l h. (n, λ m. (h, λ e. absurd (going_end s.flow g e))))
      (λ l h. (n, λ m. (i m, λ e. (refl, omega (arith, i m, rw (lt-ltb s.at (length text) (i m)) at h), l))))
      (λ l. (n, λ m. (rw m (i m), λ e. absurd (false≢true e))))

  inside : Keeps text Inside Spent
  inside = record {
    put = put_spent;
    noted = λ s g i. if_intro Spent (ltb 0 s.len) _ _
        (λ h. if_intro Spent (ltb s.len 33) _ _ (λ e. (length-set s.chars (s.len - 1) _ ∙ i.0, g, λ m. (i.1 m).0)) (λ e. (i.0, g, λ m. (i.1 m).0)))
        (λ h. put_spent Other s g i);
    moved = moved_inside;
    marked = λ j s i. i;
    stopped = λ s g i. (i.0, λ m. ((i.1 m).0, λ e. absurd (false≢true e)));
    resumed = λ s i. (i.0, λ m. ((i.1 m).0, λ e. (i.1 m).1 (resumed_end s.flow e)));
    retried = λ s i. if_intro Inside (passes_end s.mode s.flow s.again) _ _
        (λ h. (i.0, λ m. ((i.1 m).0, λ e. absurd (false≢true e)))) (λ h. i);
  }

  -- the text has ended, and its last token is to be read again
  abbrev Ready : Parse → Type 0
  Ready s = (s.mode ≡ Crate) × (going s ≡ true) × (s.done ≡ true) × (s.again ≡ true) × (s.at + 1 ≡ length text) × (s.len < 32) × (length s.chars ≡ 32)

  -- it has been read again, and is the last character
  abbrev Shut : Parse → Type 0
  Shut s = (going s ≡ false) × (s.done ≡ true) × (repeats s ≡ 1) × ((get_or s.chars (s.len - 1) nothing).noted ≡ 0)

  kinzi_ready : (s : Parse) → Inside s → s.again ≡ false → (run kinzi text s).again ≡ true → Ready (run kinzi text s)
  unfolding kinzi run
  kinzi_ready s i n = choose_case (λ q. q.again ≡ true → Ready q) is_kinzi (thrice Kinzi) skip text s
      (λ h. if_intro (λ q. q.again ≡ true → Ready q) (going s) _ s
      (λ g. if_intro (λ q. q.again ≡ true → Ready q) (passes_end r.mode r.flow r.again) _ r
      (λ e a. let p = passes_end_lem r.mode r.flow r.again e in
      let k = (kept.1 p.0).1 p.1 in (p.0, refl, k.0, refl, k.1, k.2, kept.0)) (λ e a. absurd (false≢true (sym same ∙ a))))
      (λ g a. absurd (false≢true (sym n ∙ a))))
      (λ h a. absurd (false≢true (sym n ∙ a)))
    where
      r : Parse
      r = thrice_of text Kinzi s

      kept : Inside r
      kept = thrice_keeps text Inside Spent inside Kinzi s i

      same : r.again ≡ false
      same = thrice_again text Kinzi s ∙ n

  -- the next push shuts it
  moved_shut : (s : Parse) → s.mode ≡ Crate → s.done ≡ true → s.again ≡ true → s.at + 1 ≡ length text → (get_or s.chars (s.len - 1) nothing).noted ≡ 0 → Shut (moved_of (length text) s)
  moved_shut s m d a l z = moved_case Shut (length text) s (λ k h. absurd (omega arith)) (λ k h. (refl, refl, rw (m, a), z)) (λ k. (refl, d, rw m, z))

  take_shut : (c : Shape) (s : Parse) → Ready s → Shut (run (take c) text s)
  unfolding run push_of
  take_shut c s (m, g, d, a, l, k, n) =
      let t = token_at text s.at in
      let q : Parse = plus t c s in
      let last : (get_or q.chars (q.len - 1) nothing).noted ≡ 0 =
      ap (λ (x : Pushed). x.noted) (ap (λ i. get_or q.chars i nothing) (omega arith) ∙ get_or-set_same s.chars s.len (char_of t c) nothing (omega arith)) in
      let shut = moved_shut q m d a l last in
      let e : step_of text (put_of t c s) ≡ moved_of (length text) q = ap (step_of text) (put_plus t c s k) ∙ sym (step_stays text q (moved_of (length text) q) refl (rw shut.0)) in
      if_intro Shut (going s) (step_of text (put_of t c s)) s (λ b. subst Shut (sym e) shut) (λ b. absurd (false≢true (sym b ∙ g)))

  seq_shut : (a b : Rule) (s : Parse) → Shut (run a text s) → Shut (run (seq a b) text s)
  seq_shut a b s k = subst Shut (sym (run_still b text (run a text s) k.0) ∙ sym (run_seq a b text s)) k

  base_shut : (s : Parse) → Ready s → Shut (run base text s)
  unfolding base
  base_shut s r = seq_shut (take Base) _ s (take_shut Base s r)

  broken_shut : (s : Parse) → Ready s → Shut (run (mark set_broken ▸ take Other) text s)
  unfolding run
  broken_shut s r = take_shut Other (run (mark set_broken) text s) (if_intro Ready (going s) _ s (λ g. r) (λ g. r))

  syllable_shut : (s : Parse) → Ready s → Shut (run syllable text s)
  unfolding syllable
  syllable_shut s r = choose_case Shut _ base (mark set_broken ▸ take Other) text s (λ h. base_shut s r) (λ h. broken_shut s r)

  abbrev Told : Parse → Type 0
  Told s = s.again ≡ true → Shut s

  free_told : (r : Rule) (s : Parse) → free r ≡ true → s.again ≡ false → Told (run r text s)
  free_told r s k n a = absurd (false≢true (sym (run_again text r s k ∙ n) ∙ a))

  kinzi_told : (s : Parse) → Inside s → s.again ≡ false → Told (run syllable text (run kinzi text s))
  kinzi_told s i n = let q = run kinzi text s in by_test q.again
      (λ a h. syllable_shut q (kinzi_ready s i n a)) (λ a. free_told syllable q syllable_free a)

  cluster_told : (s : Parse) → Inside s → s.again ≡ false → Told (run cluster text s)
  unfolding cluster
  cluster_told s i n = choose_case Told is_emoji _ _ text s (λ h. free_told emojis s emojis_free n)
      (λ h. choose_case Told (is O) _ _ text s (λ e. free_told other_arm s other_free n)
      (λ e. choose_case Told is_alone _ _ text s (λ l. free_told (take Other) s refl n)
      (λ l. subst Told (sym (run_seq kinzi syllable text s)) (kinzi_told s i n))))

  -- # Where it is set

  retried_again : (q : Parse) → q.again ≡ false → (retried_of q).again ≡ in_crate q.mode (is_end q.flow)
  retried_again q n = if_intro (λ (u : Parse). u.again ≡ in_crate q.mode (is_end q.flow)) (passes_end q.mode q.flow q.again) _ _
      (λ h. sym (rw n at h) ∙ passes_told q.mode q.flow) (λ h. n ∙ sym (rw n at h) ∙ passes_told q.mode q.flow)

  module _ (i : ℕ) (m : Mode) where
    abbrev start : Parse
    start = begin (record { at = i }) m true

    -- a call leaves `again` as the tokens say
    abbrev Says : Bool → Parse → Type 0
    Says b q = q.again ≡ in_crate m b

    none : (r : Rule) → free r ≡ true → Says false (run r text start)
    none r f = run_again text r start f ∙ sym (crate_none m)

    kinzi_says : Says (cond (is_kinzi text i) (ends_behind text i) false) (run kinzi text start)
    unfolding kinzi run
    kinzi_says = by_test (is_kinzi text i)
        (λ k. rw k (retried_again (thrice_of text Kinzi start) (thrice_again text Kinzi start) ∙ rw (thrice_mode text Kinzi start, kinzi_ends text i k m)))
        (λ k. rw k (sym (crate_none m)))

    cluster_says : Says (repeat_b text i) (run cluster text start)
    unfolding cluster repeat_b
    cluster_says = choose_case (Says (repeat_b text i)) is_emoji _ _ text start (λ h. rw h (none emojis emojis_free))
        (λ h. choose_case (Says (repeat_b text i)) (is O) _ _ text start (λ e. rw (h, e) (none other_arm other_free))
        (λ e. choose_case (Says (repeat_b text i)) is_alone _ _ text start (λ l. rw (h, e, l) (none (take Other) refl))
        (λ l. rw (h, e, l) (ap (λ (q : Parse). q.again) (run_seq kinzi syllable text start) ∙ run_again text syllable (run kinzi text start) syllable_free ∙ kinzi_says))))

module _ (text : List ℕ) (i : ℕ) (mode : Mode) where
  abbrev result : Parse
  result = run cluster text (begin (record { at = i }) mode true)

  -- `again` is set exactly where SCOPE 6.8 has repeat (b)
  pub again_is : result.again ≡ in_crate mode (repeat_b text i)
  again_is = cluster_says text i mode

  -- and there the text has ended and one token is repeated, as the last character, with no note behind it
  pub again_repeats : i < length text → result.again ≡ true → (repeats result ≡ 1) × ((get_or result.chars (result.len - 1) nothing).noted ≡ 0)
  again_repeats within a = let shut = cluster_told text (begin (record { at = i }) mode true) (refl, λ m. (within, λ e. absurd (false≢true e))) refl a in (shut.2, shut.3)
