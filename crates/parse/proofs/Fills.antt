-- A rule that pushes or notes first leaves a character, so its call passes a token: what the progress of a parser is made of.
-- Assumes nothing.
use Prim.Native.Nat.{ℕ, ◌<◌, ◌≤◌}
use mathlib.Core.Path.{◌≡◌, refl, sym, ◌∙◌, ap}
use mathlib.Core.Bool.{Bool, true, false, cond, false≢true}
use mathlib.Core.List.{List}
use mathlib.Core.Logic.{◌⊎◌, inl, inr}
use native.Mathlib.Omega.{arith}
use lib.Dec.{ltb}
use lib.ListN.{length}
use borrow.Author.Tests.{ltb-true, ltb-false, eqb-true}
use Rattle.basics.proofs.Tests.{if_intro, by_test, both_of}
use Rattle.classes.specs.declared.Shape.{Shape}
use Rattle.classes.specs.declared.Shape.TheVariants.{Other}
use Rattle.parse.specs.declared.Parse.{Parse}
use Rattle.parse.specs.declared.Place.{Place}
use Rattle.classes.specs.declared.Mode.{Mode}
use Rattle.classes.specs.declared.Mode.TheVariants.{Crate, Whole}
use Rattle.parse.specs.State.{token_at, place_of, begin, last_room, is_going, going, with_info, put_of, noted_of, push_of, note_of, passes_end, retried_of}
use Rattle.parse.specs.Rule.{Test, Rule, skip, stop, push, note, mark, seq, choose, while, scope, thrice, fit, run, crowded, holds, take_of, thrice_of}
use Rattle.parse.specs.declared.Emoji.TheVariants.{Default}
use Rattle.parse.specs.Rule.{is_emoji, set_emoji}
use Rattle.parse.specs.Shared.{emoji_turn, emojis, newline, other_arm}
use Rattle.parse.proofs.Moves.{moved_case}
use Rattle.parse.proofs.Keeps.{Keeps, run_keeps, step_keeps, take_keeps}
use Rattle.parse.proofs.Runs.{moves, run_goes, run_stays, run_seq, holds_going}
use Rattle.parse.proofs.Conserve.{passes}

-- the cluster has a character
abbrev pub Some : Parse → Type 0
Some s = 0 < s.len

put_some : (t : ℕ) (c : Shape) (s : Parse) → Some (put_of t c s)
put_some t c s = if_intro Some (ltb s.len 32) _ _ (λ h. omega arith) (λ h. omega (arith, ltb-false s.len 32 h))

noted_some : (t : ℕ) (s : Parse) → Some (noted_of t s)
noted_some t s = if_intro Some (ltb 0 s.len) _ _
    (λ h. if_intro Some (ltb s.len 33) _ _ (λ e. ltb-true 0 s.len h) (λ e. ltb-true 0 s.len h)) (λ h. put_some t Other s)

retried_some : (s : Parse) → Some s → Some (retried_of s)
retried_some s i = if_intro Some (passes_end s.mode s.flow s.again) _ _ (λ h. i) (λ h. i)

some_keeps : (text : List ℕ) → Keeps text Some Some
some_keeps text = record {
  put = λ c s g i. put_some (token_at text s.at) c s;
  noted = λ s g i. noted_some (token_at text s.at) s;
  moved = λ s i. moved_case Some (length text) s (λ l h. i) (λ l h. i) (λ l. i);
  marked = λ j s i. i;
  stopped = λ s g i. i;
  resumed = λ s i. i;
  retried = retried_some;
}

-- a character stays
pub run_some : (r : Rule) (text : List ℕ) (s : Parse) → Some s → Some (run r text s)
run_some r text s i = run_keeps text Some Some (some_keeps text) r s i

push_some : (text : List ℕ) (c : Shape) (s : Parse) → Some (push_of text c s)
unfolding push_of
push_some text c s = step_keeps text Some Some (some_keeps text) (put_of (token_at text s.at) c s) (put_some (token_at text s.at) c s)

note_some : (text : List ℕ) (s : Parse) → Some (note_of text s)
unfolding note_of
note_some text s = step_keeps text Some Some (some_keeps text) (noted_of (token_at text s.at) s) (noted_some (token_at text s.at) s)

thrice_some : (text : List ℕ) (c : Shape) (s : Parse) → going s ≡ true → Some (thrice_of text c s)
unfolding thrice_of
thrice_some text c s g = let k = take_keeps text Some Some (some_keeps text) c in
    k (take_of text c (take_of text c s)) (k (take_of text c s) (if_intro Some (going s) _ _ (λ h. push_some text c s) (λ h. absurd (false≢true (sym h ∙ g)))))

-- a rule that only marks
abbrev pub quiet : Rule → Bool
quiet skip = true
quiet stop = false
quiet (push f) = false
quiet note = false
quiet (mark f) = true
quiet (seq a b) = cond (quiet a) (quiet b) false
quiet (choose p a b) = cond (quiet a) (quiet b) false
quiet (while p a) = false
quiet (scope a) = false
quiet (thrice c) = false
quiet (fit p m f) = false

-- such a rule leaves the flow and the place
pub run_quiet : (r : Rule) (text : List ℕ) (s : Parse) → quiet r ≡ true → ((run r text s).flow ≡ s.flow) × ((run r text s).at ≡ s.at)
unfolding run
run_quiet skip text s q = (refl, refl)
run_quiet stop text s q = absurd (false≢true q)
run_quiet (push f) text s q = absurd (false≢true q)
run_quiet note text s q = absurd (false≢true q)
run_quiet (mark f) text s q = if_intro (λ (u : Parse). (u.flow ≡ s.flow) × (u.at ≡ s.at)) (going s) _ _ (λ g. (refl, refl)) (λ g. (refl, refl))
run_quiet (seq a b) text s q =
    let k = both_of (quiet a) (quiet b) q in
    let x = run_quiet a text s k.0 in
    let y = run_quiet b text (run a text s) k.1 in
    (y.0 ∙ x.0, y.1 ∙ x.1)
run_quiet (choose p a b) text s q =
    let k = both_of (quiet a) (quiet b) q in
    if_intro (λ (u : Parse). (u.flow ≡ s.flow) × (u.at ≡ s.at)) (holds text p s) (run a text s) (run b text s) (λ h. run_quiet a text s k.0) (λ h. run_quiet b text s k.1)
run_quiet (while p a) text s q = absurd (false≢true q)
run_quiet (scope a) text s q = absurd (false≢true q)
run_quiet (thrice c) text s q = absurd (false≢true q)
run_quiet (fit p m f) text s q = absurd (false≢true q)

-- so a test stays as it was
pub quiet_holds : (r : Rule) (text : List ℕ) (p : Test) (s : Parse) → quiet r ≡ true → holds text p s ≡ true → holds text p (run r text s) ≡ true
quiet_holds r text p s q h = let k = run_quiet r text s q in rw (k.0, k.1) h

-- a rule that pushes or notes first, after marks at most; where a `fit` stops, 31 were pushed before it
abbrev pub fills : Rule → Bool
fills skip = false
fills stop = false
fills (push f) = true
fills note = true
fills (mark f) = false
fills (seq a b) = cond (fills a) true (cond (quiet a) (fills b) false)
fills (choose p a b) = cond (fills a) (fills b) false
fills (while p a) = false
fills (scope a) = fills a
fills (thrice c) = true
fills (fit p m f) = true

crowded_some : (text : List ℕ) (p : Test) (s : Parse) → crowded text p s ≡ true → Some s
crowded_some text p s h = go s.mode s.len (both_of (last_room s.mode s.len) _ h).0
  where
    go : (m : Mode) (n : ℕ) → last_room m n ≡ true → 0 < n
    go Crate n e = absurd (false≢true e)
    go Whole n e = omega (arith, eqb-true n 31 e)

-- such a rule leaves a character
pub run_fills : (r : Rule) (text : List ℕ) (s : Parse) → fills r ≡ true → going s ≡ true → Some (run r text s)
unfolding run
run_fills skip text s f g = absurd (false≢true f)
run_fills stop text s f g = absurd (false≢true f)
run_fills (push p) text s f g = if_intro Some (going s) _ _ (λ h. push_some text (p (token_at text s.at)) s) (λ h. absurd (false≢true (sym h ∙ g)))
run_fills note text s f g = if_intro Some (going s) _ _ (λ h. note_some text s) (λ h. absurd (false≢true (sym h ∙ g)))
run_fills (mark p) text s f g = absurd (false≢true f)
run_fills (seq a b) text s f g = by_test (fills a)
    (λ h. run_some b text (run a text s) (run_fills a text s h g))
    (λ h. let k = both_of (quiet a) (fills b) (rw h at f) in
    run_fills b text (run a text s) k.1 (ap is_going (run_quiet a text s k.0).0 ∙ g))
run_fills (choose p a b) text s f g =
    let k = both_of (fills a) (fills b) f in
    if_intro Some (holds text p s) (run a text s) (run b text s) (λ h. run_fills a text s k.0 g) (λ h. run_fills b text s k.1 g)
run_fills (while p a) text s f g = absurd (false≢true f)
run_fills (scope a) text s f g = if_intro Some (going s) _ _ (λ h. run_fills a text s f g) (λ h. absurd (false≢true (sym h ∙ g)))
run_fills (fit p m c) text s f g = let t = token_at text s.at in
    if_intro Some (going s) _ _
    (λ h. if_intro Some (crowded text p s) _ _ (λ k. crowded_some text p s k) (λ k. push_some text (c t) (with_info (m t s.info) s)))
    (λ h. absurd (false≢true (sym h ∙ g)))
run_fills (thrice c) text s f g = if_intro Some (going s) _ _ (λ h. retried_some (thrice_of text c s) (thrice_some text c s g)) (λ h. absurd (false≢true (sym h ∙ g)))

-- a loop that is entered, whose body fills
pub while_fills : (p : Test) (a : Rule) (text : List ℕ) (s : Parse) → fills a ≡ true → moves a ≡ true → holds text p s ≡ true → Some (run (while p a) text s)
while_fills p a text s f m h = rw (run_goes p a text s m h) (run_some (while p a) text (run a text s) (run_fills a text s f (holds_going text p s h)))

-- a loop of filling turns leaves a character, or does nothing
pub while_either : (p : Test) (a : Rule) (text : List ℕ) (s : Parse) → fills a ≡ true → moves a ≡ true → Some (run (while p a) text s) ⊎ (run (while p a) text s ≡ s)
while_either p a text s f m = by_test (holds text p s) (λ h. inl (while_fills p a text s f m h)) (λ h. inr (run_stays p a text s h))

pub scope_fills : (a : Rule) (text : List ℕ) (s : Parse) → going s ≡ true → Some (run a text s) → Some (run (scope a) text s)
unfolding run
scope_fills a text s g i = if_intro Some (going s) _ _ (λ h. i) (λ h. absurd (false≢true (sym h ∙ g)))

-- by cases on a choice
pub choose_case : (R : Parse → Type 0) (p : Test) (a b : Rule) (text : List ℕ) (s : Parse) → (holds text p s ≡ true → R (run a text s)) → (holds text p s ≡ false → R (run b text s)) → R (run (choose p a b) text s)
unfolding run
choose_case R p a b text s f g = if_intro R (holds text p s) _ _ f g

-- A call of a rule that pushes or notes first passes a token.
pub fills_pass : (text : List ℕ) → length text ≤ 65535 → (r : Rule) (p : Place) (m : Mode) (j : Bool) → p.at < length text → fills r ≡ true → p.at < place_of text (run r text (begin p m j))
fills_pass text short r p m j inside f = passes text short r p m j inside (run_fills r text (begin p m j) f refl)

-- the emoji loop leaves a character where it begins at an emoji
pub emojis_some : (text : List ℕ) (s : Parse) → holds text is_emoji s ≡ true → Some (run emojis text s)
unfolding emojis emoji_turn
emojis_some text s h =
    let q = run (mark (set_emoji Default)) text s in
    let k : holds text is_emoji q ≡ true = quiet_holds (mark (set_emoji Default)) text is_emoji s refl h in
    rw run_seq (scope_fills (while is_emoji emoji_turn) text q (holds_going text is_emoji q k) (while_fills is_emoji emoji_turn text q refl refl k))

-- and so does the arm O, wherever it begins
pub other_some : (text : List ℕ) (s : Parse) → going s ≡ true → Some (run other_arm text s)
unfolding other_arm newline
other_some text s g = run_fills other_arm text s refl g
