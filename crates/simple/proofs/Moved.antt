-- What keeping CR and LF together at 32 characters moved, and that it moved nothing else. Assumes nothing.
use Prim.Native.Nat.{ℕ}
use mathlib.Core.Path.{◌≡◌, refl, sym, ◌∙◌, ap, subst}
use mathlib.Core.Bool.{Bool, true, false, cond, false≢true}
use mathlib.Core.List.{List}
use native.Mathlib.Omega.{arith}
use lib.Dec.{eqb}
use lib.ListN.{length}
use borrow.Author.Tests.{eqb-true}
use Rattle.basics.proofs.Tests.{by_test, both_of}
use Rattle.classes.specs.declared.Mode.{Mode}
use Rattle.classes.specs.declared.Mode.TheVariants.{Crate, Whole}
use Rattle.classes.specs.declared.Shape.{Shape}
use Rattle.classes.specs.declared.Shape.TheVariants.{Base, Control}
use Rattle.classes.specs.ClusterBreak.{CN, CR, LF, PP}
use Rattle.token.specs.Token.{kind_of}
use Rattle.parse.specs.declared.Parse.{Parse}
use Rattle.parse.specs.declared.Space.TheVariants.{Newline}
use Rattle.parse.specs.declared.Flow.TheVariants.{Stop, Full}
use Rattle.parse.specs.State.{token_at, filled_at, last_room, going, with_place, with_flow, with_info, put_of, step_of, push_of}
use Rattle.parse.specs.Rule.{Test, Rule, seq, choose, while, run, crowded, holds, take, accept_as, many_as, is, next_is, is_emoji, set_space}
use Rattle.parse.specs.Shared.{newline, newline_with}
use Rattle.parse.proofs.Keeps.{run_mode}
use Rattle.parse.proofs.Moves.{step_stays}
use Rattle.parse.proofs.Steps.{plus, put_plus, moved_full}
use Rattle.parse.proofs.Runs.{run_still, run_stays, run_seq, run_then, run_else, run_crowded, run_roomy, holds_going}
use Rattle.simple.specs.Grammar.{cluster, start, control, is_extension, extension}
use Rattle.simple.specs.Before.{cluster_before, start_before, control_before}

-- behind the prepended characters stands a CR without the emoji mark, then an LF, and "31 characters are already pushed", in whole mode
abbrev pub parted : List ℕ → Parse → Bool
parted text q = cond (holds text is_emoji q) false (cond (holds text (is CR) q) (crowded text (next_is LF) q) false)

-- the prepended characters of a call
abbrev pub prepended : List ℕ → Parse → Parse
prepended text s = run (many_as PP Base) text s

module _ (text : List ℕ) where
  -- two choices of one test, arm by arm
  choose_same : (p : Test) (a b c d : Rule) (s : Parse) → (holds text p s ≡ true → run a text s ≡ run c text s) → (holds text p s ≡ false → run b text s ≡ run d text s)
      → run (choose p a b) text s ≡ run (choose p c d) text s
  choose_same p a b c d s f g = by_test (holds text p s)
      (λ h. run_then p a b text s h ∙ f h ∙ sym (run_then p c d text s h)) (λ h. run_else p a b text s h ∙ g h ∙ sym (run_else p c d text s h))

  arm_same : (s : Parse) → crowded text (next_is LF) s ≡ false → run (seq (newline_with LF) (accept_as LF Control)) text s ≡ run (seq newline (accept_as LF Control)) text s
  unfolding newline newline_with
  arm_same s h = run_seq _ _ text s ∙ ap (run (accept_as LF Control) text) (run_roomy (next_is LF) (set_space Newline) (λ t. Control) text s h) ∙ sym (run_seq _ _ text s)

  start_same : (s : Parse) → parted text s ≡ false → run start text s ≡ run start_before text s
  unfolding start start_before control control_before
  start_same s n = choose_same is_emoji _ _ _ _ s (λ e. refl)
      (λ e. choose_same (is CN) _ _ _ _ s (λ h. refl)
      (λ h. choose_same (is LF) _ _ _ _ s (λ h. refl)
      (λ h. choose_same (is CR) _ _ _ _ s (λ k. arm_same s (rw (e, k) at n)) (λ k. refl))))

  -- Elsewhere the answer is what it was.
  pub as_before : (s : Parse) → parted text (prepended text s) ≡ false → run cluster text s ≡ run cluster_before text s
  unfolding cluster cluster_before
  as_before s n =
      let q = prepended text s in
      run_seq _ _ text s ∙ run_seq _ _ text q ∙ ap (run (while is_extension extension) text) (start_same q n) ∙ sym (run_seq _ _ text s ∙ run_seq _ _ text q)

  room_roomy : (a b x : Bool) → cond a false (cond b (cond false x false) false) ≡ false
  room_roomy true b x = refl
  room_roomy false true x = refl
  room_roomy false false x = refl

  room_kept : (q : Parse) → last_room q.mode q.len ≡ false → parted text q ≡ false
  room_kept q r = ap (λ b. cond (holds text is_emoji q) false (cond (holds text (is CR) q) (cond b (next_is LF text q.at) false) false)) r
      ∙ room_roomy (holds text is_emoji q) (holds text (is CR) q) (next_is LF text q.at)

  -- "Crate mode does not change."
  pub crate_as_before : (s : Parse) → s.mode ≡ Crate → run cluster text s ≡ run cluster_before text s
  crate_as_before s c = as_before s (room_kept (prepended text s) (ap (λ m. last_room m (prepended text s).len) (run_mode (many_as PP Base) text s ∙ c)))

  room_first : (m : Mode) (n : ℕ) → n ≡ 0 → last_room m n ≡ false
  room_first Crate n e = refl
  room_first Whole n e = ap (λ n. eqb n 31) e

  -- Nor does a call that begins with no prepended character.
  pub unprepended : (s : Parse) → holds text (is PP) s ≡ false → s.len ≡ 0 → run cluster text s ≡ run cluster_before text s
  unprepended s h e = as_before s (subst (λ (q : Parse). parted text q ≡ false) (sym (run_stays (is PP) (take Base) text s h)) (room_kept s (room_first s.mode s.len e)))

  -- a test of one kind fails where one of another holds
  other_kind : (k j : ℕ) (s : Parse) → eqb k j ≡ false → holds text (is k) s ≡ true → holds text (is j) s ≡ false
  other_kind k j s n h = let z = both_of (going s) (is k text s.at) h in
      rw (z.0, eqb-true (kind_of (token_at text s.at)) k z.1) n

  parted_parts : (a b c : Bool) → cond a false (cond b c false) ≡ true → (a ≡ false) × (b ≡ true) × (c ≡ true)
  parted_parts true b c e = absurd (false≢true e)
  parted_parts false b c e = let z = both_of b c e in (refl, z.0, z.1)

  pub newline_stops : (s : Parse) → going s ≡ true → crowded text (next_is LF) s ≡ true → run (newline_with LF) text s ≡ with_flow Stop s
  unfolding newline_with run
  newline_stops s g h = run_crowded (next_is LF) (set_space Newline) (λ t. Control) text s h ∙ rw g

  start_stops : (s : Parse) → parted text s ≡ true → run start text s ≡ with_flow Stop s
  unfolding start control
  start_stops s y =
      let z = parted_parts (holds text is_emoji s) (holds text (is CR) s) (crowded text (next_is LF) s) y in
      run_else is_emoji _ _ text s z.0 ∙ run_else (is CN) _ _ text s (other_kind CR CN s refl z.1) ∙ run_else (is LF) _ _ text s (other_kind CR LF s refl z.1)
      ∙ run_then (is CR) _ _ text s z.1 ∙ run_seq _ _ text s
      ∙ ap (run (accept_as LF Control) text) (newline_stops s (holds_going text (is CR) s z.1) z.2) ∙ run_still (accept_as LF Control) text (with_flow Stop s) refl

  -- where CR is the token at hand
  pub ends_here : (s : Parse) → parted text s ≡ true → run cluster text s ≡ with_flow Stop s
  unfolding cluster
  ends_here s y =
      let z = parted_parts (holds text is_emoji s) (holds text (is CR) s) (crowded text (next_is LF) s) y in
      run_seq _ _ text s ∙ ap (run (seq start (while is_extension extension)) text) (run_stays (is PP) (take Base) text s (other_kind CR PP s refl z.1))
      ∙ run_seq _ _ text s ∙ ap (run (while is_extension extension) text) (start_stops s y) ∙ run_still (while is_extension extension) text (with_flow Stop s) refl

  -- There "the cluster ends before CR, with space none": it is the prepended characters, and its next place is CR's.
  pub ends_before : (s : Parse) → parted text (prepended text s) ≡ true → run cluster text s ≡ with_flow Stop (prepended text s)
  unfolding cluster
  ends_before s y =
      let q = prepended text s in
      run_seq _ _ text s ∙ run_seq _ _ text q ∙ ap (run (while is_extension extension) text) (start_stops q y) ∙ run_still (while is_extension extension) text (with_flow Stop q) refl

  -- a character taken where 31 are pushed is the last
  taken_last : (c : Shape) (s : Parse) → s.len ≡ 31 → ((push_of text c s).len ≡ 32) × (going (push_of text c s) ≡ false)
  unfolding push_of
  taken_last c s e =
      let t = token_at text s.at in
      let m = with_flow Full (with_place (filled_at s.mode (length text) s.at) (plus t c s)) in
      let k : step_of text (put_of t c s) ≡ m = ap (step_of text) (put_plus t c s (omega (arith, e)))
      ∙ sym (step_stays text (plus t c s) m (sym (moved_full (length text) (plus t c s) (omega (arith, e)))) refl) in
      (ap (λ (q : Parse). q.len) k ∙ omega (arith, e), ap going k)

  newline_last : (s : Parse) → going s ≡ true → s.len ≡ 31 → ((run newline text s).len ≡ 32) × (going (run newline text s) ≡ false)
  unfolding newline run
  newline_last s g e = rw g (rw g (taken_last Control (with_info (set_space Newline (token_at text s.at) s.info) s) e))

  last_room_lem : (m : Mode) (n : ℕ) → last_room m n ≡ true → n ≡ 31
  last_room_lem Crate n e = absurd (false≢true e)
  last_room_lem Whole n e = eqb-true n 31 e

  start_filled : (s : Parse) → parted text s ≡ true → ((run start_before text s).len ≡ 32) × (going (run start_before text s) ≡ false)
  unfolding start_before control_before
  start_filled s y =
      let z = parted_parts (holds text is_emoji s) (holds text (is CR) s) (crowded text (next_is LF) s) y in
      let room = both_of (last_room s.mode s.len) _ z.2 in
      let full = newline_last s (holds_going text (is CR) s z.1) (last_room_lem s.mode s.len room.0) in
      let there : run start_before text s ≡ run newline text s =
      run_else is_emoji _ _ text s z.0 ∙ run_else (is CN) _ _ text s (other_kind CR CN s refl z.1) ∙ run_else (is LF) _ _ text s (other_kind CR LF s refl z.1)
      ∙ run_then (is CR) _ _ text s z.1 ∙ run_seq _ _ text s ∙ run_still (accept_as LF Control) text (run newline text s) full.1 in
      (ap (λ (q : Parse). q.len) there ∙ full.0, ap going there ∙ full.1)

  -- And there the old grammar's answer was another: it took CR as the 32nd.
  pub was_filled : (s : Parse) → parted text (prepended text s) ≡ true → ((run cluster text s).len ≡ 31) × ((run cluster_before text s).len ≡ 32)
  unfolding cluster_before
  was_filled s y =
      let q = prepended text s in
      let z = parted_parts (holds text is_emoji q) (holds text (is CR) q) (crowded text (next_is LF) q) y in
      let full = start_filled q y in (
        ap (λ (p : Parse). p.len) (ends_before s y) ∙ last_room_lem q.mode q.len (both_of (last_room q.mode q.len) _ z.2).0,
        ap (λ (p : Parse). p.len) (run_seq _ _ text s ∙ run_seq _ _ text q ∙ run_still (while is_extension extension) text (run start_before text q) full.1) ∙ full.0,
      )
