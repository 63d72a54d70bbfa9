-- One call of the simple parser on a plain text, from a boundary: it ends at the next one. Rule by rule over the grammar.
-- Assumes nothing.
use Prim.Native.Nat.{ℕ, zero, suc, ◌+◌, ◌<◌, ◌≤◌}
use mathlib.Core.Path.{◌≡◌, refl, sym, ◌∙◌, ap, subst}
use mathlib.Core.Bool.{Bool, true, false, ◌&&◌, ◌||◌, false≢true}
use mathlib.Core.List.{List, [], ◌∷◌}
use mathlib.Core.Logic.{◌⊎◌, inl, inr, ⊎_elim}
use native.Mathlib.Nat.{le_refl}
use native.Mathlib.Numerals.{add-one}
use native.Mathlib.Omega.{arith}
use lib.Dec.{eqb}
use lib.ListN.{length}
use borrow.Author.Tests.{eqb-true}
use Rattle.basics.specs.Sets.{member}
use Rattle.classes.specs.ClusterBreak.{XX, CN, CR, LF, L, «V», T, LV, LVT, RI, EX, SM, ZWJ, PP}
use Rattle.classes.specs.declared.Mode.{Mode}
use Rattle.classes.specs.declared.Shape.{Shape}
use Rattle.classes.specs.declared.Shape.TheVariants.{Base, Mark, Control, Vs, Zwnj, Zwj}
use Rattle.classes.specs.Scalar.{ZWNJ, VS15, VS16}
use Rattle.records.specs.Text.{cell}
use Rattle.token.specs.Token.{kind_of, break_of, emoji_of}
use Rattle.parse.specs.declared.Parse.{Parse}
use Rattle.parse.specs.declared.Info.{Info}
use Rattle.parse.specs.declared.Flow.TheVariants.{GoOn}
use Rattle.parse.specs.declared.Space.TheVariants.{Newline}
use Rattle.parse.specs.declared.Emoji.TheVariants.{Default, Text, Color}
use Rattle.parse.specs.State.{token_at, begin}
use Rattle.parse.specs.Rule.{skip, stop, note, mark, seq, choose, while, scope, run, take, many_as, accept_as, is, is_break, is_scalar, is_emoji, is_selector, one_of, set_broken, set_emoji, set_space, set_space_from_char, force_normalize}
use Rattle.parse.specs.Shared.{emoji_mark, emoji_extension, emoji_turn, emojis, newline}
use Rattle.simple.specs.Grammar.{cluster, syllable, other, is_extension, extension, extend, combining}
use Rattle.uax29.specs.Clusters.{boundary_at}
use Rattle.plain.specs.Clusters.{extensions}
use Rattle.simple.specs.Before.{cluster_before, start_before, control_before}
use Rattle.simple.proofs.Moved.{unprepended}
use Rattle.plain.proofs.ClustersNeighbours.{kind_case, Columns, Calm, P, Z, P_next, Z_next, Z_start, extension_joins, newline_joins, emoji_joins, calm_other, calm_control, calm_extension, calm_start, calm_stopped, calm_joined}
use Rattle.plain.proofs.ClustersAfter.{Stands, After, seq_after, choose_after, skip_after, mark_after, stop_after, push_after, note_after, while_after, part_after}

-- a stream of tokens that say what the two columns say
pub record Shows (stream breaks marks : List ℕ) : Type 0 where
  pub size : length stream ≡ length breaks
  pub kind : (i : ℕ) → i < length breaks → kind_of (token_at stream i) ≡ cell breaks i
  pub break : (i : ℕ) → i < length breaks → break_of (token_at stream i) ≡ cell breaks i
  pub emoji : (i : ℕ) → i < length breaks → emoji_of (token_at stream i) ≡ cell marks i

or_right : (a b : Bool) → b ≡ true → (a || b) ≡ true
or_right true b e = refl
or_right false b e = e

neither : (a b : Bool) → a ≡ false → b ≡ false → (a || (b || false)) ≡ false
neither a b e f = rw (e, f)

not_extension : (a b c : Bool) → (a || (b || (c || false))) ≡ false → (a ≡ false) × (c ≡ false)
not_extension true b c e = absurd (false≢true (sym e))
not_extension false true c e = absurd (false≢true (sym e))
not_extension false false true e = absurd (false≢true (sym e))
not_extension false false false e = (refl, refl)

-- a place at which no call is left
abbrev pub Nowhere : ℕ → Type 0
Nowhere j = ⊥

module _ (stream breaks marks : List ℕ) (shows : Shows stream breaks marks) (plain : Columns breaks marks) (from : ℕ) (inside : from < length stream) (starts : boundary_at breaks marks from ≡ true) where
  abbrev b : ℕ → Bool
  b = boundary_at breaks marks

  abbrev On : Parse → Type 0
  On q = Stands stream b from GoOn q

  abbrev Left : (ℕ → Type 0) → (ℕ → Type 0) → Parse → Type 0
  Left Q S q = After stream b from Q S q

  -- what the tests of the grammar say of the columns
  module _ (j : ℕ) (h : j < length stream) where
    in_columns : j < length breaks
    in_columns = omega (arith, shows.size)

    kind_is : (k : ℕ) → is k stream j ≡ eqb (cell breaks j) k
    kind_is k = ap (λ x. eqb x k) (shows.kind j in_columns)

    break_is : (k : ℕ) → is_break k stream j ≡ eqb (cell breaks j) k
    break_is k = ap (λ x. eqb x k) (shows.break j in_columns)

    emoji_is : is_emoji stream j ≡ eqb (cell marks j) 1
    emoji_is = ap (λ x. eqb x 1) (shows.emoji j in_columns)

    pub extension_is : is_extension stream j ≡ member extensions (cell breaks j)
    unfolding is_extension one_of
    extension_is = ap (member extensions) (shows.kind j in_columns)

    -- a test that no plain kind meets
    never : (t : ℕ → Bool) → t XX ≡ false → t EX ≡ false → t SM ≡ false → t ZWJ ≡ false → t CR ≡ false → t LF ≡ false → t CN ≡ false → t (kind_of (token_at stream j)) ≡ false
    never t xx ex sm zwj cr lf cn = ap t (shows.kind j in_columns) ∙ kind_case (λ k. t k ≡ false) xx ex sm zwj cr lf cn (cell breaks j) (plain.kind j in_columns)

  -- the token at a place may be taken
  abbrev May : ℕ → Type 0
  May j = (j ≡ from) ⊎ (b j ≡ false)

  may_extend : (j : ℕ) → j < length stream → from ≤ j → member extensions (cell breaks j) ≡ true → May j
  may_extend zero h l e = inl (omega arith)
  may_extend (suc i) h l e = inr (extension_joins breaks marks plain i (in_columns (suc i) h) e)

  module _ (q : Parse) (on : On q) (may : May q.at) (R S : ℕ → Type 0) (r : R (suc q.at)) where
    taken : (c : Shape) → Left R S (run (take c) stream q)
    taken c = push_after stream b from q on may (λ t. c) (λ l. subst R (sym (add-one q.at)) r)

    -- after a mark
    module _ (u : Parse) (onu : On u) (e : u.at ≡ q.at) where
      may_here : May u.at
      may_here = subst May (sym e) may

      next_here : R (u.at + 1)
      next_here = subst R (sym (ap (λ i. i + 1) e ∙ add-one q.at)) r

    marked_taken : (f : ℕ → Info → Info) (c : Shape) → Left R S (run (seq (mark f) (take c)) stream q)
    marked_taken f c = seq_after stream b from (mark f) (take c) q (mark_after stream b from q on f {R = λ j. j ≡ q.at} {T = S} refl)
        (λ u onu e. push_after stream b from u onu (may_here u onu e) (λ t. c) (λ l. next_here u onu e)) (λ j l x. x)

    marked_noted : (f : ℕ → Info → Info) → Left R S (run (seq (mark f) note) stream q)
    marked_noted f = seq_after stream b from (mark f) note q (mark_after stream b from q on f {R = λ j. j ≡ q.at} {T = S} refl)
        (λ u onu e. note_after stream b from u onu (may_here u onu e) (λ l. next_here u onu e)) (λ j l x. x)

  -- `parse_extension`, as long as there is one
  abbrev Quiet : ℕ → Type 0
  Quiet j = Calm breaks marks j

  extension_turn : (S : ℕ → Type 0) (q : Parse) → On q → Quiet q.at → is_extension stream q.at ≡ true → Left Quiet S (run extension stream q)
  unfolding extension extend combining
  extension_turn S q on c h =
      let e : member extensions (cell breaks q.at) ≡ true = sym (extension_is q.at on.inside) ∙ h in
      let may : May q.at = may_extend q.at on.inside on.later e in
      let r : Quiet (suc q.at) = calm_extension breaks marks plain q.at (in_columns q.at on.inside) c e in
      choose_after stream b from q on (is EX) _ _
      (λ x. choose_after stream b from q on (is_scalar ZWNJ) _ _ (λ y. taken q on may Quiet S r Zwnj)
      (λ y. choose_after stream b from q on is_selector _ _ (λ z. taken q on may Quiet S r Vs) (λ z. marked_taken q on may Quiet S r force_normalize Mark)))
      (λ x. choose_after stream b from q on (is SM) _ _ (λ y. marked_taken q on may Quiet S r force_normalize Mark) (λ y. taken q on may Quiet S r Zwj))

  abbrev Ended : ℕ → Type 0
  Ended j = Quiet j × (is_extension stream j ≡ false)

  extensions_after : (S : ℕ → Type 0) (q : Parse) → On q → Quiet q.at → Left Ended S (run (while is_extension extension) stream q)
  unfolding extension extend combining
  extensions_after S q on c = while_after stream b from is_extension extension Quiet S (extension_turn S) refl q on c

  -- the emoji loop: before a turn the call has just begun, or a pictograph, Extend* and ZWJ stand before it
  abbrev Head : ℕ → Type 0
  Head j = (j ≡ from) ⊎ (Z breaks marks j ≡ true)

  abbrev Extended : ℕ → Type 0
  Extended j = P breaks marks j ≡ true

  abbrev Stopped : ℕ → Type 0
  Stopped j = Extended j × (member (EX ∷ ZWJ ∷ []) (cell breaks j) ≡ false)

  may_emoji : (j : ℕ) → j < length stream → Head j → eqb (cell marks j) 1 ≡ true → May j
  may_emoji j h (inl e) m = inl e
  may_emoji zero h (inr z) m = absurd (false≢true (sym (Z_start breaks marks) ∙ z))
  may_emoji (suc i) h (inr z) m = inr (emoji_joins breaks marks plain i (in_columns (suc i) h) z m)

  emoji_mark_turn : (q : Parse) → On q → Extended q.at → is_break EX stream q.at ≡ true → Left Extended Stopped (run emoji_mark stream q)
  unfolding emoji_mark
  emoji_mark_turn q on p h =
      let k : eqb (cell breaks q.at) EX ≡ true = sym (break_is q.at on.inside EX) ∙ h in
      let may : May q.at = may_extend q.at on.inside on.later (let e : cell breaks q.at ≡ EX = eqb-true _ _ k in rw e) in
      let r : Extended (suc q.at) = P_next breaks marks q.at ∙ or_right (eqb (cell marks q.at) 1) _ (rw (k, p)) in
      choose_after stream b from q on (is_scalar ZWNJ) _ _ (λ y. taken q on may Extended Stopped r Zwnj)
      (λ y. choose_after stream b from q on (is_scalar VS16) _ _ (λ z. marked_noted q on may Extended Stopped r (set_emoji Color))
      (λ z. choose_after stream b from q on (is_scalar VS15) _ _ (λ w. marked_noted q on may Extended Stopped r (set_emoji Text)) (λ w. taken q on may Extended Stopped r Mark)))

  joiner_after : (q : Parse) → On q → Extended q.at → is_break EX stream q.at ≡ false → Left Head Stopped (run (choose (is_break ZWJ) (take Zwj) stop) stream q)
  joiner_after q on p n = choose_after stream b from q on (is_break ZWJ) (take Zwj) stop
      (λ h. let k : eqb (cell breaks q.at) ZWJ ≡ true = sym (break_is q.at on.inside ZWJ) ∙ h in
      taken q on (may_extend q.at on.inside on.later (let e : cell breaks q.at ≡ ZWJ = eqb-true _ _ k in rw e)) Head Stopped
      (inr (Z_next breaks marks q.at ∙ rw (k, p))) Zwj)
      (λ h. stop_after stream b from q on (p, neither _ _ (sym (break_is q.at on.inside EX) ∙ n) (sym (break_is q.at on.inside ZWJ) ∙ h)))

  emoji_turn_lem : (q : Parse) → On q → Head q.at → is_emoji stream q.at ≡ true → Left Head Stopped (run emoji_turn stream q)
  unfolding emoji_turn emoji_extension emoji_mark
  emoji_turn_lem q on head h =
      let m : eqb (cell marks q.at) 1 ≡ true = sym (emoji_is q.at on.inside) ∙ h in
      seq_after stream b from (take Base) emoji_extension q
      (taken q on (may_emoji q.at on.inside head m) Extended Stopped (P_next breaks marks q.at ∙ rw m) Base)
      (λ u onu p. seq_after stream b from (while (is_break EX) emoji_mark) _ u
      (while_after stream b from (is_break EX) emoji_mark Extended Stopped emoji_mark_turn refl u onu p)
      (λ v onv x. joiner_after v onv x.0 x.1) (λ j l x. x))
      (λ j l x. x)

  emojis_after : (q : Parse) → On q → q.at ≡ from → is_emoji stream from ≡ true → Left Quiet Nowhere (run emojis stream q)
  unfolding emojis emoji_turn emoji_extension
  emojis_after q on e h = seq_after stream b from (mark (set_emoji Default)) (scope (while is_emoji emoji_turn)) q
      (mark_after stream b from q on (set_emoji Default) {R = λ j. j ≡ from} {T = Nowhere} e)
      (λ u onu x. part_after stream b from (while is_emoji emoji_turn) u onu
      (while_after stream b from is_emoji emoji_turn Head Stopped emoji_turn_lem refl u onu (inl x))
      (λ j l x. ⊎_elim (λ i. absurd (false≢true (sym x.1 ∙ ap (is_emoji stream) i ∙ h)))
      (λ z. calm_joined breaks marks plain j (in_columns j l) z (sym (emoji_is j l) ∙ x.1)) x.0)
      (λ j l x. calm_stopped breaks marks plain j (in_columns j l) x.0 x.1))
      (λ j l x. x)

  -- a call that has just begun, and not at an emoji
  module _ (q : Parse) (on : On q) (e : q.at ≡ from) (m : is_emoji stream q.at ≡ false) where
    abbrev begun : May q.at
    begun = inl e

    abbrev unmarked_here : eqb (cell marks q.at) 1 ≡ false
    unmarked_here = sym (emoji_is q.at on.inside) ∙ m

    -- after a character of a kind that nothing extends
    quiet_after : (k : ℕ) → is k stream q.at ≡ true → eqb k EX ≡ false → eqb k ZWJ ≡ false → (eqb k CR && eqb (cell breaks (suc q.at)) LF) ≡ false → Quiet (suc q.at)
    quiet_after k h ex zwj cr = calm_other breaks marks plain q.at k (eqb-true _ _ (sym (kind_is q.at on.inside k) ∙ h)) ex zwj cr unmarked_here

    other_after : is CR stream q.at ≡ false → Left Quiet Nowhere (run other stream q)
    unfolding other
    other_after cr = choose_after stream b from q on (is RI) _ _
        (λ h. absurd (false≢true (sym (never q.at on.inside (λ k. eqb k RI) refl refl refl refl refl refl refl) ∙ h)))
        (λ h. choose_after stream b from q on is_extension _ _
        (λ x. mark_after stream b from q on set_broken (subst Quiet (sym e) (calm_start breaks marks plain from (in_columns from inside) starts (subst (λ j. member extensions (cell breaks j) ≡ true) e (sym (extension_is q.at on.inside) ∙ x)))))
        (λ x. let n = not_extension (eqb (cell breaks q.at) EX) (eqb (cell breaks q.at) SM) (eqb (cell breaks q.at) ZWJ) (sym (extension_is q.at on.inside) ∙ x) in
        marked_taken q on begun Quiet Nowhere (calm_other breaks marks plain q.at (cell breaks q.at) refl n.0 n.1 (rw (sym (kind_is q.at on.inside CR) ∙ cr)) unmarked_here) set_space_from_char Base))

    syllable_after : is CR stream q.at ≡ false → Left Quiet Nowhere (run syllable stream q)
    unfolding syllable one_of
    syllable_after cr = choose_after stream b from q on (is L) _ _
        (λ h. absurd (false≢true (sym (never q.at on.inside (λ k. eqb k L) refl refl refl refl refl refl refl) ∙ h)))
        (λ h. choose_after stream b from q on (one_of (LV ∷ «V» ∷ [])) _ _
        (λ x. absurd (false≢true (sym (never q.at on.inside (member (LV ∷ «V» ∷ [])) refl refl refl refl refl refl refl) ∙ x)))
        (λ x. choose_after stream b from q on (one_of (LVT ∷ T ∷ [])) _ _
        (λ y. absurd (false≢true (sym (never q.at on.inside (member (LVT ∷ T ∷ [])) refl refl refl refl refl refl refl) ∙ y)))
        (λ y. other_after cr)))

    -- the LF after a CR
    newline_after : is CR stream q.at ≡ true → (u : Parse) → On u → u.at ≡ suc q.at → Left Quiet Nowhere (run (accept_as LF Control) stream u)
    newline_after cr u onu i = choose_after stream b from u onu (is LF) (take Control) skip
        (λ h. let lf : eqb (cell breaks u.at) LF ≡ true = sym (kind_is u.at onu.inside LF) ∙ h in
        taken u onu (inr (subst (λ j. b j ≡ false) (sym i) (newline_joins breaks marks plain q.at (in_columns (suc q.at) (subst (λ j. j < length stream) i onu.inside)) (sym (kind_is q.at on.inside CR) ∙ cr) (subst (λ j. eqb (cell breaks j) LF ≡ true) i lf)))) Quiet Nowhere
        (calm_control breaks marks plain u.at LF (in_columns u.at onu.inside) (eqb-true _ _ lf) (λ x. omega arith) refl refl refl) Control)
        (λ h. skip_after stream b from u onu (subst Quiet (sym i) (quiet_after CR cr refl refl (subst (λ j. eqb (cell breaks j) LF ≡ false) i (sym (kind_is u.at onu.inside LF) ∙ h)))))

    control_after : Left Quiet Nowhere (run control_before stream q)
    unfolding control_before newline
    control_after = choose_after stream b from q on (is CN) _ _
        (λ h. taken q on begun Quiet Nowhere (quiet_after CN h refl refl refl) Control)
        (λ h. choose_after stream b from q on (is LF) _ _
        (λ x. marked_taken q on begun Quiet Nowhere (quiet_after LF x refl refl refl) (set_space Newline) Control)
        (λ x. choose_after stream b from q on (is CR) _ _
        (λ cr. seq_after stream b from _ (accept_as LF Control) q
        (marked_taken q on begun (λ j. j ≡ suc q.at) Nowhere refl (set_space Newline) Control)
        (newline_after cr) (λ j l y. y))
        (λ cr. syllable_after cr)))

  start_after : (q : Parse) → On q → q.at ≡ from → Left Quiet Nowhere (run start_before stream q)
  unfolding start_before
  start_after q on e = choose_after stream b from q on is_emoji _ _
      (λ h. emojis_after q on e (subst (λ j. is_emoji stream j ≡ true) e h)) (λ h. control_after q on e h)

  -- no cluster begins with a prepended character, so a call is what it was before CR and LF were kept together at 32
  call_before : (mode : Mode) → run cluster stream (begin (record { at = from }) mode false) ≡ run cluster_before stream (begin (record { at = from }) mode false)
  call_before mode = unprepended stream (begin (record { at = from }) mode false) (never from inside (λ k. eqb k PP) refl refl refl refl refl refl refl) refl

  before_after : (mode : Mode) → Left Ended Nowhere (run cluster_before stream (begin (record { at = from }) mode false))
  unfolding cluster_before
  before_after mode =
      let s : Parse = begin (record { at = from }) mode false in
      let on : On s = record { flow = refl; done = refl; joins = refl; again = refl; inside = inside; later = le_refl _; past = λ k l h. absurd (omega arith) } in
      seq_after stream b from (many_as PP Base) _ s
      (while_after stream b from (is PP) (take Base) (λ j. j ≡ from) Nowhere
      (λ q onq e h. absurd (false≢true (sym (never q.at onq.inside (λ k. eqb k PP) refl refl refl refl refl refl refl) ∙ h))) refl s on refl)
      (λ q onq x. seq_after stream b from start_before _ q (start_after q onq x.0) (λ u onu c. extensions_after Nowhere u onu c) (λ j l y. y))
      (λ j l y. y)

  -- The whole call: it ends at the end of the text, or at a calm place that has no extension.
  pub call_after : (mode : Mode) → Left Ended Nowhere (run cluster stream (begin (record { at = from }) mode false))
  call_after mode = subst (λ (q : Parse). Left Ended Nowhere q) (sym (call_before mode)) (before_after mode)
