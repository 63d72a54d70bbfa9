-- Conservation: no token is lost and none is made up. A call's characters and notes, read in order, are the tokens from where it began
-- up to the place that it hands back, and one more where crate mode reads a token twice: repeat (a) at a cluster of 32, repeat (b) at
-- the end of the text. Assumes nothing.
use Prim.Native.Nat.{ℕ, zero, suc, ◌+◌, ◌-◌, ◌<◌, ◌≤◌}
use mathlib.Core.Path.{◌≡◌, refl, sym, ◌∙◌, ap, subst}
use mathlib.Core.Bool.{Bool, true, false, cond, false≢true}
use mathlib.Core.List.{List}
use mathlib.Core.Logic.{◌⊎◌, inl, inr}
use native.Mathlib.Omega.{arith}
use borrow.Author.Tests.{lt-ltb, ltb-true, ltb-false}
use lib.Dec.{ltb}
use lib.ListN.{length, take, set, get_or, length-set}
use lib.Seq.{length-take-le, get_or-set_same}
use Rattle.basics.proofs.Tests.{if_intro, by_test}
use Rattle.classes.specs.declared.Shape.{Shape}
use Rattle.classes.specs.declared.Shape.TheVariants.{Other}
use Rattle.parse.specs.declared.Parse.{Parse}
use Rattle.parse.specs.declared.Pushed.{Pushed}
use Rattle.parse.specs.declared.Place.{Place}
use Rattle.classes.specs.declared.Mode.{Mode}
use Rattle.classes.specs.declared.Mode.TheVariants.{Crate, Whole}
use Rattle.parse.specs.declared.Flow.{Flow}
use Rattle.parse.specs.declared.Flow.TheVariants.{GoOn, Stop, Full, End}
use Rattle.parse.specs.State.{token_at, filled_at, place_of, cluster_of, begin, nothing, is_going, going, with_flow, with_again, char_of, put_of, noted_more, noted_of, moved_of, go_on, resumed_of, passes_end, retried_of}
use Rattle.parse.specs.Rule.{Rule, run}
use Rattle.parse.specs.Cover.{look, IsOf, Covers, pushed, but_last, Repeating, notes, repeats_of, repeats}
use Rattle.parse.proofs.Moves.{moved_case}
use Rattle.parse.proofs.Keeps.{Keeps, run_keeps, run_at, run_mode, place_in}
use Rattle.parse.proofs.Covered.{cover_count, cover_same, cells_put, cells_note, cells_last}

-- a stop in it ends a part alone, so the parse may go on
abbrev is_open : Flow → Bool
is_open f = is_going (go_on f)

going_open : (f : Flow) → is_going f ≡ true → is_open f ≡ true
going_open GoOn g = refl
going_open Stop g = refl
going_open Full g = g
going_open End g = g

resumed_open : (f : Flow) → is_open f ≡ true → is_open (go_on f) ≡ true
resumed_open GoOn o = refl
resumed_open Stop o = refl
resumed_open Full o = o
resumed_open End o = o

passes_end_lem : (m : Mode) (f : Flow) (a : Bool) → passes_end m f a ≡ true → (m ≡ Crate) × (f ≡ End) × (a ≡ false)
passes_end_lem Whole f a e = absurd (false≢true e)
passes_end_lem Crate GoOn a e = absurd (false≢true e)
passes_end_lem Crate Stop a e = absurd (false≢true e)
passes_end_lem Crate Full a e = absurd (false≢true e)
passes_end_lem Crate End true e = absurd (false≢true e)
passes_end_lem Crate End false e = (refl, refl, refl)

-- places and tokens of the stream
module _ (text : List ℕ) where
  look_in : (i : ℕ) → i < length text → look text i ≡ token_at text i
  look_in i h = ap (token_at text) (omega arith)

  -- the next token of the cover is the current one
  look_here : (d : Bool) (i : ℕ) → i < length text → (d ≡ true → i + 1 ≡ length text) → look text (cond d (length text) i) ≡ token_at text i
  look_here true i h k = let e : i + 1 ≡ length text = k refl in ap (token_at text) (omega arith)
  look_here false i h k = look_in i h

  -- a step reaches one token on: the next place, or the end, or the place of a full cluster
  next_reach : (d : Bool) (i : ℕ) → i + 1 < length text → (d ≡ true → i + 1 ≡ length text) → cond d (length text) (i + 1) ≡ cond d (length text) i + 1
  next_reach true i h k = let e : i + 1 ≡ length text = k refl in absurd (omega arith)
  next_reach false i h k = refl

  end_reach : (d a : Bool) (i : ℕ) → i + 1 ≡ length text → a ≡ d → length text + cond a 1 0 ≡ cond d (length text) i + 1
  end_reach true a i h e = rw e
  end_reach false a i h e = rw e (omega arith)

  full_reach : (m : Mode) (d a : Bool) (i : ℕ) → i < length text → (d ≡ true → m ≡ Crate) → cond d (length text) (filled_at m (length text) i) + repeats_of m Full a ≡ cond d (length text) i + 1
  full_reach Crate d a i h k = refl
  full_reach Whole true a i h k = let z : ◌≡◌ {A = ℕ} 0 1 = cc (k refl) in absurd (omega arith)
  full_reach Whole false a i h k = rw (lt-ltb i (length text) h) (omega arith)

module _ (text : List ℕ) (start : ℕ) where
  abbrev Reaches : Parse → ℕ → Type 0
  Reaches s to = Covers (look text) start (pushed s) to

  abbrev Cells : Parse → Type 0
  Cells s = (length s.chars ≡ 32) × (s.len ≤ 32)

  -- the text has ended only where its last token is read again, and that in crate mode only
  abbrev Fresh : Parse → Type 0
  Fresh s = (s.at < length text) × (s.again ≡ s.done) × (s.done ≡ true → (s.mode ≡ Crate) × (s.at + 1 ≡ length text))

  -- the last character is the current token
  abbrev Last : Parse → Type 0
  Last s = IsOf (get_or s.chars (s.len - 1) nothing) (token_at text s.at) × ((get_or s.chars (s.len - 1) nothing).noted ≡ 0)

  -- the current token is to be pushed or noted
  abbrev Open : Parse → Type 0
  Open s = (is_open s.flow ≡ true) × (s.len < 32) × Fresh s × Reaches s (place_of text s)

  abbrev Ended : Parse → Type 0
  Ended s = (s.flow ≡ End) × (s.done ≡ true) × (s.at + 1 ≡ length text) × (s.len < 32) × (s.again ≡ true → s.mode ≡ Crate) × Reaches s (length text + cond s.again 1 0)

  abbrev Filled : Parse → Type 0
  Filled s = (s.flow ≡ Full) × (32 ≤ s.len) × (s.again ≡ s.done) × (s.mode ≡ Crate → (s.at < length text) × Last s) × Reaches s (place_of text s + repeats_of s.mode Full s.again)

  abbrev Kept : Parse → Type 0
  Kept s = Cells s × (Open s ⊎ (Ended s ⊎ Filled s))

  -- the current token has been pushed or noted
  abbrev Spent : Parse → Type 0
  Spent s = Cells s × (going s ≡ true) × Fresh s × (32 ≤ s.len → Last s) × Reaches s (place_of text s + 1)

  ready : (s : Parse) → going s ≡ true → Open s ⊎ (Ended s ⊎ Filled s) → Open s
  ready s g (inl o) = o
  ready s g (inr (inl e)) = absurd (false≢true (rw e.0 at g))
  ready s g (inr (inr f)) = absurd (false≢true (rw f.0 at g))

  kept_put : (c : Shape) (s : Parse) → going s ≡ true → Cells s → Open s → Spent (put_of (token_at text s.at) c s)
  kept_put c s g cells (o, l, f, r) =
      let x = char_of (token_at text s.at) c in
      let h = look_here text s.done s.at f.0 (λ d. (f.2 d).1) in
      let e : s.len + 1 - 1 ≡ s.len = omega arith in
      let y : get_or (set s.chars s.len x) (s.len + 1 - 1) nothing ≡ x = rw e (get_or-set_same s.chars s.len x nothing (omega (arith, cells.0))) in
      rw (lt-ltb s.len 32 l) (
        (length-set s.chars s.len x ∙ cells.0, omega arith),
        g,
        f,
        (λ k. rw y ((refl, refl), refl)),
        cells_put (look text) s.chars s.len start (place_of text s) cells.0 x l r (rw h (refl, refl)) refl,
      )

  kept_noted : length text ≤ 65535 → (s : Parse) → going s ≡ true → Cells s → Open s → Spent (noted_of (token_at text s.at) s)
  kept_noted short s g cells (o, l, f, r) = if_intro Spent (ltb 0 s.len) _ _
      (λ p. rw (lt-ltb s.len 33 (omega arith)) (
        (length-set s.chars (s.len - 1) (noted_more (get_or s.chars (s.len - 1) nothing)) ∙ cells.0, cells.1),
        g,
        f,
        (λ k. absurd (omega arith)),
        cells_note (look text) s.chars s.len start (place_of text s) cells.0 (ltb-true 0 s.len p) cells.1 r
            (if_intro (λ k. k ≤ 65535) s.done (length text) s.at (λ d. omega arith) (λ d. omega (arith, f.0))),
      ))
      (λ p. kept_put Other s g cells (o, l, f, r))

  kept_moved : (s : Parse) → Spent s → Kept (moved_of (length text) s)
  kept_moved s (cells, g, f, last, r) = moved_case Kept (length text) s
      (λ l h. (
        cells,
        inl (
          going_open s.flow g,
          l,
          (h, f.1, λ d. absurd (omega (arith, h, (f.2 d).1))),
          subst (Reaches s) (sym (next_reach text s.done s.at h (λ d. (f.2 d).1))) r,
        ),
      ))
      (λ l h. let e : s.at + 1 ≡ length text = omega (arith, f.0, rw (lt-ltb s.at (length text) f.0) at h) in
      (cells, inr (inl (refl, refl, e, l, (λ a. (f.2 (sym f.1 ∙ a)).0), subst (Reaches s) (sym (end_reach text s.done s.again s.at e f.1)) r))))
      (λ l. (
        cells,
        inr (inr (
          refl,
          l,
          f.1,
          (λ m. filled_last m l),
          subst (Reaches s) (sym (full_reach text s.mode s.done s.again s.at f.0 (λ d. (f.2 d).0))) r,
        )),
      ))
    where
      filled_last : (m : s.mode ≡ Crate) → 32 ≤ s.len → (filled_at s.mode (length text) s.at < length text) × (IsOf (get_or s.chars (s.len - 1) nothing) (token_at text (filled_at s.mode (length text) s.at)) × ((get_or s.chars (s.len - 1) nothing).noted ≡ 0))
      filled_last m l = rw m (f.0, last l)

  kept_stopped : (s : Parse) → going s ≡ true → Kept s → Kept (with_flow Stop s)
  kept_stopped s g (cells, k) = let o = ready s g k in (cells, inl (refl, o.1, o.2, o.3))

  kept_resumed : (s : Parse) → Kept s → Kept (resumed_of s)
  kept_resumed s (cells, inl o) = (cells, inl (resumed_open s.flow o.0, o.1, o.2, o.3))
  kept_resumed s (cells, inr (inl e)) = (cells, inr (inl (ap go_on e.0, e.1, e.2, e.3, e.4, e.5)))
  kept_resumed s (cells, inr (inr f)) = (cells, inr (inr (ap go_on f.0, f.1, f.2, f.3, f.4)))

  -- the end is passed over: the last token is current again
  kept_again : (s : Parse) → s.mode ≡ Crate → s.flow ≡ End → s.again ≡ false → Kept s → Kept (with_flow GoOn (with_again s))
  kept_again s m f a (cells, inl o) = absurd (false≢true (rw f at o.0))
  kept_again s m f a (cells, inr (inl (e, d, i, l, c, r))) =
      let z : length text + cond s.again 1 0 ≡ place_of text s = rw (a, d) (omega arith) in
      (cells, inl (refl, l, (omega arith, sym d, (λ h. (m, i))), subst (Reaches s) z r))
  kept_again s m f a (cells, inr (inr g)) = let z : ◌≡◌ {A = ℕ} 0 1 = cc g.0 in absurd (omega arith)

  kept_retried : (s : Parse) → Kept s → Kept (retried_of s)
  kept_retried s k = if_intro Kept (passes_end s.mode s.flow s.again) _ _
      (λ h. let p = passes_end_lem s.mode s.flow s.again h in kept_again s p.0 p.1 p.2 k) (λ h. k)

  kept : length text ≤ 65535 → Keeps text Kept Spent
  kept short = record {
    put = λ c s g k. kept_put c s g k.0 (ready s g k.1);
    noted = λ s g k. kept_noted short s g k.0 (ready s g k.1);
    moved = kept_moved;
    marked = λ i s k. k;
    stopped = kept_stopped;
    resumed = kept_resumed;
    retried = kept_retried;
  }

  begin_kept : (p : Place) (m : Mode) (j : Bool) → p.at ≡ start → start < length text → Kept (begin p m j)
  begin_kept p m j e h = ((refl, omega arith), inl (refl, omega arith, (rw e h, refl, (λ d. absurd (false≢true d))), sym e))

repeats_open : (m : Mode) (f : Flow) (a : Bool) → is_open f ≡ true → repeats_of m f a ≡ 0
repeats_open Whole f a o = refl
repeats_open Crate GoOn a o = refl
repeats_open Crate Stop a o = refl
repeats_open Crate Full a o = absurd (false≢true o)
repeats_open Crate End a o = absurd (false≢true o)

repeats_end : (m : Mode) (a : Bool) → (a ≡ true → m ≡ Crate) → repeats_of m End a ≡ cond a 1 0
repeats_end Crate a k = refl
repeats_end Whole true k = let z : ◌≡◌ {A = ℕ} 0 1 = cc (k refl) in absurd (omega arith)
repeats_end Whole false k = refl

crate_full : (k : Mode) (a : Bool) → repeats_of k Full a ≡ 1 → k ≡ Crate
crate_full Crate a e = refl
crate_full Whole a e = absurd (omega arith)

-- what is kept, in one statement
kept_reaches : (text : List ℕ) (start : ℕ) (s : Parse) → Kept text start s → Covers (look text) start (pushed s) (place_of text s + repeats s)
kept_reaches text start s (cells, inl o) = rw (repeats_open s.mode s.flow s.again o.0) (subst (Covers (look text) start (pushed s)) (omega arith) o.3)
kept_reaches text start s (cells, inr (inl (f, d, i, l, c, r))) = rw (f, d, repeats_end s.mode s.again c) r
kept_reaches text start s (cells, inr (inr (f, l, a, c, r))) = rw f r

pub repeats_most : (m : Mode) (f : Flow) (a : Bool) → repeats_of m f a ≤ 1
repeats_most Whole f a = omega arith
repeats_most Crate GoOn a = omega arith
repeats_most Crate Stop a = omega arith
repeats_most Crate Full a = omega arith
repeats_most Crate End true = omega arith
repeats_most Crate End false = omega arith

-- where a token is read twice, the cluster is full or the text has ended
full_repeat : (text : List ℕ) (start : ℕ) (s : Parse) → Kept text start s → repeats s ≡ 1 → s.again ≡ false → (s.len ≡ 32) × (s.at < length text) × ((get_or s.chars (s.len - 1) nothing).noted ≡ 0) × (s.done ≡ false)
full_repeat text start s (cells, inl o) e n = let z = repeats_open s.mode s.flow s.again o.0 in absurd (omega arith)
full_repeat text start s (cells, inr (inl (f, d, i, l, c, r))) e n =
    let z : repeats s ≡ cond s.again 1 0 = ap (λ k. repeats_of s.mode k s.again) f ∙ repeats_end s.mode s.again c in
    let y : ◌≡◌ {A = ℕ} (cond s.again 1 0) 0 = rw n in
    absurd (omega arith)
full_repeat text start s (cells, inr (inr (f, l, a, c, r))) e n =
    let k = c (crate_full s.mode s.again (ap (λ q. repeats_of s.mode q s.again) (sym f) ∙ e)) in
    (omega (arith, cells.1), k.0, k.1.1, sym a ∙ n)

-- and in crate mode a full cluster does
full_repeats : (text : List ℕ) (start : ℕ) (s : Parse) → Kept text start s → s.mode ≡ Crate → s.len ≡ 32 → repeats s ≡ 1
full_repeats text start s (cells, inl o) m l = absurd (omega (arith, o.1))
full_repeats text start s (cells, inr (inl e)) m l = absurd (omega (arith, e.3))
full_repeats text start s (cells, inr (inr f)) m l = rw (m, f.0)

end_repeat : (text : List ℕ) (start : ℕ) (s : Parse) → Kept text start s → repeats s ≡ 1 → s.again ≡ true → s.done ≡ true
end_repeat text start s (cells, inl o) e h = let z = repeats_open s.mode s.flow s.again o.0 in absurd (omega arith)
end_repeat text start s (cells, inr (inl (f, d, i, l, c, r))) e h = d
end_repeat text start s (cells, inr (inr (f, l, a, c, r))) e h = sym a ∙ h

-- a call of any rule, in either mode, from a place inside the text
module _ (text : List ℕ) (short : length text ≤ 65535) (r : Rule) (p : Place) (m : Mode) (j : Bool) (inside : p.at < length text) where
  abbrev result : Parse
  result = run r text (begin p m j)

  call_kept : Kept text p.at result
  call_kept = run_keeps text (Kept text p.at) (Spent text p.at) (kept text p.at short) r (begin p m j) (begin_kept text p.at p m j refl inside)

  -- **Conservation.** The characters of the cluster, each followed by its notes, are the tokens from the start place up to the place
  -- handed back, and the token that is read twice where there is one; in order, and with nothing left out.
  pub conserve : Covers (look text) p.at (pushed result) (place_of text result + repeats result)
  conserve = kept_reaches text p.at result call_kept

  forward : p.at ≤ place_of text result
  forward = if_intro (λ k. p.at ≤ k) result.done _ _ (λ d. omega arith) (λ d. run_at r text (begin p m j))

  -- the stream is the text itself, but for the repeat
  in_text : (cs : List Pushed) → Covers (look text) p.at cs (place_of text result) → Covers (token_at text) p.at cs (place_of text result)
  in_text cs c = cover_same (look text) (token_at text) (length text) (look_in text) cs p.at (place_of text result)
      (place_in r text (begin p m j) (omega arith)) c

  -- Where no token is read twice the cluster is exactly the tokens from the start place to the place handed back.
  pub conserve_once : repeats result ≡ 0 → Covers (token_at text) p.at (pushed result) (place_of text result)
  conserve_once z =
      let e : place_of text result + repeats result ≡ place_of text result = omega arith in
      in_text (pushed result) (subst (Covers (look text) p.at (pushed result)) e conserve)

  -- So it is in whole mode.
  pub repeats_whole : m ≡ Whole → repeats result ≡ 0
  repeats_whole w = ap (λ k. repeats_of k result.flow result.again) (run_mode r text (begin p m j) ∙ w)

  -- A call repeats one token at most.
  pub repeats_once : repeats result ≤ 1
  repeats_once = repeats_most result.mode result.flow result.again

  -- In crate mode a cluster of 32 repeats one.
  pub repeats_full : m ≡ Crate → result.len ≡ 32 → repeats result ≡ 1
  repeats_full c l = full_repeats text p.at result call_kept (run_mode r text (begin p m j) ∙ c) l

  -- Where a token is repeated, and the last character has no note, that character is the repeat: the others are exactly the tokens from
  -- the start place to the place handed back.
  repeating : repeats result ≡ 1 → (get_or result.chars (result.len - 1) nothing).noted ≡ 0 → Repeating text p.at (cluster_of result) (place_of text result) (look text (place_of text result))
  repeating e z =
      let c = rw e at conserve in
      let some : 0 < result.len = go result.len c in
      let k = cells_last (look text) result.chars result.len p.at (place_of text result) call_kept.0.0 some call_kept.0.1 c z in
      record { once = in_text (but_last (cluster_of result)) k.0; last = k.1; bare = z }
    where
      go : (n : ℕ) → Covers (look text) p.at (take n result.chars) (place_of text result + 1) → 0 < n
      go zero c = absurd (omega (arith, forward, c))
      go (suc n) c = omega arith

  -- Repeat (a): "the call hands back the place of the token that it pushed last" (SCOPE 6.7). The cluster has 32, and its last character
  -- is the token at the place handed back, which is before the end.
  pub repeat_a : repeats result ≡ 1 → result.again ≡ false → (result.len ≡ 32) × (place_of text result < length text) × Repeating text p.at (cluster_of result) (place_of text result) (token_at text (place_of text result))
  repeat_a e n =
      let k = full_repeat text p.at result call_kept e n in
      let i : place_of text result < length text = rw k.3 k.1 in
      (k.0, i, subst (Repeating text p.at (cluster_of result) (place_of text result)) (look_in text (place_of text result) i) (repeating e k.2))

  ended : repeats result ≡ 1 → result.again ≡ true → place_of text result ≡ length text
  ended e h = rw (end_repeat text p.at result call_kept e h)

  -- Repeat (b): the last token is taken once more, and the call hands back the end (SCOPE 6.8).
  pub repeat_b_lem : repeats result ≡ 1 → result.again ≡ true → (get_or result.chars (result.len - 1) nothing).noted ≡ 0 → (place_of text result ≡ length text) × Repeating text p.at (cluster_of result) (length text) (token_at text (length text - 1))
  repeat_b_lem e h z =
      let d : place_of text result ≡ length text = ended e h in
      let l : look text (length text) ≡ token_at text (length text - 1) = ap (token_at text) (omega arith) in
      (d, subst (Repeating text p.at (cluster_of result) (length text)) l (subst (λ i. Repeating text p.at (cluster_of result) i (look text i)) d (repeating e z)))

  counted : p.at + (result.len + notes (pushed result)) ≡ place_of text result + repeats result
  counted =
      let n : length (pushed result) ≡ result.len = length-take-le result.len result.chars (omega (arith, call_kept.0.0, call_kept.0.1)) in
      omega (arith, n, cover_count (look text) (pushed result) p.at (place_of text result + repeats result) conserve)

  -- Passed = pushed + noted, less one at a repeat; passed is the next place minus the place.
  pub passed : place_of text result - p.at ≡ result.len + notes (pushed result) - repeats result
  passed = omega (arith, counted, forward)

  -- A call that makes a character passes a token.
  pub passes : 0 < result.len → p.at < place_of text result
  passes h = by_test (ltb 0 (repeats result))
      (λ k. let e : repeats result ≡ 1 = omega (arith, ltb-true 0 (repeats result) k, repeats_once) in by_test result.again
      (λ a. omega (arith, ended e a, inside)) (λ a. omega (arith, (repeat_a e a).0, counted, e)))
      (λ k. omega (arith, ltb-false 0 (repeats result) k, counted))

-- Where crate mode reads a token twice, whole mode hands back another cluster or another place.
pub modes_differ : (text : List ℕ) → length text ≤ 65535 → (r : Rule) (p : Place) (j : Bool) → p.at < length text → repeats (run r text (begin p Crate j)) ≡ 1 → pushed (run r text (begin p Crate j)) ≡ pushed (run r text (begin p Whole j)) → place_of text (run r text (begin p Crate j)) ≡ place_of text (run r text (begin p Whole j)) → ⊥
modes_differ text short r p j inside e same place =
    let c = run r text (begin p Crate j) in
    let w = run r text (begin p Whole j) in
    let z : repeats w ≡ 0 = repeats_whole text short r p Whole j inside refl in
    let n : length (pushed c) + notes (pushed c) ≡ length (pushed w) + notes (pushed w) = ap (λ cs. length cs + notes cs) same in
    omega (
      arith,
      e,
      place,
      z,
      n,
      cover_count (look text) (pushed c) p.at (place_of text c + repeats c) (conserve text short r p Crate j inside),
      cover_count (look text) (pushed w) p.at (place_of text w + repeats w) (conserve text short r p Whole j inside),
    )
