-- Calls on an open text: one that wants no more is the call on every longer text, and the calls on a text that grows, put together,
-- are those of the closed text at once. Assumes nothing.
use Prim.Native.Nat.{ℕ, zero, suc, ◌+◌, ◌<◌, ◌≤◌}
use mathlib.Core.Path.{◌≡◌, refl, sym, ◌∙◌, ap, subst}
use mathlib.Core.Bool.{Bool, true, false, false≢true}
use mathlib.Core.List.{List, [], ◌∷◌, ◌++◌, append_assoc}
use native.Mathlib.Omega.{arith}
use native.Mathlib.Nat.{le_refl}
use lib.Dec.{ltb}
use lib.ListN.{length, take, drop, length-append, length-drop, length-take}
use borrow.Author.Tests.{le-ltb, ltb-true}
use Rattle.classes.specs.declared.Mode.{Mode}
use Rattle.records.specs.declared.Parser.{Parser}
use Rattle.parse.specs.declared.Parse.{Parse}
use Rattle.parse.specs.State.{place_of}
use Rattle.basics.proofs.Tests.{by_test}
use Rattle.window.specs.Window.{shift}
use Rattle.window.proofs.Texts.{from_start, from_place, so_many, shift_none}
use Rattle.segment.specs.Calls.{called}
use Rattle.segment.specs.Runs.{calls_at}
use Rattle.segment.proofs.Progress.{progress}
use Rattle.segment.proofs.CallTurns.{call_within, calls_step}
use Rattle.window.proofs.Run.{not_both}
use Rattle.open.specs.Grown.{grown}
use Rattle.open.specs.Calls.{Heard, More, One, looks, wants, heard, settled_from, stop_from, settled_at, stop_at, pieces}
use Rattle.open.proofs.Grown.{grown_more}
use Rattle.open.proofs.Window.{called_window}

module _ (parser : Parser) (mode : Mode) where
  -- a call that wants no more has taken no step off the last token
  pub wants_done : (stream : List ℕ) (at : ℕ) → wants parser mode stream at ≡ false → (called parser mode stream at).done ≡ false
  unfolding wants
  wants_done stream at e = by_test (called parser mode stream at).done (λ d. not_both e (rw d)) (λ d. d)

  pub wants_looks : (stream : List ℕ) (at : ℕ) → wants parser mode stream at ≡ false → looks parser mode stream at ≡ false
  unfolding wants
  wants_looks stream at e = by_test (called parser mode stream at).done (λ d. not_both e (rw d)) (λ d. rw d at e)

  module _ (stream more : List ℕ) (at : ℕ) (inside : at < length stream) (settled : wants parser mode stream at ≡ false) where
    -- **What is handed out on an open text is handed out on every longer one**: the same parse,
    pub called_longer : called parser mode (stream ++ more) at ≡ called parser mode stream at
    called_longer =
        ap (called parser mode (stream ++ more)) (omega arith)
        ∙ called_window (stream ++ more) stream 0 (from_start stream more) at inside mode parser (λ w. not_both settled w)
        ∙ shift_none (called parser mode stream at)

    -- and the same next place
    pub place_longer : place_of (stream ++ more) (called parser mode (stream ++ more) at) ≡ place_of stream (called parser mode stream at)
    place_longer = rw (called_longer, wants_done stream at settled)

  -- the window of a stepping call: the tokens from its place on; the call begins at 0 of it, and its places are shifted back
  module _ (stream : List ℕ) (at : ℕ) (inside : at < length stream) where
    pub called_dropped : called parser mode stream at ≡ shift at (called parser mode (drop at stream) 0)
    called_dropped = ap (called parser mode stream) (omega arith)
        ∙ called_window stream (drop at stream) at (from_place stream at (omega arith)) 0 (simp length-drop (omega arith)) mode parser (λ w. simp length-drop (omega arith))

    -- "n tokens from the place on are enough": the call wants no more of them, or they go to the end of the stream
    module _ (n : ℕ) (some : 0 < n) (settled : wants parser mode (take n (drop at stream)) 0 ≡ true → length stream ≤ at + n) where
      pub called_taken : called parser mode stream at ≡ shift at (called parser mode (take n (drop at stream)) 0)
      called_taken = ap (called parser mode stream) (omega arith)
          ∙ called_window stream (take n (drop at stream)) at (so_many stream at n (omega arith)) 0
          (simp (length-take, length-drop) (omega arith)) mode parser (λ w. let e = settled w in simp (length-take, length-drop) (omega arith))

      done_ends : (called parser mode (take n (drop at stream)) 0).done ≡ true → length stream ≤ at + n
      unfolding wants
      done_ends d = settled (rw d)

      pub place_taken : place_of stream (called parser mode stream at) ≡ place_of (take n (drop at stream)) (called parser mode (take n (drop at stream)) 0) + at
      place_taken = rw called_taken (by_test (called parser mode (take n (drop at stream)) 0).done
          (λ d. let e = done_ends d in rw d (simp (length-take, length-drop) (omega arith)))
          (λ d. rw d))

  -- **"On an open one a call that hands out a cluster still passes at least one token."**
  pub heard_passes : (stream : List ℕ) → length stream ≤ 65535 → (at : ℕ) (p : Parse) → heard parser mode stream at ≡ One p → at < place_of stream p
  unfolding heard
  heard_passes stream short at p e = by_test (ltb at (length stream))
      (λ h. by_test (wants parser mode stream at) (λ w. absurd (false≢true (ap is_one (rw (h, w) at e))))
      (λ w. subst (λ (q : Parse). at < place_of stream q) (ap (in_one p) (rw (h, w) at e)) (progress parser mode stream short at (ltb-true _ _ h))))
      (λ h. absurd (false≢true (ap is_one (rw h at e))))
    where
      is_one : Heard → Bool
      is_one More = false
      is_one (One q) = true

      in_one : Parse → Heard → Parse
      in_one p More = p
      in_one p (One q) = q

  -- a full run on an open stream, and what is left of the closed one
  module _ (stream more : List ℕ) (short : length (stream ++ more) ≤ 65535) where
    abbrev fits : length stream ≤ 65535
    fits = omega (arith, length-append stream more)

    joined : (n at : ℕ) → at ≤ length stream → calls_at parser mode (stream ++ more) at ≡ settled_from parser mode stream n at ++ calls_at parser mode (stream ++ more) (stop_from parser mode stream n at)
    unfolding settled_from stop_from
    joined zero at l = refl
    joined (suc n) at l = by_test (ltb at (length stream))
        (λ h. by_test (wants parser mode stream at) (λ w. rw (h, w))
        (λ w. let i : at < length stream = ltb-true _ _ h in
        rw (h, w)
        (calls_step parser mode (stream ++ more) short at (omega (arith, length-append stream more))
        ∙ rw (place_longer stream more at i w, called_longer stream more at i w)
        (ap (λ ps. called parser mode stream at ∷ ps) (joined n (place_of stream (called parser mode stream at)) (call_within parser mode stream fits at i))))))
        (λ h. rw h)

    -- **The calls of the longer stream are those settled on the open one, then those from where it stopped.**
    pub calls_joined : (at : ℕ) → at ≤ length stream → calls_at parser mode (stream ++ more) at ≡ settled_at parser mode stream at ++ calls_at parser mode (stream ++ more) (stop_at parser mode stream at)
    calls_joined at l = joined (length stream) at l

  module _ (stream : List ℕ) (short : length stream ≤ 65535) where
    stop_in : (n at : ℕ) → at ≤ length stream → (at ≤ stop_from parser mode stream n at) × (stop_from parser mode stream n at ≤ length stream)
    unfolding stop_from
    stop_in zero at l = (le_refl _, l)
    stop_in (suc n) at l = by_test (ltb at (length stream))
        (λ h. by_test (wants parser mode stream at) (λ w. rw (h, w) (le_refl _, l))
        (λ w. let i : at < length stream = ltb-true _ _ h in
        let later = stop_in n (place_of stream (called parser mode stream at)) (call_within parser mode stream short at i) in
        rw (h, w) (omega (arith, later.0, progress parser mode stream short at i), later.1)))
        (λ h. rw h (le_refl _, l))

    -- it stops inside the stream, or at its end, and never goes back
    pub stop_inside : (at : ℕ) → at ≤ length stream → (at ≤ stop_at parser mode stream at) × (stop_at parser mode stream at ≤ length stream)
    stop_inside at l = stop_in (length stream) at l

    stops : (n at : ℕ) → length stream ≤ at + n → heard parser mode stream (stop_from parser mode stream n at) ≡ More
    unfolding heard stop_from
    stops zero at l = rw (le-ltb at (length stream) (omega arith))
    stops (suc n) at l = by_test (ltb at (length stream))
        (λ h. by_test (wants parser mode stream at) (λ w. rw (h, w) (rw (h, w)))
        (λ w. let i : at < length stream = ltb-true _ _ h in
        rw (h, w) (stops n (place_of stream (called parser mode stream at)) (omega (arith, progress parser mode stream short at i)))))
        (λ h. rw h (rw h))

    -- and where it stops, more is wanted: it stops no earlier
    pub stop_wants : (at : ℕ) → heard parser mode stream (stop_at parser mode stream at) ≡ More
    stop_wants at = stops (length stream) at (omega arith)

  -- **"For every way of extending accepted columns to an accepted closed text, the answers put together equal those of the closed text at
  -- once"**: any number of extensions, from any place.
  pub pieces_whole : (stream : List ℕ) (later : List (List ℕ)) (at : ℕ) → length (grown stream later) ≤ 65535 → at ≤ length stream → pieces parser mode stream later at ≡ calls_at parser mode (grown stream later) at
  unfolding pieces grown
  pieces_whole stream [] at short l = refl
  pieces_whole stream (more ∷ later) at short l =
      let r = grown_more (stream ++ more) later in
      let e : grown (stream ++ more) later ≡ stream ++ (more ++ r.0) = r.1 ∙ append_assoc stream more r.0 in
      let fit : length (stream ++ (more ++ r.0)) ≤ 65535 = rw e at short in
      let fits : length stream ≤ 65535 = omega (arith, length-append stream (more ++ r.0)) in
      let stop = stop_inside stream fits at l in
      ap (λ ps. settled_at parser mode stream at ++ ps)
      (pieces_whole (stream ++ more) later (stop_at parser mode stream at) short (omega (arith, stop.1, length-append stream more)))
      ∙ rw e (sym (calls_joined stream (more ++ r.0) fit at l))
