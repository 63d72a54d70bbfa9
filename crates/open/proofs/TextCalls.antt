-- The theorems of Req 09 on texts: an accepted text that grows by accepted texts to a closed one. Assumes nothing.
use Rattle.std.specs.Prelude.{Ok}
use Prim.Native.Nat.{ℕ, suc, ◌+◌, ◌<◌, ◌≤◌}
use mathlib.Core.Path.{◌≡◌, refl, sym, ◌∙◌, ap}
use mathlib.Core.Bool.{false}
use mathlib.Core.List.{List, [], ◌∷◌, ◌++◌, append_assoc, append-nil, map}
use native.Mathlib.Omega.{arith}
use lib.ListN.{length, length-append}
use borrow.Author.Tests.{le-ltb, ne_eqb}
use Rattle.classes.specs.declared.Mode.{Mode}
use Rattle.records.specs.Text.{Text}
use Rattle.records.specs.Refusals.{verdict}
use Rattle.records.specs.declared.Parser.{Parser}
use Rattle.records.proofs.Accepted.{accepted_sound}
use Rattle.stream.specs.Stream.{stream_of}
use Rattle.stream.proofs.Accepted.{stream_room}
use Rattle.parse.specs.declared.Parse.{Parse}
use Rattle.parse.specs.declared.Pushed.{Pushed}
use Rattle.parse.specs.Cover.{pushed}
use Rattle.segment.specs.declared.Segmenter.{Segmenter}
use Rattle.segment.specs.Calls.{called, found, answer_in, next_of}
use Rattle.segment.specs.Runs.{calls_at, column_of}
use Rattle.open.specs.Calls.{wants, settled_at, stop_at}
use Rattle.open.specs.Texts.{Extends, Grows, closed, text_pieces}
use Rattle.open.proofs.Texts.{stream_grows}
use Rattle.open.proofs.Calls.{called_longer, place_longer, calls_joined, stop_inside}

module _ (parser : Parser) (mode : Mode) where
  abbrev stream : Text → List ℕ
  stream t = stream_of mode parser t

  closed_grows : (t : Text) (later : List Text) → verdict parser t ≡ Ok tt → Grows parser t later → (more : List ℕ) × (stream (closed t later) ≡ stream t ++ more)
  unfolding Grows closed
  closed_grows t [] a g = ([], sym (append-nil (stream t)))
  closed_grows t (t' ∷ later) a g =
      let x = stream_grows mode parser t t' a g.0 in
      let y = closed_grows t' later g.1.0 g.1.1 in
      (x.0 ++ y.0, y.1 ∙ ap (λ s. s ++ y.0) x.1 ∙ append_assoc (stream t) x.0 y.0)

  closed_accepted : (t : Text) (later : List Text) → verdict parser t ≡ Ok tt → Grows parser t later → verdict parser (closed t later) ≡ Ok tt
  unfolding Grows closed
  closed_accepted t [] a g = a
  closed_accepted t (t' ∷ later) a g = closed_accepted t' later g.1.0 g.1.1

  short : (t : Text) → verdict parser t ≡ Ok tt → length (stream t) ≤ 65535
  short t a = omega (arith, stream_room mode parser t (accepted_sound parser t a))

  -- **"For every way of extending accepted columns to an accepted closed text, the answers put together equal those of the closed text at
  -- once"**, for full runs from any place.
  pub texts_whole : (t : Text) (later : List Text) (at : ℕ) → verdict parser t ≡ Ok tt → Grows parser t later → at ≤ length (stream t) → text_pieces parser mode t later at ≡ calls_at parser mode (stream (closed t later)) at
  unfolding Grows closed text_pieces
  texts_whole t [] at a g l = refl
  texts_whole t (t' ∷ later) at a g l =
      let x = stream_grows mode parser t t' a g.0 in
      let y = closed_grows t (t' ∷ later) a g in
      let fits : length (stream t ++ y.0) ≤ 65535 = rw y.1 at (short (closed t (t' ∷ later)) (closed_accepted t (t' ∷ later) a g)) in
      let stop = stop_inside parser mode (stream t) (short t a) at l in
      let long : length (stream t) ≤ length (stream t') = omega (arith, ap length x.1, length-append (stream t) x.0) in
      ap (λ ps. settled_at parser mode (stream t) at ++ ps) (texts_whole t' later (stop_at parser mode (stream t) at) g.1.0 g.1.1 (omega (arith, stop.1)))
      ∙ rw y.1 (sym (calls_joined parser mode (stream t) y.0 fits at l))

-- a call before the end
answer_found : (s : Segmenter) (stream : List ℕ) → s.place.at < length stream → answer_in s stream ≡ found s stream (called s.parser s.mode stream s.place.at)
unfolding answer_in
answer_found s stream h = rw (le-ltb (length stream) s.place.at (omega arith), ne_eqb s.place.at (length stream) (λ e. omega arith))

-- and for stepping calls: **"else it answers as before"**, and so on every accepted text that extends this one
pub next_grows : (s : Segmenter) (t t' : Text) → verdict s.parser t ≡ Ok tt → verdict s.parser t' ≡ Ok tt → Extends t t' → s.place.at < length (stream_of s.mode s.parser t)
    → wants s.parser s.mode (stream_of s.mode s.parser t) s.place.at ≡ false → next_of s t' ≡ next_of s t
unfolding next_of found
next_grows s t t' a b e h w =
    let x = stream_grows s.mode s.parser t t' a e in
    let old = stream_of s.mode s.parser t in
    let more : s.place.at < length (old ++ x.0) = omega (arith, length-append old x.0) in
    rw (a, b, x.1, answer_found s (old ++ x.0) more, answer_found s old h, place_longer s.parser s.mode old x.0 s.place.at h w, called_longer s.parser s.mode old x.0 s.place.at h w)

-- the written columns put together: "its cluster numbers count from 0, its cells from the first"
pub columns_joined : (f : ℕ → Pushed → ℕ) (k : ℕ) (ps qs : List Parse) → column_of f k (ps ++ qs) ≡ column_of f k ps ++ column_of f (k + length ps) qs
unfolding column_of
columns_joined f k [] qs = ap (λ (n : ℕ). column_of f n qs) (let e : k ≡ k + 0 = omega arith in e)
columns_joined f k (p ∷ ps) qs =
    ap (λ cs. map (f k) (pushed p) ++ cs) (columns_joined f (k + 1) ps qs ∙ ap (λ (n : ℕ). column_of f (k + 1) ps ++ column_of f n qs) (let e : k + 1 + length ps ≡ k + suc (length ps) = omega arith in e))
    ∙ sym (append_assoc (map (f k) (pushed p)) _ _)
