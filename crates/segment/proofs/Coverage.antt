-- What the theorems of Demands.antt rest on: the four outcomes of a stepping call, and what one call's characters and those of all calls
-- cover. Assumes nothing.
use Rattle.std.specs.Prelude.{Ok, Err}
use Prim.Native.Nat.{ℕ, zero, suc, ◌+◌, ◌*◌, ◌<◌, ◌≤◌}
use mathlib.Core.Path.{◌≡◌, refl, sym, ◌∙◌, ap, subst}
use mathlib.Core.List.{List, [], ◌∷◌, ◌++◌}
use mathlib.Core.Logic.{inl, inr, ⊎_elim}
use native.Mathlib.Nat.{eq-or-lt_of_le}
use native.Mathlib.Omega.{arith}
use lib.Dec.{eqb, ltb}
use lib.ListN.{length, get_or}
use borrow.Author.Tests.{ltb-true, ltb-false, eqb-true, eqb-false}
use Rattle.basics.proofs.Tests.{if_intro, by_test}
use Rattle.classes.specs.declared.Mode.{Mode}
use Rattle.records.specs.Text.{Text}
use Rattle.records.specs.Refusals.{refusal, verdict}
use Rattle.records.specs.declared.Parser.{Parser}
use Rattle.records.specs.declared.Side.TheVariants.{Neither}
use Rattle.records.specs.declared.Refusal.{Refusal}
use Rattle.records.specs.Verdict.{Verdict}
use Rattle.stream.specs.Stream.{stream_of}
use Rattle.token.specs.Token.{scalar_of, index_of}
use Rattle.parse.specs.declared.Parse.{Parse}
use Rattle.parse.specs.declared.Pushed.{Pushed}
use Rattle.parse.specs.State.{place_of, nothing}
use Rattle.parse.specs.Cover.{Covers, look, pushed, repeats}
use Rattle.parse.proofs.Conserve.{conserve}
use Rattle.segment.specs.declared.Segmenter.{Segmenter}
use Rattle.segment.specs.declared.Answer.{Answer}
use Rattle.segment.specs.Calls.{grammar, joins, called, refused, end, found, answer_in, answer_under, next_of}
use Rattle.segment.specs.Runs.{calls_from, characters}
use Rattle.segment.specs.Repeats.{NotedIn, Appears}
use Rattle.segment.proofs.CallLaws.{streamed}
use Rattle.segment.proofs.Progress.{progress}
use Rattle.segment.proofs.CallTurns.{call_within, call_room, call_length}

-- the tokens that a call sees
abbrev pub tokens : Segmenter → Text → List ℕ
tokens s t = stream_of s.mode s.parser t

-- a call on the token at the segmenter's place
abbrev pub call_of : Segmenter → Text → Parse
call_of s t = called s.parser s.mode (tokens s t) s.place.at

-- what holds of each outcome holds of the answer
module _ (s : Segmenter) (t : Text) (P : Answer → Type 0)
    (checked : (r : Refusal) → verdict s.parser t ≡ Err r → P (refused s r))
    (past : verdict s.parser t ≡ Ok tt → length (tokens s t) < s.place.at → P (refused s (refusal 8 Neither 0)))
    (over : verdict s.parser t ≡ Ok tt → s.place.at ≡ length (tokens s t) → P (end s))
    (inside : verdict s.parser t ≡ Ok tt → s.place.at < length (tokens s t) → P (found s (tokens s t) (call_of s t))) where
  under : (v : Verdict) → verdict s.parser t ≡ v → P (answer_under v s t)
  unfolding answer_in
  under (Err r) e = checked r e
  under (Ok _) e = if_intro P (ltb (length (tokens s t)) s.place.at) _ _ (λ h. past e (ltb-true _ _ h))
      (λ h. if_intro P (eqb s.place.at (length (tokens s t))) _ _ (λ k. over e (eqb-true _ _ k))
      (λ k. ⊎_elim (λ q. absurd (eqb-false s.place.at (length (tokens s t)) k q)) (λ q. inside e q) (eq-or-lt_of_le (ltb-false _ _ h))))

  pub next_case : P (next_of s t)
  unfolding next_of
  next_case = under (verdict s.parser t) refl

-- an accepted text is short enough for a count of notes
pub accepted_short : (mode : Mode) (parser : Parser) (t : Text) → verdict parser t ≡ Ok tt → length (stream_of mode parser t) ≤ 65535
accepted_short mode parser t e = omega (arith, (streamed mode parser t e).room)

-- a call from a place inside: it has a character, and the first is the token there
module _ (parser : Parser) (mode : Mode) (stream : List ℕ) (short : length stream ≤ 65535) (at : ℕ) (inside : at < length stream) where
  some_pushed : (cs : List Pushed) (to : ℕ) → Covers (look stream) at cs (to + repeats (called parser mode stream at)) → at < to → 0 < length cs
  some_pushed [] to e h = absurd (omega arith)
  some_pushed (c ∷ cs) to e h = omega arith

  first_is : (cs : List Pushed) (to : ℕ) → Covers (look stream) at cs to → 0 < length cs → (get_or cs 0 nothing).scalar ≡ scalar_of (look stream at)
  first_is [] to e h = absurd (omega arith)
  first_is (c ∷ cs) to e h = e.0.0

  call_covers : Covers (look stream) at (pushed (called parser mode stream at)) (place_of stream (called parser mode stream at) + repeats (called parser mode stream at))
  unfolding called
  call_covers = conserve stream short (grammar parser) (record { at = at }) mode (joins parser) inside

  pub call_some : 0 < length (pushed (called parser mode stream at))
  call_some = some_pushed (pushed (called parser mode stream at)) (place_of stream (called parser mode stream at)) call_covers (progress parser mode stream short at inside)

  pub call_first : (get_or (pushed (called parser mode stream at)) 0 nothing).scalar ≡ scalar_of (look stream at)
  call_first = first_is (pushed (called parser mode stream at)) _ call_covers call_some

-- the calls from a place on: their characters have two cells for each token that is left, and each call has a character and a token
module _ (parser : Parser) (mode : Mode) (stream : List ℕ) (short : length stream ≤ 65535) where
  pub calls_room : (n at : ℕ) → at ≤ length stream → characters (calls_from parser mode stream n at) + 2 * at ≤ 2 * length stream
  unfolding calls_from characters
  calls_room zero at h = omega arith
  calls_room (suc n) at h = by_test (ltb at (length stream))
      (λ e. let i : at < length stream = ltb-true at (length stream) e in
      rw e (omega (
        arith,
        call_room parser mode stream short at i,
        call_length parser mode stream short at i,
        calls_room n (place_of stream (called parser mode stream at)) (call_within parser mode stream short at i),
      )))
      (λ e. rw e (omega arith))

  pub calls_some : (n at : ℕ) → at ≤ length stream → (length (calls_from parser mode stream n at) ≤ characters (calls_from parser mode stream n at)) × (length (calls_from parser mode stream n at) + at ≤ length stream)
  unfolding calls_from characters
  calls_some zero at h = (omega arith, omega arith)
  calls_some (suc n) at h = by_test (ltb at (length stream))
      (λ e. let i : at < length stream = ltb-true at (length stream) e in
      let later = calls_some n (place_of stream (called parser mode stream at)) (call_within parser mode stream short at i) in
      rw e (omega (arith, later.0, call_some parser mode stream short at i), omega (arith, later.1, progress parser mode stream short at i)))
      (λ e. rw e (omega arith, omega arith))

-- what characters cover appears among them: the token at k is pushed, or noted right after a character
noted_in : (look' : ℕ → ℕ) (n from k i : ℕ) → from ≤ k → k < from + n → index_of (look' k) ≡ i → NotedIn look' from n i
noted_in look' zero from k i l h e = absurd (omega arith)
noted_in look' (suc n) from k i l h e =
    ⊎_elim
    (λ q. inl (ap (λ j. index_of (look' j)) q ∙ e))
    (λ q. inr (noted_in look' n (from + 1) k i (omega (arith, q)) (omega arith) e))
    (eq-or-lt_of_le l)

pub cover_appears : (look' : ℕ → ℕ) (cs : List Pushed) (from to k i : ℕ) → Covers look' from cs to → from ≤ k → k < to → index_of (look' k) ≡ i → Appears look' from cs i
cover_appears look' [] from to k i c l h e = absurd (omega arith)
cover_appears look' (x ∷ cs) from to k i c l h e =
    ⊎_elim
    (λ q. inl (c.0.1 ∙ ap (λ j. index_of (look' j)) q ∙ e))
    (λ q. inr (by_test (ltb k (from + 1 + x.noted))
    (λ z. inl (noted_in look' x.noted (from + 1) k i (omega (arith, q)) (ltb-true k (from + 1 + x.noted) z) e))
    (λ z. inr (cover_appears look' cs (from + 1 + x.noted) to k i c.1 (ltb-false k (from + 1 + x.noted) z) h e))))
    (eq-or-lt_of_le l)

pub cover_append : (look' : ℕ → ℕ) (cs ds : List Pushed) (from mid to : ℕ) → Covers look' from cs mid → Covers look' mid ds to → Covers look' from (cs ++ ds) to
cover_append look' [] ds from mid to e d = subst (λ (i : ℕ). Covers look' i ds to) (sym e) d
cover_append look' (c ∷ cs) ds from mid to e d = (e.0, cover_append look' cs ds (from + 1 + c.noted) mid to e.1 d)
