-- An answer on an open text stays the answer on every longer open text. Assumes nothing.
use Prim.Native.Nat.{ℕ, ◌+◌, ◌-◌, ◌<◌, ◌≤◌}
use mathlib.Core.Path.{◌≡◌, refl, ◌∙◌, ap}
use mathlib.Core.Bool.{true, false}
use mathlib.Core.List.{List, ◌++◌}
use native.Mathlib.Omega.{arith}
use lib.Dec.{eqb, ltb}
use lib.ListN.{length, take, drop, length-append, get_or-append}
use borrow.Author.Tests.{lt-ltb, ltb-true}
use Rattle.basics.specs.Sets.{member}
use Rattle.classes.specs.declared.Mode.{Mode}
use Rattle.classes.specs.declared.Shape.TheVariants.{Base}
use Rattle.classes.specs.ClusterBreak.{CR, PP}
use Rattle.classes.specs.MyanmarClass.{O}
use Rattle.classes.specs.Scalar.{kinzi_firsts, ASAT}
use Rattle.records.specs.declared.Parser.{Parser}
use Rattle.records.specs.declared.Parser.TheVariants.{Simple, Myanmar, Complex, Khmer}
use Rattle.parse.specs.declared.Parse.{Parse}
use Rattle.parse.specs.State.{last_room, begin, going, place_of, cluster_of}
use Rattle.parse.specs.Rule.{Test, holds, is, is_emoji, many_as}
use Rattle.basics.proofs.Tests.{by_test}
use Rattle.parse.proofs.Runs.{run_seq}
use Rattle.window.specs.Window.{Near}
use Rattle.window.proofs.Run.{not_both, Inside, going_room, run_inside, run_done}
use Rattle.window.proofs.Texts.{run_longer}
use Rattle.window.proofs.Shared.{near_is, near_emoji}
use Rattle.simple.specs.Grammar.{cluster}
use Rattle.myanmar.specs.Grammar.{scalar_at, is_alone}
use Rattle.segment.specs.Calls.{grammar, called, moved, found}
use Rattle.segment.specs.declared.Segmenter.{Segmenter}
use Rattle.segment.specs.declared.What.TheVariants.{Found}
use Rattle.open.specs.Calls.{peeks, awaits, prepended, looks, wants, One, heard}
use Rattle.open.proofs.Grammars.{near_alone}
use Rattle.open.proofs.Calls.{wants_done, wants_looks, called_longer, called_taken, place_taken}

module _ (stream more : List ℕ) (at : ℕ) (inside : at < length stream) where
  longer : (i : ℕ) → i < length stream → ltb i (length (stream ++ more)) ≡ true
  longer i h = lt-ltb i (length (stream ++ more)) (omega (arith, length-append stream more))

  same : (p : Test) → Near p → p (stream ++ more) at ≡ p stream at
  same p n = n (stream ++ more) stream at at (get_or-append stream more 0 at inside)

  peeks_longer : peeks stream at ≡ false → peeks (stream ++ more) at ≡ false
  unfolding peeks
  peeks_longer e = rw (get_or-append stream more 0 at inside) (by_test (member kinzi_firsts (scalar_at stream at))
      (λ a. by_test (ltb (at + 1) (length stream))
      (λ l. let i : at + 1 < length stream = ltb-true _ _ l in
      rw (a, longer (at + 1) i, get_or-append stream more 0 (at + 1) i) (by_test (eqb (scalar_at stream (at + 1)) ASAT)
      (λ b. by_test (ltb (at + 2) (length stream)) (λ m. rw (b, longer (at + 2) (ltb-true _ _ m))) (λ m. not_both e (rw (a, l, b, m))))
      (λ b. rw b)))
      (λ l. not_both e (rw (a, l))))
      (λ a. rw a))

  pub holds_longer : (p : Test) → Near p → (q : Parse) → Inside stream q → holds (stream ++ more) p q ≡ holds stream p q
  holds_longer p n q i = by_test (going q)
      (λ g. rw (n (stream ++ more) stream q.at q.at (get_or-append stream more 0 q.at (i (going_room q.flow g))))) (λ g. rw g)

  awaits_longer : (q : Parse) → Inside stream q → awaits stream q ≡ false → awaits (stream ++ more) q ≡ false
  unfolding awaits
  awaits_longer q i e = rw (holds_longer is_emoji near_emoji q i, holds_longer (is CR) (near_is CR) q i)
      (by_test (holds stream is_emoji q) (λ a. rw a) (λ a. by_test (holds stream (is CR) q)
      (λ b. by_test (last_room q.mode q.len)
      (λ c. by_test (ltb (q.at + 1) (length stream)) (λ l. rw (a, b, c, longer (q.at + 1) (ltb-true _ _ l))) (λ l. not_both e (rw (a, b, c, l)))) (λ c. rw (a, b, c)))
      (λ b. rw (a, b))))

  -- the prepended characters, where the call has not stepped off the last token
  pub prepended_longer : (mode : Mode) → (called Simple mode stream at).done ≡ false → prepended mode (stream ++ more) at ≡ prepended mode stream at
  unfolding called grammar cluster
  prepended_longer mode d =
      let s = begin (record { at = at }) mode false in
      run_longer (many_as PP Base) (near_is PP, (refl, tt)) stream more s (λ n. inside)
      (by_test (prepended mode stream at).done
      (λ x. not_both d (ap (λ (q : Parse). q.done) (run_seq (many_as PP Base) _ stream s) ∙ run_done stream _ (prepended mode stream at) x)) (λ x. x))

  looks_longer : (parser : Parser) (mode : Mode) → (called parser mode stream at).done ≡ false → looks parser mode stream at ≡ false → looks parser mode (stream ++ more) at ≡ false
  unfolding looks
  looks_longer Simple mode d e =
      rw (prepended_longer mode d) (awaits_longer (prepended mode stream at) (run_inside stream (many_as PP Base) (begin (record { at = at }) mode false) (λ n. inside)) e)
  looks_longer Myanmar mode d e = rw (same is_emoji near_emoji, same (is O) (near_is O), same is_alone near_alone)
      (by_test (is_emoji stream at) (λ a. rw a) (λ a. by_test (is O stream at) (λ b. rw (a, b)) (λ b. by_test (is_alone stream at) (λ c. rw (a, b, c))
      (λ c. rw (a, b, c) (peeks_longer (rw (a, b, c) at e))))))
  looks_longer Complex mode d e = refl
  looks_longer Khmer mode d e = refl

  pub wants_longer : (parser : Parser) (mode : Mode) → wants parser mode stream at ≡ false → wants parser mode (stream ++ more) at ≡ false
  unfolding wants
  wants_longer parser mode e =
      rw (called_longer parser mode stream more at inside e, wants_done parser mode stream at e) (looks_longer parser mode (wants_done parser mode stream at e) (wants_looks parser mode stream at e))

  -- **What a call on an open text hands out it hands out on every longer one**, open or closed
  pub heard_longer : (parser : Parser) (mode : Mode) → wants parser mode stream at ≡ false → heard parser mode (stream ++ more) at ≡ heard parser mode stream at
  unfolding heard
  heard_longer parser mode e =
      rw (longer at inside, lt-ltb at (length stream) inside, wants_longer parser mode e, e) (ap One (called_longer parser mode stream more at inside e))

-- the answer of a stepping call from n tokens after its place: what the code would hand out
module _ (s : Segmenter) (stream : List ℕ) (inside : s.place.at < length stream) (n : ℕ) (some : 0 < n)
    (settled : wants s.parser s.mode (take n (drop s.place.at stream)) 0 ≡ true → length stream ≤ s.place.at + n) where
  abbrev window : List ℕ
  window = take n (drop s.place.at stream)

  abbrev parse : Parse
  parse = called s.parser s.mode window 0

  pub found_taken : found s stream (called s.parser s.mode stream s.place.at)
      ≡ record { state = moved s (place_of window parse + s.place.at); passed = place_of window parse; what = Found; cluster = cluster_of parse }
  unfolding found
  found_taken =
      let at = s.place.at in
      let place : place_of stream (called s.parser s.mode stream at) ≡ place_of window parse + at = place_taken s.parser s.mode stream at inside n some settled in
      let passed : place_of window parse + at - at ≡ place_of window parse = omega arith in
      let cluster = ap cluster_of (called_taken s.parser s.mode stream at inside n some settled) in
      rw (place, passed, cluster)
