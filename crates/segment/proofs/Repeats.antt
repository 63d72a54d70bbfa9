-- Where a call of any parser repeats a token: in crate mode at repeat (b) and at a cluster of 32, there once, and nowhere else. Everywhere
-- the cluster without the repeat is exactly the tokens that the call passed. Assumes nothing.
use Prim.Native.Nat.{ℕ, ◌-◌, ◌<◌, ◌≤◌}
use mathlib.Core.Path.{◌≡◌, refl, sym, ◌∙◌, ap}
use mathlib.Core.Bool.{Bool, true, false, cond, false≢true}
use mathlib.Core.List.{List}
use native.Mathlib.Omega.{arith}
use lib.Dec.{eqb}
use lib.ListN.{length, get_or}
use borrow.Author.Tests.{eqb-true, eqb-false}
use Rattle.basics.proofs.Tests.{if_intro, by_test}
use Rattle.classes.specs.declared.Mode.{Mode}
use Rattle.classes.specs.declared.Mode.TheVariants.{Crate, Whole}
use Rattle.records.specs.declared.Parser.{Parser}
use Rattle.records.specs.declared.Parser.TheVariants.{Simple, Myanmar, Complex, Khmer}
use Rattle.parse.specs.declared.Parse.{Parse}
use Rattle.parse.specs.State.{token_at, begin, place_of, cluster_of, nothing}
use Rattle.parse.specs.declared.Flow.{Flow}
use Rattle.parse.specs.declared.Flow.TheVariants.{GoOn, Stop, Full, End}
use Rattle.parse.specs.Cover.{Covers, pushed, Repeating, repeats_of, repeats}
use Rattle.parse.proofs.Keeps.{run_mode}
use Rattle.parse.proofs.Free.{run_again}
use Rattle.parse.proofs.Agree.{not_full, fine}
use Rattle.parse.proofs.Conserve.{conserve_once, repeats_whole, repeats_full, repeat_a, repeat_b_lem}
use Rattle.simple.specs.Grammar as Simple-rules
use Rattle.complex.specs.Grammar as Complex-rules
use Rattle.myanmar.proofs.Repeat.{in_crate, crate_none, again_is, again_repeats}
use Rattle.tables.proofs.SimpleRules as simple
use Rattle.tables.proofs.ComplexRules as cx
use Rattle.tables.proofs.KhmerRules as kh
use Rattle.segment.specs.Calls.{grammar, joins, called}
use Rattle.segment.specs.Repeats.{repeat_b, repeated, unrepeated}
use Rattle.segment.proofs.CallTurns.{call_repeats}

-- a grammar without a kinzi reads no token again; Myanmar's does where SCOPE 6.8 says
call_again : (parser : Parser) (mode : Mode) (stream : List ℕ) (at : ℕ) → (called parser mode stream at).again ≡ in_crate mode (repeat_b parser stream at)
unfolding called grammar
call_again Simple mode stream at = run_again stream Simple-rules.cluster (begin (record { at = at }) mode false) simple.cluster_free ∙ sym (crate_none mode)
call_again Myanmar mode stream at = again_is stream at mode
call_again Complex mode stream at = run_again stream (Complex-rules.cluster false) (begin (record { at = at }) mode true) cx.cluster_free ∙ sym (crate_none mode)
call_again Khmer mode stream at = run_again stream (Complex-rules.cluster true) (begin (record { at = at }) mode true) kh.cluster_free ∙ sym (crate_none mode)

called_mode : (parser : Parser) (mode : Mode) (stream : List ℕ) (at : ℕ) → (called parser mode stream at).mode ≡ mode
unfolding called
called_mode parser mode stream at = run_mode (grammar parser) stream (begin (record { at = at }) mode (joins parser))

-- and then its last character is the repeat, with no note behind it
call_bare : (parser : Parser) (stream : List ℕ) (at : ℕ) → at < length stream → repeat_b parser stream at ≡ true → (repeats (called parser Crate stream at) ≡ 1) × ((get_or (called parser Crate stream at).chars ((called parser Crate stream at).len - 1) nothing).noted ≡ 0)
unfolding called grammar
call_bare Simple stream at inside b = absurd (false≢true b)
call_bare Myanmar stream at inside b = again_repeats stream at Crate inside (again_is stream at Crate ∙ b)
call_bare Complex stream at inside b = absurd (false≢true b)
call_bare Khmer stream at inside b = absurd (false≢true b)

module _ (parser : Parser) (stream : List ℕ) (short : length stream ≤ 65535) (at : ℕ) (inside : at < length stream) where
  abbrev in_mode : Mode → Parse
  in_mode mode = called parser mode stream at

  -- Repeat (b): the last token is taken once more, and the call hands back the end (SCOPE 6.8).
  pub call_b : repeat_b parser stream at ≡ true → (place_of stream (in_mode Crate) ≡ length stream) × Repeating stream at (cluster_of (in_mode Crate)) (length stream) (token_at stream (length stream - 1))
  unfolding called
  call_b b = let k = call_bare parser stream at inside b in
      repeat_b_lem stream short (grammar parser) (record { at = at }) Crate (joins parser) inside k.0 (call_again parser Crate stream at ∙ b) k.1

  full : (in_mode Crate).len ≡ 32 → repeats (in_mode Crate) ≡ 1
  unfolding called
  full l = repeats_full stream short (grammar parser) (record { at = at }) Crate (joins parser) inside refl l

  twice : repeat_b parser stream at ≡ false → repeats (in_mode Crate) ≡ 1 → ((in_mode Crate).len ≡ 32) × (place_of stream (in_mode Crate) < length stream) × Repeating stream at (cluster_of (in_mode Crate)) (place_of stream (in_mode Crate)) (token_at stream (place_of stream (in_mode Crate)))
  unfolding called
  twice b e = repeat_a stream short (grammar parser) (record { at = at }) Crate (joins parser) inside e (call_again parser Crate stream at ∙ b)

  -- Repeat (a): the cluster after one of 32 begins with the token that was pushed last (SCOPE 6.7).
  pub call_a : repeat_b parser stream at ≡ false → (in_mode Crate).len ≡ 32 → (place_of stream (in_mode Crate) < length stream) × Repeating stream at (cluster_of (in_mode Crate)) (place_of stream (in_mode Crate)) (token_at stream (place_of stream (in_mode Crate)))
  call_a b l = let k = twice b (full l) in (k.1, k.2)

  -- Nowhere else: a call repeats one token or none, by what its caller sees.
  pub call_repeated : (mode : Mode) → repeats (in_mode mode) ≡ cond (repeated mode parser stream at (cluster_of (in_mode mode))) 1 0
  unfolding called
  call_repeated Whole = repeats_whole stream short (grammar parser) (record { at = at }) Whole (joins parser) inside refl
  call_repeated Crate = by_test (repeat_b parser stream at)
      (λ b. rw b (call_bare parser stream at inside b).0)
      (λ b. rw b (by_test (eqb (in_mode Crate).len 32)
      (λ l. rw l (full (eqb-true _ _ l)))
      (λ l. rw l (by_test (eqb (repeats (in_mode Crate)) 1)
      (λ e. absurd (eqb-false _ _ l (twice b (eqb-true _ _ e)).0))
      (λ e. few (repeats (in_mode Crate)) (call_repeats parser Crate stream short at inside) (eqb-false _ _ e))))))
    where
      few : (n : ℕ) → n ≤ 1 → (n ≡ 1 → ⊥) → n ≡ 0
      few n h k = by_test (eqb n 0) (λ e. eqb-true n 0 e) (λ e. absurd (k (omega (arith, positive n (eqb-false n 0 e)))))
        where
          positive : (n : ℕ) → (n ≡ 0 → ⊥) → 0 < n
          positive n h = omega arith

  -- The characters of a call that repeats none are exactly the tokens that it passed.
  pub call_once : (mode : Mode) → repeated mode parser stream at (cluster_of (in_mode mode)) ≡ false → Covers (token_at stream) at (pushed (in_mode mode)) (place_of stream (in_mode mode))
  unfolding called
  call_once mode n = conserve_once stream short (grammar parser) (record { at = at }) mode (joins parser) inside (call_repeated mode ∙ rw n)

  -- And so are those of every call, without the repeat.
  pub call_unrepeated : (mode : Mode) → Covers (token_at stream) at (unrepeated mode parser stream at (cluster_of (in_mode mode))) (place_of stream (in_mode mode))
  call_unrepeated Whole = call_once Whole refl
  call_unrepeated Crate = if_intro (λ cs. Covers (token_at stream) at cs (place_of stream (in_mode Crate))) (repeated Crate parser stream at (cluster_of (in_mode Crate))) _ _
      (λ h. by_test (repeat_b parser stream at)
      (λ b. let k = call_b b in rw k.0 k.1.once)
      (λ b. (call_a b (eqb-true _ _ (rw b at h))).1.once))
      (call_once Crate)

  no_full : (f : Flow) (a : Bool) → repeats_of Crate f a ≡ 0 → a ≡ false → cond a false (not_full f) ≡ true
  no_full GoOn a e n = rw n
  no_full Stop a e n = rw n
  no_full Full a e n = absurd (omega arith)
  no_full End a e n = rw n

  -- Such a call is neither full nor after repeat (b), so whole mode agrees with it.
  pub call_fine : repeated Crate parser stream at (cluster_of (in_mode Crate)) ≡ false → fine (in_mode Crate) ≡ true
  call_fine n = no_full (in_mode Crate).flow (in_mode Crate).again (mode_is ∙ call_repeated Crate ∙ rw n) (call_again parser Crate stream at ∙ none (repeat_b parser stream at) n)
    where
      none : (b : Bool) → cond b true (eqb (in_mode Crate).len 32) ≡ false → b ≡ false
      none true e = e
      none false e = refl

      mode_is : repeats_of Crate (in_mode Crate).flow (in_mode Crate).again ≡ repeats (in_mode Crate)
      mode_is = ap (λ m. repeats_of m (in_mode Crate).flow (in_mode Crate).again) (sym (called_mode parser Crate stream at))
