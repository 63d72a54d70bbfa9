-- Where the kinzi's test looks past the last token, the tokens to come decide: closed here the call ends before them, and with those that
-- make a kinzi it passes them. Assumes nothing.
use Prim.Native.Nat.{ℕ, ◌+◌, ◌<◌, ◌≤◌}
use mathlib.Core.Path.{◌≡◌, refl, sym, ◌∙◌, ap, subst}
use mathlib.Core.Bool.{true, false, false≢true}
use mathlib.Core.List.{List, [], ◌∷◌, ◌++◌}
use mathlib.Core.Logic.{◌⊎◌, inl, inr}
use native.Mathlib.Omega.{arith}
use lib.Dec.{eqb, ltb}
use lib.ListN.{length, drop, length-append, get_or-append, drop_of_length-le}
use lib.Seq.{get_or-append_seam, get_or-append-add}
use borrow.Author.Tests.{lt-ltb, ltb-true, ltb-false, eqb-true}
use Rattle.basics.specs.Sets.{member}
use Rattle.basics.proofs.Tests.{if_intro, by_test}
use Rattle.classes.specs.declared.Mode.{Mode}
use Rattle.classes.specs.declared.Shape.TheVariants.{Kinzi}
use Rattle.classes.specs.MyanmarClass.{O}
use Rattle.classes.specs.Scalar.{ASAT, VIRAMA, kinzi_firsts}
use Rattle.records.specs.declared.Parser.TheVariants.{Myanmar}
use Rattle.token.specs.Token.{scalar_of}
use Rattle.parse.specs.declared.Parse.{Parse}
use Rattle.parse.specs.declared.Flow.{Flow}
use Rattle.parse.specs.declared.Flow.TheVariants.{GoOn, Stop, Full, End}
use Rattle.parse.specs.State.{begin, place_of, passes_end}
use Rattle.parse.specs.Rule.{Test, run, thrice, thrice_of, is, is_emoji}
use Rattle.parse.proofs.Runs.{run_seq, run_then, run_else}
use Rattle.parse.proofs.Keeps.{thrice_keeps}
use Rattle.window.specs.Window.{Near}
use Rattle.window.proofs.Run.{run_done}
use Rattle.window.proofs.Shared.{near_is, near_emoji}
use Rattle.myanmar.specs.Grammar.{scalar_at, is_kinzi, kinzi, syllable, is_alone, cluster}
use Rattle.myanmar.specs.Repeat.{ends_behind}
use Rattle.myanmar.proofs.Kinzi.{is_end, kinzi_ends}
use Rattle.segment.specs.Calls.{grammar, called}
use Rattle.segment.proofs.CallTurns.{call_within}
use Rattle.open.specs.Calls.{peeks, looks, Differ}
use Rattle.open.proofs.Told.{going_told, told_keeps}
use Rattle.open.proofs.Grammars.{near_alone}

end_is : (f : Flow) → is_end f ≡ true → f ≡ End
end_is GoOn e = absurd (false≢true e)
end_is Stop e = absurd (false≢true e)
end_is Full e = absurd (false≢true e)
end_is End e = refl

-- a kinzi that is the last three tokens ends the text
module _ (text : List ℕ) (at : ℕ) (three : at + 3 ≡ length text) (mode : Mode) (k : is_kinzi text at ≡ true) where
  abbrev from : Parse
  from = begin (record { at = at }) mode true

  thrice_ends : (thrice_of text Kinzi from).done ≡ true
  thrice_ends =
      let all : length text ≤ at + 3 = omega arith in
      let over : drop (at + 3) text ≡ [] = drop_of_length-le text all in
      let ends : ends_behind text at ≡ true = rw (over, lt-ltb (length text) (at + 32) (omega arith)) in
      (thrice_keeps text _ _ (told_keeps text) Kinzi from (going_told text from refl)).1 (end_is _ (kinzi_ends text at k mode ∙ ends))

  kinzi_done : (run (thrice Kinzi) text from).done ≡ true
  unfolding run
  kinzi_done = let r = thrice_of text Kinzi from in
      if_intro (λ (q : Parse). q.done ≡ true) (passes_end r.mode r.flow r.again) _ _ (λ h. thrice_ends) (λ h. thrice_ends)

  call_ends : is_emoji text at ≡ false → is O text at ≡ false → is_alone text at ≡ false → (called Myanmar mode text at).done ≡ true
  unfolding called grammar cluster kinzi
  call_ends a b c =
      subst (λ (q : Parse). q.done ≡ true)
      (sym (run_else is_emoji _ _ text from a ∙ run_else (is O) _ _ text from b ∙ run_else is_alone _ _ text from c ∙ run_seq kinzi syllable text from ∙ ap (run syllable text) (run_then is_kinzi _ _ text from k)))
      (run_done text syllable (run (thrice Kinzi) text from) kinzi_done)

module _ (stream : List ℕ) (at : ℕ) (inside : at < length stream) (mode : Mode) where
  -- what comes makes the last three tokens a kinzi
  abbrev Completes : List ℕ → Type 0
  Completes more = (at + 3 ≡ length (stream ++ more)) × ((scalar_at (stream ++ more) (at + 1) ≡ ASAT) × (scalar_at (stream ++ more) (at + 2) ≡ VIRAMA))

  -- U+103A and U+1039 are missing, or the second alone
  abbrev pub Missing : Type 0
  Missing = (at + 1 ≡ length stream) ⊎ ((at + 2 ≡ length stream) × (scalar_at stream (at + 1) ≡ ASAT))

  two_complete : at + 1 ≡ length stream → (a v : ℕ) → scalar_of a ≡ ASAT → scalar_of v ≡ VIRAMA → Completes (a ∷ v ∷ [])
  two_complete one a v ea ev =
      let last : at + 2 ≡ length stream + 1 = omega arith in
      let longer = stream ++ (a ∷ v ∷ []) in (
        omega (arith, length-append stream (a ∷ v ∷ [])),
        (
          ap (scalar_at longer) one ∙ ap scalar_of (get_or-append_seam stream a (v ∷ []) 0) ∙ ea,
          ap (scalar_at longer) last ∙ ap scalar_of (get_or-append-add stream (a ∷ v ∷ []) 1 0) ∙ ev,
        ),
      )

  one_completes : at + 2 ≡ length stream → scalar_at stream (at + 1) ≡ ASAT → (v : ℕ) → scalar_of v ≡ VIRAMA → Completes (v ∷ [])
  one_completes two s v ev = (
    omega (arith, length-append stream (v ∷ [])),
    (
      ap scalar_of (get_or-append stream (v ∷ []) 0 (at + 1) (omega arith)) ∙ s,
      ap (scalar_at (stream ++ (v ∷ []))) two ∙ ap scalar_of (get_or-append_seam stream v [] 0) ∙ ev,
    ),
  )

  peeked : peeks stream at ≡ true → (member kinzi_firsts (scalar_at stream at) ≡ true) × Missing
  unfolding peeks
  peeked p = by_test (member kinzi_firsts (scalar_at stream at))
      (λ f. by_test (ltb (at + 1) (length stream))
      (λ l. by_test (eqb (scalar_at stream (at + 1)) ASAT)
      (λ s. by_test (ltb (at + 2) (length stream)) (λ m. absurd (false≢true (rw (f, l, s, m) at p)))
      (λ m. (f, inr (omega (arith, ltb-true (at + 1) (length stream) l, ltb-false (at + 2) (length stream) m), eqb-true (scalar_at stream (at + 1)) ASAT s))))
      (λ s. absurd (false≢true (rw (f, l, s) at p))))
      (λ l. (f, inl (omega (arith, ltb-false (at + 1) (length stream) l)))))
      (λ f. absurd (false≢true (rw f at p)))

  module _ (short : length stream ≤ 65535) (looked : looks Myanmar mode stream at ≡ true) where
    -- the arm of the kinzi
    pub record Looked : Type 0 where
      pub plain : is_emoji stream at ≡ false
      pub other : is O stream at ≡ false
      pub joined : is_alone stream at ≡ false
      pub first : member kinzi_firsts (scalar_at stream at) ≡ true
      pub missing : Missing

    pub arm : Looked
    unfolding looks
    arm = by_test (is_emoji stream at) (λ x. absurd (false≢true (rw x at looked)))
        (λ x. by_test (is O stream at) (λ y. absurd (false≢true (rw (x, y) at looked)))
        (λ y. by_test (is_alone stream at) (λ z. absurd (false≢true (rw (x, y, z) at looked)))
        (λ z. let p = peeked (rw (x, y, z) at looked) in record { plain = x; other = y; joined = z; first = p.0; missing = p.1 })))

    same_test : (p : Test) (more : List ℕ) → Near p → p (stream ++ more) at ≡ p stream at
    same_test p more n = n (stream ++ more) stream at at (get_or-append stream more 0 at inside)

    makes_kinzi : (more : List ℕ) → Completes more → is_kinzi (stream ++ more) at ≡ true
    unfolding is_kinzi
    makes_kinzi more c = rw (get_or-append stream more 0 at inside, arm.first, c.1.0, c.1.1)

    -- **A call whose look-ahead runs past the last token is not settled**: with the tokens of a kinzi it passes all of them.
    differs : (more : List ℕ) → Completes more → length stream < length (stream ++ more) → Differ Myanmar mode stream (stream ++ more) at
    differs more c l place same =
        let d : (called Myanmar mode (stream ++ more) at).done ≡ true = call_ends (stream ++ more) at c.0 mode (makes_kinzi more c)
        (same_test is_emoji more near_emoji ∙ arm.plain) (same_test (is O) more (near_is O) ∙ arm.other) (same_test is_alone more near_alone ∙ arm.joined) in
        let over : place_of (stream ++ more) (called Myanmar mode (stream ++ more) at) ≡ length (stream ++ more) = rw d in
        omega (arith, call_within Myanmar mode stream short at inside)

    pub two_differ : at + 1 ≡ length stream → (a v : ℕ) → scalar_of a ≡ ASAT → scalar_of v ≡ VIRAMA → Differ Myanmar mode stream (stream ++ (a ∷ v ∷ [])) at
    two_differ one a v ea ev = differs (a ∷ v ∷ []) (two_complete one a v ea ev) (omega (arith, length-append stream (a ∷ v ∷ [])))

    pub one_differs : at + 2 ≡ length stream → scalar_at stream (at + 1) ≡ ASAT → (v : ℕ) → scalar_of v ≡ VIRAMA → Differ Myanmar mode stream (stream ++ (v ∷ [])) at
    one_differs two s v ev = differs (v ∷ []) (one_completes two s v ev) (omega (arith, length-append stream (v ∷ [])))
