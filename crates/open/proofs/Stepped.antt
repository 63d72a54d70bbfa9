-- A parser that steps over U+034F, and one more of it: where a call stepped off the last token, it is behind the new one then, or full.
-- Assumes nothing.
use Prim.Native.Nat.{ℕ, ◌+◌, ◌<◌, ◌≤◌}
use mathlib.Core.Path.{◌≡◌, refl, sym, ◌∙◌, ap, subst}
use mathlib.Core.Bool.{Bool, true, false, false≢true}
use mathlib.Core.List.{List, [], ◌∷◌, ◌++◌}
use native.Mathlib.Omega.{arith}
use lib.Dec.{eqb, ltb}
use lib.ListN.{length, length-append, get_or-eq_default}
use lib.Seq.{get_or-append_seam}
use borrow.Author.Tests.{lt-ltb, ltb-true, ltb-false, eqb-true, eqb-false}
use Rattle.basics.proofs.Tests.{if_intro, by_test}
use Rattle.classes.specs.declared.Mode.{Mode}
use Rattle.classes.specs.declared.Shape.{Shape}
use Rattle.classes.specs.declared.Shape.TheVariants.{Other}
use Rattle.classes.specs.Scalar.{CGJ, ASAT, VIRAMA}
use Rattle.records.specs.declared.Parser.{Parser}
use Rattle.records.specs.declared.Parser.TheVariants.{Simple, Myanmar, Complex, Khmer}
use Rattle.token.specs.Token.{scalar_of}
use Rattle.parse.specs.declared.Parse.{Parse}
use Rattle.parse.specs.State.{token_at, begin, with_place, going, put_of, noted_of, moved_of, step_of, push_of, on_joiner, hop, passes_end}
use Rattle.parse.specs.Rule.{run}
use Rattle.parse.proofs.Loop.{loop_keeps}
use Rattle.parse.proofs.Moves.{put_same, noted_same, moved_case, step_over}
use Rattle.parse.proofs.Keeps.{Keeps, plain_keeps, hop_keeps, step_keeps, run_keeps}
use Rattle.window.specs.Window.{shift}
use Rattle.window.proofs.Off.{run_off}
use Rattle.window.proofs.Texts.{from_start, shift_none}
use Rattle.myanmar.specs.Grammar.{is_kinzi}
use Rattle.segment.specs.Calls.{grammar, joins, called}
use Rattle.open.proofs.Alike.{Ahead, grammar_alike}

-- one more token
module _ (stream : List ℕ) (x : ℕ) where
  abbrev longer : List ℕ
  longer = stream ++ (x ∷ [])

  pub longer_length : length longer ≡ length stream + 1
  longer_length = length-append stream (x ∷ [])

  -- a step off the last token goes onto it
  pub onto : (s : Parse) → s.at < length stream → s.len < 32 → length stream ≤ s.at + 1 → moved_of (length longer) (shift 0 s) ≡ with_place (length stream) s
  onto s a l e =
      rw (lt-ltb s.len 32 l, lt-ltb (s.at + 0) (length longer) (omega (arith, longer_length)), lt-ltb (s.at + 0 + 1) (length longer) (omega (arith, longer_length)))
      (ap (λ (i : ℕ). with_place i s) (omega arith))

  -- what is the same of the new token and of none is the same on both, n places behind
  pub one_more : {A : Type 0} (f : ℕ → A) → f x ≡ f 0 → (i n : ℕ) → f (token_at longer (i + 0 + n)) ≡ f (token_at stream (i + n))
  one_more f e i n =
      let j : ℕ = i + n in
      let there : i + 0 + n ≡ j + 0 = omega arith in
      ap (λ (k : ℕ). f (token_at longer k)) there ∙ by_test (ltb j (length stream))
      (λ l. ap f ((from_start stream (x ∷ [])).same j (ltb-true _ _ l)))
      (λ l. let none : token_at stream j ≡ 0 = get_or-eq_default stream 0 (ltb-false _ _ l) in
      by_test (eqb j (length stream))
      (λ m. let end : j + 0 ≡ length stream = omega (arith, eqb-true j (length stream) m) in
      ap f (ap (token_at longer) end ∙ get_or-append_seam stream x [] 0) ∙ e ∙ ap f (sym none))
      (λ m. ap f (get_or-eq_default longer 0 (omega (arith, longer_length, ltb-false j (length stream) l, eqb-false j (length stream) m)) ∙ sym none)))

  -- the new token is U+034F
  module _ (cgj : scalar_of x ≡ CGJ) where
    -- it makes no kinzi, and neither does the end
    no_kinzi : (at : ℕ) → at < length stream → is_kinzi longer (at + 0) ≡ is_kinzi stream at
    unfolding is_kinzi
    no_kinzi at inside =
        let second = one_more (λ t. eqb (scalar_of t) ASAT) (rw cgj) at 1 in
        let third = one_more (λ t. eqb (scalar_of t) VIRAMA) (rw cgj) at 2 in
        rw ((from_start stream (x ∷ [])).same at inside, second, third)

    ahead : (parser : Parser) → joins parser ≡ true → (at : ℕ) (inside : at < length stream) (mode : Mode) → Ahead longer stream 0 (from_start stream (x ∷ [])) at inside mode parser
    ahead Simple j at inside mode = absurd (false≢true j)
    ahead Myanmar j at inside mode = λ a b c. no_kinzi at inside
    ahead Complex j at inside mode = tt
    ahead Khmer j at inside mode = tt

  -- behind the new token, or full
  abbrev Past : Parse → Type 0
  Past q = q.done ≡ false → q.at ≤ length stream → 32 ≤ q.len

  past_put : (t : ℕ) (c : Shape) (s : Parse) → Past s → Past (put_of t c s)
  past_put t c s p = if_intro Past (ltb s.len 32) _ _ (λ h d a. omega (arith, p d a)) (λ h. p)

  past_noted : (t : ℕ) (s : Parse) → Past s → Past (noted_of t s)
  past_noted t s p = if_intro Past (ltb 0 s.len) _ _ (λ h. if_intro Past (ltb s.len 33) _ _ (λ e. p) (λ e. p)) (λ h. past_put t Other s p)

  -- a call that steps over U+034F is
  abbrev Over : Parse → Type 0
  Over q = q.joins ≡ true → Past q

  over_keeps : Keeps longer Over Over
  over_keeps = record {
    put = λ c s g i j. past_put (token_at longer s.at) c s (i (sym (put_same (λ q. q.joins) (λ n cs q. refl) (token_at longer s.at) s c) ∙ j));
    noted = λ s g i j. past_noted (token_at longer s.at) s (i (sym (noted_same (λ q. q.joins) (λ n cs q. refl) (token_at longer s.at) s) ∙ j));
    moved = λ s i. moved_case Over (length longer) s (λ l h j d a. i j d (omega arith)) (λ l h j d a. absurd (false≢true (sym d))) (λ l j d a. l);
    marked = λ i s h. h;
    stopped = λ s g h. h;
    resumed = λ s h. h;
    retried = λ s h. if_intro Over (passes_end s.mode s.flow s.again) _ _ (λ e. h) (λ e. h);
  }

  -- a step off the new token is behind it
  over_step : (s : Parse) → s.at ≡ length stream → Over (step_of longer s)
  unfolding step_of
  over_step s e = loop_keeps longer (on_joiner longer) (hop longer) Over (hop_keeps longer Over Over over_keeps) (moved_of (length longer) s)
      (moved_case Over (length longer) s (λ l h j d a. absurd (omega (arith, longer_length))) (λ l h j d a. absurd (false≢true (sym d))) (λ l j d a. l))

  joins_keeps : (b : Bool) → Keeps longer (λ q. q.joins ≡ b) (λ q. q.joins ≡ b)
  joins_keeps b = plain_keeps longer (λ q. q.joins ≡ b) (record {
    cells = λ n cs q i. i;
    info = λ j q i. i;
    flow = λ f q i. i;
    again = λ q i. i;
    moved = λ q i. moved_case (λ u. u.joins ≡ b) (length longer) q (λ l h. i) (λ l h. i) (λ l. i);
  })

  module _ (cgj : scalar_of x ≡ CGJ) where
    -- a step off the last token goes over the new one
    over_off : (s : Parse) → going s ≡ true → s.at < length stream → s.len < 32 → length stream ≤ s.at + 1 → Over (step_of longer (shift 0 s))
    unfolding push_of
    over_off s g a l e j =
        let m = with_place (length stream) s in
        let t = token_at longer (length stream) in
        let js : s.joins ≡ true = sym (step_keeps longer (λ q. q.joins ≡ s.joins) (λ q. q.joins ≡ s.joins) (joins_keeps s.joins) (shift 0 s) refl) ∙ j in
        let h : on_joiner longer m ≡ true = rw (g, js, get_or-append_seam stream x [] 0, cgj) in
        subst Over (step_over longer (shift 0 s) m (sym (onto s a l e)) h) (over_step (put_of t Other m) (put_same (λ q. q.at) (λ n cs q. refl) t m Other)) j

    pub stepped_past : (parser : Parser) → joins parser ≡ true → (at : ℕ) → at < length stream → (mode : Mode) → (called parser mode stream at).done ≡ true → Past (called parser mode longer at)
    unfolding called
    stepped_past parser j at inside mode d =
        let s = begin (record { at = at }) mode (joins parser) in
        let w = from_start stream (x ∷ []) in
        let js : (run (grammar parser) longer s).joins ≡ true = run_keeps longer _ _ (joins_keeps true) (grammar parser) s j in
        subst (λ q. Over (run (grammar parser) longer q)) (shift_none s)
        (run_off longer stream 0 w Over over_keeps over_off (grammar parser) s (grammar_alike longer stream 0 w at inside mode parser (ahead cgj parser j at inside mode)) (λ n. inside) refl d) js
