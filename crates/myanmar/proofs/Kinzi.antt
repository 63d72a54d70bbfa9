-- A kinzi at the start of a call: its three tokens are in the text, the rule does what the Rust's three pushes and three steps do, and
-- where the text ends behind it is told by the tokens. Assumes nothing.
use Prim.Native.Nat.{ℕ, zero, suc, ◌+◌, ◌<◌, ◌≤◌}
use mathlib.Core.Path.{◌≡◌, refl, sym, ◌∙◌, ap}
use mathlib.Core.Bool.{Bool, true, false, cond}
use mathlib.Core.List.{List}
use native.Mathlib.Omega.{arith}
use native.Mathlib.Numerals.{add-one}
use lib.Dec.{eqb, ltb}
use lib.ListN.{length, drop, drop_of_length-le, get_or-eq_default}
use lib.Seq.{drop-cons}
use borrow.Author.Tests.{lt-ltb, le-ltb, ltb-true, ltb-false, eqb-true}
use Rattle.basics.proofs.Tests.{both_of, if_same, by_test}
use Rattle.basics.specs.Sets.{member}
use Rattle.classes.specs.declared.Mode.{Mode}
use Rattle.classes.specs.declared.Shape.TheVariants.{Kinzi, Other}
use Rattle.classes.specs.Scalar.{CGJ, kinzi_firsts, ASAT, VIRAMA}
use Rattle.token.specs.Token.{scalar_of}
use Rattle.parse.specs.declared.Parse.{Parse}
use Rattle.parse.specs.declared.Flow.{Flow}
use Rattle.parse.specs.declared.Flow.TheVariants.{GoOn, Stop, Full, End}
use Rattle.parse.specs.State.{token_at, begin, is_going, going, with_place, put_of, step_of, push_of, retried_of}
use Rattle.parse.specs.Rule.{run, take_of, thrice_of, thrice}
use Rattle.parse.proofs.Moves.{step_over, step_stays}
use Rattle.parse.proofs.Steps.{plus, put_plus, moved_next, moved_end, moved_full, step_next, take_next, going_flow, retried_going}
use Rattle.myanmar.specs.Grammar.{scalar_at, is_kinzi, kinzi, cluster}
use Rattle.myanmar.specs.Kinzi.{three_pushes, ignored_step, kinzi_as_rust, cluster_around, cluster_as_rust}
use Rattle.myanmar.specs.Repeat.{only_joiners, ends_behind}

-- a scalar that is not 0 stands in the text
scalar_inside : (text : List ℕ) (i x : ℕ) → scalar_at text i ≡ x → 0 < x → i < length text
scalar_inside text i x e h = by_test (ltb i (length text)) (ltb-true i (length text))
    (λ n. let z : scalar_at text i ≡ 0 = ap scalar_of (get_or-eq_default text 0 (ltb-false i (length text) n)) in absurd (omega arith))

module _ (text : List ℕ) (i : ℕ) (k : is_kinzi text i ≡ true) where
  pub kinzi_second : (scalar_at text (i + 1) ≡ ASAT) × (scalar_at text (i + 2) ≡ VIRAMA)
  unfolding is_kinzi
  kinzi_second = let z = (both_of (member kinzi_firsts (scalar_at text i)) _ k).1 in let y = both_of (eqb (scalar_at text (i + 1)) ASAT) _ z in
      (eqb-true (scalar_at text (i + 1)) ASAT y.0, eqb-true (scalar_at text (i + 2)) VIRAMA y.1)

  pub kinzi_inside : i + 2 < length text
  kinzi_inside = scalar_inside text (i + 2) VIRAMA kinzi_second.1 (omega arith)

  module _ (m : Mode) where
    abbrev start : Parse
    start = begin (record { at = i }) m true

    -- the three tokens are pushed, and the third is current
    abbrev taken : Parse
    taken = with_place (i + 2) (three_pushes text start)

    two : i + 1 + 1 ≡ i + 2
    two = omega arith

    -- the rule's way there
    pub thrice_steps : thrice_of text Kinzi start ≡ step_of text taken
    unfolding thrice_of push_of
    thrice_steps =
        let s₁ : Parse = with_place (i + 1) (plus (token_at text i) Kinzi start) in
        let e₁ : take_of text Kinzi start ≡ s₁ = take_next text Kinzi start refl (omega arith) (omega (arith, kinzi_inside)) (ap (λ x. eqb x CGJ) kinzi_second.0) in
        let e₂ : take_of text Kinzi s₁ ≡ with_place (i + 1 + 1) (plus (token_at text (i + 1)) Kinzi s₁) =
        take_next text Kinzi s₁ refl (omega arith) (omega (arith, kinzi_inside)) (rw two (ap (λ x. eqb x CGJ) kinzi_second.1)) in
        ap (λ q. take_of text Kinzi (take_of text Kinzi q)) e₁ ∙ ap (take_of text Kinzi) e₂
        ∙ ap (λ j. step_of text (put_of (token_at text j) Kinzi (with_place j (plus (token_at text (i + 1)) Kinzi s₁)))) two

    -- the Rust's way there
    rust_steps : kinzi_as_rust text start ≡ retried_of (step_of text taken)
    unfolding kinzi_as_rust
    rust_steps =
        let p : Parse = three_pushes text start in
        let e₁ : ignored_step text p ≡ with_place (i + 1) p =
        ap retried_of (step_next text p (omega arith) (omega (arith, kinzi_inside)) (ap (λ x. eqb x CGJ) kinzi_second.0)) ∙ retried_going (with_place (i + 1) p) refl in
        let e₂ : ignored_step text (with_place (i + 1) p) ≡ with_place (i + 1 + 1) p =
        ap retried_of (step_next text (with_place (i + 1) p) (omega arith) (omega (arith, kinzi_inside)) (rw two (ap (λ x. eqb x CGJ) kinzi_second.1))) ∙ retried_going (with_place (i + 1 + 1) p) refl in
        ap (λ q. ignored_step text (ignored_step text q)) e₁ ∙ ap (ignored_step text) e₂ ∙ ap (λ j. ignored_step text (with_place j p)) two

    -- Wherever a kinzi is met, three pushes and three steps whose failure is not looked at leave what the rule leaves.
    pub kinzi_as_rust_lem : run (thrice Kinzi) text start ≡ kinzi_as_rust text start
    unfolding run
    kinzi_as_rust_lem = ap retried_of thrice_steps ∙ sym rust_steps

-- So a call of the Rust hands back the cluster and the place that the rule's call does, from every place and in both modes.
pub cluster_as_rust_lem : (text : List ℕ) (i : ℕ) (m : Mode) → run cluster text (begin (record { at = i }) m true) ≡ cluster_as_rust text (begin (record { at = i }) m true)
unfolding run cluster kinzi cluster_as_rust
cluster_as_rust_lem text i m = ap (cluster_around text (begin (record { at = i }) m true)) (by_test (is_kinzi text i) (λ k. rw k (kinzi_as_rust_lem text i k m)) (λ k. rw k))

-- # The end of the text behind a kinzi

abbrev pub is_end : Flow → Bool
is_end GoOn = false
is_end Stop = false
is_end Full = false
is_end End = true

-- a step reaches the end of the text exactly where U+034F only stands behind it, and not so many that the cluster is full
module _ (text : List ℕ) where
  abbrev reaches : Parse → Bool
  reaches s = cond (only_joiners (drop (s.at + 1) text)) (ltb (s.len + length text) (s.at + 33)) false

  -- at the end, at a cluster of 32, onto a token that is no U+034F
  reaches_end : (s : Parse) → s.len < 32 → s.at + 1 ≡ length text → reaches s ≡ true
  reaches_end s l e = rw (drop_of_length-le text {i = s.at + 1} (omega arith), lt-ltb (s.len + length text) (s.at + 33) (omega arith))

  reaches_full : (s : Parse) → 32 ≤ s.len → s.at < length text → reaches s ≡ false
  reaches_full s l h = rw (le-ltb (s.len + length text) (s.at + 33) (omega arith)) (if_same (λ b. b) (only_joiners (drop (s.at + 1) text)) false false false refl refl)

  reaches_no : (s : Parse) → s.at + 1 < length text → eqb (scalar_of (token_at text (s.at + 1))) CGJ ≡ false → reaches s ≡ false
  reaches_no s h e = rw (drop-cons text (s.at + 1) 0 h, e)

  -- onto one that is
  reaches_on : (s : Parse) (q : Parse) → s.at + 1 < length text → eqb (scalar_of (token_at text (s.at + 1))) CGJ ≡ true → q.at ≡ s.at + 1 → q.len ≡ s.len + 1 → reaches q ≡ reaches s
  reaches_on s q h e a l = rw (drop-cons text (s.at + 1) 0 h, e, a, l, add-one (s.at + 1)) (ap (λ b. cond (only_joiners (drop (suc (s.at + 1)) text)) b false) same)
    where
      same : ltb (s.len + 1 + length text) (s.at + 1 + 33) ≡ ltb (s.len + length text) (s.at + 33)
      same = by_test (ltb (s.len + length text) (s.at + 33))
          (λ t. rw (t, lt-ltb (s.len + 1 + length text) (s.at + 1 + 33) (omega (arith, ltb-true (s.len + length text) (s.at + 33) t))))
          (λ t. rw (t, le-ltb (s.len + 1 + length text) (s.at + 1 + 33) (omega (arith, ltb-false (s.len + length text) (s.at + 33) t))))

  push_steps : (s q : Parse) → put_of (token_at text s.at) Other s ≡ q → push_of text Other s ≡ step_of text q
  unfolding push_of
  push_steps s q e = ap (step_of text) e

  going_no : (f : Flow) → is_going f ≡ true → is_end f ≡ false
  going_no f g = ap is_end (going_flow f g)

  -- onto the next token, where the step from a U+034F there is known
  next_ends : (s : Parse) → s.len < 32 → s.at + 1 < length text → going s ≡ true → s.joins ≡ true
      → (later : is_end (step_of text (plus (token_at text (s.at + 1)) Other (with_place (s.at + 1) s))).flow ≡ reaches (plus (token_at text (s.at + 1)) Other (with_place (s.at + 1) s)))
      → is_end (step_of text s).flow ≡ reaches s
  next_ends s l i g j later =
      let m : Parse = with_place (s.at + 1) s in
      let q : Parse = plus (token_at text (s.at + 1)) Other m in
      by_test (eqb (scalar_of (token_at text (s.at + 1))) CGJ)
      (λ t. ap (λ (u : Parse). is_end u.flow)
      (sym (step_over text s m (sym (moved_next (length text) s l i)) (rw (g, j, t))) ∙ push_steps m q (put_plus (token_at text (s.at + 1)) Other m l))
      ∙ later ∙ reaches_on s q i t refl refl)
      (λ t. ap (λ (u : Parse). is_end u.flow) (step_next text s l i t) ∙ going_no s.flow g ∙ sym (reaches_no s i t))

  step_ends : (n : ℕ) (s : Parse) → length text ≤ s.at + n → s.at < length text → going s ≡ true → s.joins ≡ true → is_end (step_of text s).flow ≡ reaches s
  step_ends zero s f h g j = absurd (omega arith)
  step_ends (suc n) s f h g j = by_test (ltb s.len 32)
      (λ l. by_test (ltb (s.at + 1) (length text))
      (λ i. let k = ltb-true (s.at + 1) (length text) i in
      next_ends s (ltb-true s.len 32 l) k g j (step_ends n (plus (token_at text (s.at + 1)) Other (with_place (s.at + 1) s)) (omega arith) k g j))
      (λ i. let k = ltb-false (s.at + 1) (length text) i in
      ap (λ (q : Parse). is_end q.flow) (sym (step_stays text s _ (sym (moved_end (length text) s (ltb-true s.len 32 l) k)) refl)) ∙ sym (reaches_end s (ltb-true s.len 32 l) (omega arith))))
      (λ l. let k = ltb-false s.len 32 l in
      ap (λ (q : Parse). is_end q.flow) (sym (step_stays text s _ (sym (moved_full (length text) s k)) refl)) ∙ sym (reaches_full s k h))

-- the text ends behind a kinzi, within the cluster, exactly where SCOPE 6.8 says so
pub kinzi_ends : (text : List ℕ) (i : ℕ) → is_kinzi text i ≡ true → (m : Mode) → is_end (thrice_of text Kinzi (begin (record { at = i }) m true)).flow ≡ ends_behind text i
kinzi_ends text i k m =
    ap (λ (q : Parse). is_end q.flow) (thrice_steps text i k m)
    ∙ step_ends text (length text) (taken text i k m) (omega arith) (kinzi_inside text i k) refl refl
    ∙ same
  where
    three : i + 2 + 1 ≡ i + 3
    three = omega arith

    bound : ltb (3 + length text) (i + 2 + 33) ≡ ltb (length text) (i + 32)
    bound = by_test (ltb (length text) (i + 32))
        (λ t. rw (t, lt-ltb (3 + length text) (i + 2 + 33) (omega (arith, ltb-true (length text) (i + 32) t))))
        (λ t. rw (t, le-ltb (3 + length text) (i + 2 + 33) (omega (arith, ltb-false (length text) (i + 32) t))))

    same : reaches text (taken text i k m) ≡ ends_behind text i
    same = rw (three, bound)
