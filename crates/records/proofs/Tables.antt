-- A verdict by a table of refusals: what the lines give one after the other is the first offence in testing order. One law for every
-- call that refuses, `by_table`. Assumes nothing.
use Rattle.std.specs.Prelude.{Ok, Err}
use Prim.Native.Nat.{ℕ, zero, suc, ◌+◌, ◌<◌, ◌≤◌}
use mathlib.Core.Path.{◌≡◌, refl, sym, ◌∙◌, ap, subst}
use mathlib.Core.Bool.{Bool, true, false, cond, ◌&&◌, ◌||◌, and-false, or-true, or-false, or_assoc, false≢true}
use mathlib.Core.List.{List, [], ◌∷◌, ◌++◌}
use mathlib.Core.Logic.{◌⊎◌, inl, inr, ⊎_elim}
use native.Mathlib.Nat.{eq-or-lt_of_le, le_of_eq}
use native.Mathlib.Omega.{arith}
use lib.Dec.{eqb, leb, ltb}
use borrow.Author.Tests.{eqb-true, eq-eqb, leb-true, ltb-true, ltb-false, lt-ltb, le-ltb}
use Rattle.basics.proofs.Tests.{both, by_test, either}
use Rattle.basics.specs.Sets.{member}
use Rattle.records.specs.declared.Side.{Side}
use Rattle.records.specs.declared.Side.TheVariants.{Record, Part, Neither}
use Rattle.records.specs.declared.Refusal.{Refusal}
use Rattle.records.specs.Verdict.{Verdict}
use Rattle.records.specs.Refusals.{refusal, refuse, ◌⊳◌, over}
use Rattle.records.specs.Offences.{Line, breaks, Table, Offends, rank, stage_at, stage, Earlier, Judges, side_numbers, Carries, ByTable}

-- # Lines in order

-- a number whose rank is from low on and below high, of the call's numbers and of the side's
abbrev pub fits : List ℕ → Side → ℕ → ℕ → ℕ → Bool
fits numbers side low high number = leb low (rank number) && (ltb (rank number) high && (member numbers number && member (side_numbers side) number))

-- the numbers of the lines are such, and their ranks rise
abbrev pub in_order : List ℕ → Side → ℕ → ℕ → List Line → Bool
in_order numbers side low high [] = true
in_order numbers side low high (l ∷ ls) = fits numbers side low high l.number && in_order numbers side (suc (rank l.number)) high ls

pub record Fits (numbers : List ℕ) (side : Side) (low high number : ℕ) : Type 0 where
  pub from : low ≤ rank number
  pub below : rank number < high
  pub called : member numbers number ≡ true
  pub sided : member (side_numbers side) number ≡ true

test_fits : (numbers : List ℕ) (side : Side) (low high number : ℕ) → fits numbers side low high number ≡ true → Fits numbers side low high number
test_fits numbers side low high number e =
    let a : _ = both (leb low (rank number)) (ltb (rank number) high && (member numbers number && member (side_numbers side) number)) e in
    let b : _ = both (ltb (rank number) high) (member numbers number && member (side_numbers side) number) a.1 in
    let c : _ = both (member numbers number) (member (side_numbers side) number) b.1 in
    record { from = leb-true low (rank number) a.0; below = ltb-true (rank number) high b.0; called = c.0; sided = c.1 }

told : {numbers : List ℕ} {side : Side} {low high number : ℕ} → Fits numbers side low high number → (member numbers number ≡ true) × (member (side_numbers side) number ≡ true)
told f = (f.called, f.sided)

-- so is the number of a broken line
pub broken_fits : (numbers : List ℕ) (side : Side) (low high : ℕ) (ls : List Line) (number : ℕ) → in_order numbers side low high ls ≡ true → breaks ls number ≡ true → Fits numbers side low high number
broken_fits numbers side low high [] number ordered b = absurd (false≢true b)
broken_fits numbers side low high (l ∷ ls) number ordered b =
    let w : _ = both (fits numbers side low high l.number) (in_order numbers side (suc (rank l.number)) high ls) ordered in
    let here : Fits numbers side low high l.number = test_fits numbers side low high l.number w.0 in
    ⊎_elim (λ (h : (eqb l.number number && l.broken) ≡ true). subst (Fits numbers side low high) (eqb-true l.number number (both (eqb l.number number) l.broken h).0) here)
    (λ (h : breaks ls number ≡ true).
    let r : Fits numbers side (suc (rank l.number)) high number = broken_fits numbers side (suc (rank l.number)) high ls number w.1 h in
    record { from = omega (arith, r.from, here.from); below = r.below; called = r.called; sided = r.sided })
    (either (eqb l.number number && l.broken) (breaks ls number) b)

breaks_append : (ls ms : List Line) (number : ℕ) → breaks (ls ++ ms) number ≡ (breaks ls number || breaks ms number)
breaks_append [] ms number = refl
breaks_append (l ∷ ls) ms number =
    ap (λ b. eqb l.number number && l.broken || b) (breaks_append ls ms number)
    ∙ sym (or_assoc (eqb l.number number && l.broken) (breaks ls number) (breaks ms number))

-- # The order of offences

-- what a number's rank is
abbrev Ranked : ℕ → Type 0
Ranked n = ((n ≡ 15) × (rank n ≡ 0)) ⊎ (((n ≡ 10) × (rank n ≡ 4)) ⊎ (((n < 3) × (rank n ≡ n + 1)) ⊎ ((3 ≤ n) × (rank n ≡ n + 2))))

ranked : (n : ℕ) → Ranked n
ranked n =
    by_test (eqb n 15) (λ d. inl (eqb-true n 15 d, rw d))
    (λ d. by_test (eqb n 10) (λ e. inr (inl (eqb-true n 10 e, rw (d, e))))
    (λ e. by_test (ltb n 3) (λ f. inr (inr (inl (ltb-true n 3 f, rw (d, e, f))))) (λ f. inr (inr (inr (ltb-false n 3 f, rw (d, e, f)))))))

-- it tells the number, and rises with it but for 10 and 15
rank_tells : (a b : ℕ) → rank a ≡ rank b → a ≡ b
rank_tells a b e = go (ranked a) (ranked b)
  where
    go : Ranked a → Ranked b → a ≡ b
    go (inl p) (inl q) = omega (arith, p.0, q.0)
    go (inl p) (inr (inl q)) = absurd (omega (arith, e, p.1, q.1))
    go (inl p) (inr (inr (inl q))) = absurd (omega (arith, e, p.1, q.1))
    go (inl p) (inr (inr (inr q))) = absurd (omega (arith, e, p.1, q.1))
    go (inr (inl p)) (inl q) = absurd (omega (arith, e, p.1, q.1))
    go (inr (inl p)) (inr (inl q)) = omega (arith, p.0, q.0)
    go (inr (inl p)) (inr (inr (inl q))) = absurd (omega (arith, e, p.1, q.0, q.1))
    go (inr (inl p)) (inr (inr (inr q))) = absurd (omega (arith, e, p.1, q.0, q.1))
    go (inr (inr (inl p))) (inl q) = absurd (omega (arith, e, p.1, q.1))
    go (inr (inr (inl p))) (inr (inl q)) = absurd (omega (arith, e, q.1, p.0, p.1))
    go (inr (inr (inl p))) (inr (inr (inl q))) = omega (arith, e, p.1, q.1)
    go (inr (inr (inl p))) (inr (inr (inr q))) = absurd (omega (arith, e, p.0, p.1, q.0, q.1))
    go (inr (inr (inr p))) (inl q) = absurd (omega (arith, e, p.1, q.1))
    go (inr (inr (inr p))) (inr (inl q)) = absurd (omega (arith, e, q.1, p.0, p.1))
    go (inr (inr (inr p))) (inr (inr (inl q))) = absurd (omega (arith, e, p.0, p.1, q.0, q.1))
    go (inr (inr (inr p))) (inr (inr (inr q))) = omega (arith, e, p.1, q.1)

rank_rises : (a b : ℕ) → member (10 ∷ 15 ∷ []) b ≡ false → a < b → rank a < rank b
rank_rises a b apart l = go (ranked a) (ranked b)
  where
    go : Ranked a → Ranked b → rank a < rank b
    go p (inl q) = absurd (false≢true (sym apart ∙ ap (member (10 ∷ 15 ∷ [])) q.0))
    go p (inr (inl q)) = absurd (false≢true (sym apart ∙ ap (member (10 ∷ 15 ∷ [])) q.0))
    go (inl p) (inr (inr (inl q))) = omega (arith, p.1, q.1)
    go (inl p) (inr (inr (inr q))) = omega (arith, p.1, q.1)
    go (inr (inl p)) (inr (inr (inl q))) = absurd (omega (arith, p.0, q.0))
    go (inr (inl p)) (inr (inr (inr q))) = omega (arith, p.1, q.0, q.1)
    go (inr (inr (inl p))) (inr (inr (inl q))) = omega (arith, p.1, q.1)
    go (inr (inr (inl p))) (inr (inr (inr q))) = omega (arith, p.1, q.1)
    go (inr (inr (inr p))) (inr (inr (inl q))) = absurd (omega (arith, p.0, q.0))
    go (inr (inr (inr p))) (inr (inr (inr q))) = omega (arith, p.1, q.1)

stage_rises : (side : Side) (number number' : ℕ) → rank number ≤ rank number' → stage_at side number ≤ stage_at side number'
stage_rises Part number number' h = omega arith
stage_rises Record number number' h = omega arith
stage_rises Neither number number' h = go (ltb (rank number) 5) (ltb (rank number') 5) refl refl
  where
    go : (a b : Bool) → ltb (rank number) 5 ≡ a → ltb (rank number') 5 ≡ b → cond a 0 3 ≤ cond b 0 3
    go true b e f = omega arith
    go false true e f = absurd (omega (arith, ltb-false (rank number) 5 e, ltb-true (rank number') 5 f))
    go false false e f = omega arith

-- at one side and index only what ranks lower comes earlier, and it does
not_earlier : (r : Refusal) (number : ℕ) → rank r.number ≤ rank number → Earlier (refusal number r.side r.index) r → ⊥
not_earlier r number h (inl l) = omega (arith, stage_rises r.side r.number number h)
not_earlier r number h (inr (e, inl l)) = omega arith
not_earlier r number h (inr (e, inr (q, l))) = omega arith

lower_earlier : (r : Refusal) (number : ℕ) → rank number < rank r.number → Earlier (refusal number r.side r.index) r
lower_earlier r number h =
    let l : rank number ≤ rank r.number = omega arith in
    ⊎_elim (λ e. inr (e, inr (refl, h))) (λ k. inl k) (eq-or-lt_of_le (stage_rises r.side number r.number l))

-- # Verdicts one after the other

abbrev Offences : Type 1
Offences = Refusal → Type 0

abbrev Either : Offences → Offences → Offences
Either A B r = A r ⊎ B r

module _ (A B : Offences) where
  same_judges : (v : Verdict) → ((r : Refusal) → A r → B r) → ((r : Refusal) → B r → A r) → Judges A v → Judges B v
  same_judges (Ok _) f g j = λ r o. j r (g r o)
  same_judges (Err r) f g j = (f r j.0, λ q e o. j.1 q e (g q o))

  -- no offence of the later comes earlier
  abbrev Apart : Type 0
  Apart = (r q : Refusal) → A r → B q → Earlier q r → ⊥

  then_judges : (a b : Verdict) → Apart → Judges A a → Judges B b → Judges (Either A B) (a ⊳ b)
  then_judges (Ok _) (Ok _) apart p q = λ r o. ⊎_elim (λ x. p r x) (λ y. q r y) o
  then_judges (Ok _) (Err r) apart p q = (inr q.0, λ s e o. ⊎_elim (λ x. p s x) (λ y. q.1 s e y) o)
  then_judges (Err r) b apart p q = (inl p.0, λ s e o. ⊎_elim (λ x. p.1 s e x) (λ y. apart r s p.0 y e) o)

  by_stage : (k : ℕ) → ((r : Refusal) → A r → stage r ≤ k) → ((r : Refusal) → B r → k < stage r) → Apart
  by_stage k f g r q x y (inl l) = omega (arith, f r x, g q y)
  by_stage k f g r q x y (inr (e, o)) = omega (arith, f r x, g q y)

-- # Lines about one thing

abbrev pub first_line : List Line → Side → ℕ → Verdict
first_line [] side index = Ok tt
first_line (l ∷ ls) side index = refuse l.broken l.number side index ⊳ first_line ls side index

abbrev Fault : List Line → Side → ℕ → Offences
Fault ls side index r = (r.side ≡ side) × (r.index ≡ index) × (breaks ls r.number ≡ true)

unbroken : (l : Line) (ls : List Line) (number : ℕ) → l.broken ≡ false → breaks (l ∷ ls) number ≡ breaks ls number
unbroken l ls number e = rw (e, and-false (eqb l.number number))

lines_judge : (numbers : List ℕ) (side : Side) (index low high : ℕ) (ls : List Line) → in_order numbers side low high ls ≡ true → Judges (Fault ls side index) (first_line ls side index)
lines_judge numbers side index low high [] ordered = λ r o. absurd (false≢true o.2)
lines_judge numbers side index low high (l ∷ ls) ordered =
    go l.broken refl (lines_judge numbers side index (suc (rank l.number)) high ls rest)
  where
    rest : in_order numbers side (suc (rank l.number)) high ls ≡ true
    rest = (both (fits numbers side low high l.number) (in_order numbers side (suc (rank l.number)) high ls) ordered).1

    not_before : (number : ℕ) → breaks (l ∷ ls) number ≡ true → rank l.number ≤ rank number
    not_before number b =
        ⊎_elim (λ (h : (eqb l.number number && l.broken) ≡ true). le_of_eq (ap rank (eqb-true l.number number (both (eqb l.number number) l.broken h).0)))
        (λ (h : breaks ls number ≡ true). omega (arith, (broken_fits numbers side (suc (rank l.number)) high ls number rest h).from))
        (either (eqb l.number number && l.broken) (breaks ls number) b)

    first : (r : Refusal) → Earlier r (refusal l.number side index) → Fault (l ∷ ls) side index r → ⊥
    first r e o =
        not_earlier (refusal l.number side index) r.number (not_before r.number o.2)
        (subst (λ s. Earlier (refusal r.number s index) (refusal l.number side index)) o.0
        (subst (λ i. Earlier (refusal r.number r.side i) (refusal l.number side index)) o.1 e))

    go : (b : Bool) → l.broken ≡ b → Judges (Fault ls side index) (first_line ls side index) → Judges (Fault (l ∷ ls) side index) (refuse b l.number side index ⊳ first_line ls side index)
    go true e j = ((refl, refl, rw (eq-eqb l.number l.number refl, e)), first)
    go false e j =
        same_judges (Fault ls side index) (Fault (l ∷ ls) side index) (first_line ls side index)
        (λ r o. (o.0, o.1, unbroken l ls r.number e ∙ o.2)) (λ r o. (o.0, o.1, sym (unbroken l ls r.number e) ∙ o.2)) j

-- # Lines about each of n indices, of a side that is one stage

abbrev Faults : (ℕ → List Line) → Side → ℕ → ℕ → Offences
Faults ls side from n r = (r.side ≡ side) × (from ≤ r.index) × (r.index < from + n) × (breaks (ls r.index) r.number ≡ true)

module _ (numbers : List ℕ) (side : Side) (low high : ℕ) (ls : ℕ → List Line) (ordered : (i : ℕ) → in_order numbers side low high (ls i) ≡ true) (flat : (number number' : ℕ) → stage_at side number ≡ stage_at side number') where
  rising : (from n : ℕ) → Apart (Fault (ls from) side from) (Faults ls side (from + 1) n)
  rising from n r q x y e =
      let a : stage r ≡ stage_at side r.number = ap (λ s. stage_at s r.number) x.0 in
      let b : stage q ≡ stage_at side q.number = ap (λ s. stage_at s q.number) y.0 in
      let c : stage_at side q.number ≡ stage_at side r.number = flat q.number r.number in
      ⊎_elim (λ l. omega arith) (λ o. ⊎_elim (λ l. omega (arith, x.1, y.1)) (λ p. omega (arith, x.1, y.1, p.0)) o.1) e

  abbrev judge : ℕ → Verdict
  judge i = first_line (ls i) side i

  over_judges : (n from : ℕ) → Judges (Faults ls side from n) (over judge from n)
  unfolding over
  over_judges zero from = λ r o. omega (arith, o.1, o.2)
  over_judges (suc n) from =
      same_judges (Either (Fault (ls from) side from) (Faults ls side (from + 1) n)) (Faults ls side from (suc n)) (judge from ⊳ over judge (from + 1) n) spread gathered
      (then_judges (Fault (ls from) side from) (Faults ls side (from + 1) n) (judge from) (over judge (from + 1) n) (rising from n) (lines_judge numbers side from low high (ls from) (ordered from)) (over_judges n (from + 1)))
    where
      spread : (r : Refusal) → Either (Fault (ls from) side from) (Faults ls side (from + 1) n) r → Faults ls side from (suc n) r
      spread r (inl (s, i, b)) = (s, omega arith, omega arith, subst (λ k. breaks (ls k) r.number ≡ true) (sym i) b)
      spread r (inr (s, l, h, b)) = (s, omega arith, omega arith, b)

      gathered : (r : Refusal) → Faults ls side from (suc n) r → Either (Fault (ls from) side from) (Faults ls side (from + 1) n) r
      gathered r (s, l, h, b) =
          ⊎_elim (λ e. inl (s, sym e, subst (λ k. breaks (ls k) r.number ≡ true) (sym e) b)) (λ q. inr (s, omega arith, omega arith, b)) (eq-or-lt_of_le l)

-- # Offences decide the verdict

between : (b : Bool) (k : ℕ) → 0 < k → k < 3 → k ≡ cond b 0 3 → ⊥
between true k l h e = omega arith
between false k l h e = omega arith

stage_tells : (number : ℕ) (a b : Side) → stage_at a number ≡ stage_at b number → a ≡ b
stage_tells number Record Record e = refl
stage_tells number Record Part e = absurd (omega arith)
stage_tells number Record Neither e = absurd (between (ltb (rank number) 5) 2 (omega arith) (omega arith) e)
stage_tells number Part Record e = absurd (omega arith)
stage_tells number Part Part e = refl
stage_tells number Part Neither e = absurd (between (ltb (rank number) 5) 1 (omega arith) (omega arith) e)
stage_tells number Neither Record e = absurd (between (ltb (rank number) 5) 2 (omega arith) (omega arith) (sym e))
stage_tells number Neither Part e = absurd (between (ltb (rank number) 5) 1 (omega arith) (omega arith) (sym e))
stage_tells number Neither Neither e = refl

same_refusal : (number number' : ℕ) (side side' : Side) (index index' : ℕ) → number ≡ number' → side ≡ side' → index ≡ index' → refusal number side index ≡ refusal number' side' index'
same_refusal number number' side side' index index' n s i = rw (n, s, i)

-- two offences of which neither comes earlier are one
no_earlier : (r q : Refusal) → (Earlier r q → ⊥) → (Earlier q r → ⊥) → r ≡ q
no_earlier r q f g =
    let a : ¬ (stage r < stage q) = λ l. f (inl l) in
    let b : ¬ (stage q < stage r) = λ l. g (inl l) in
    let s : stage r ≡ stage q = omega (arith, a, b) in
    let c : ¬ (r.index < q.index) = λ l. f (inr (s, inl l)) in
    let d : ¬ (q.index < r.index) = λ l. g (inr (sym s, inl l)) in
    let i : r.index ≡ q.index = omega (arith, c, d) in
    let h : ¬ (rank r.number < rank q.number) = λ l. f (inr (s, inr (i, l))) in
    let k : ¬ (rank q.number < rank r.number) = λ l. g (inr (sym s, inr (sym i, l))) in
    let n : r.number ≡ q.number = rank_tells r.number q.number (omega (arith, h, k)) in
    let e : r.side ≡ q.side = stage_tells r.number r.side q.side (s ∙ ap (λ m. stage_at q.side m) (sym n)) in
    same_refusal r.number q.number r.side q.side r.index q.index n e i

judges_unique : (offends : Refusal → Type 0) (v w : Verdict) → Judges offends v → Judges offends w → v ≡ w
judges_unique offends (Ok _) (Ok _) p q = refl
judges_unique offends (Ok _) (Err r) p q = absurd (p r q.0)
judges_unique offends (Err r) (Ok _) p q = absurd (q r p.0)
judges_unique offends (Err r) (Err s) p q = ap Err (no_earlier r s (λ e. q.1 r e p.0) (λ e. p.1 s e q.0))

-- # A table

-- its lines one after the other
abbrev pub first_of : Table → Verdict
first_of t =
    first_line t.before Neither 0
    ⊳ over (λ i. first_line (t.of_part i) Part i) 0 t.parts
    ⊳ over (λ i. first_line (t.of_record i) Record i) 0 t.records
    ⊳ first_line t.after Neither 0

pub record Ordered (numbers : List ℕ) (t : Table) : Type 0 where
  pub before : in_order numbers Neither 0 5 t.before ≡ true
  pub parts : (i : ℕ) → in_order numbers Part 5 9 (t.of_part i) ≡ true
  pub records : (i : ℕ) → in_order numbers Record 5 9 (t.of_record i) ≡ true
  pub after : in_order numbers Neither 9 12 t.after ≡ true

module _ (numbers : List ℕ) (t : Table) (ordered : Ordered numbers t) where
  abbrev Before : Offences
  Before = Fault t.before Neither 0

  abbrev Parts : Offences
  Parts = Faults t.of_part Part 0 t.parts

  abbrev Records : Offences
  Records = Faults t.of_record Record 0 t.records

  abbrev After : Offences
  After = Fault t.after Neither 0

  staged_before : (r : Refusal) → Before r → stage r ≤ 0
  staged_before r o =
      let h : rank r.number < 5 = (broken_fits numbers Neither 0 5 t.before r.number ordered.before o.2).below in
      rw (o.0, lt-ltb (rank r.number) 5 h) (omega arith)

  staged_after : (r : Refusal) → After r → 2 < stage r
  staged_after r o =
      let h : 9 ≤ rank r.number = (broken_fits numbers Neither 9 12 t.after r.number ordered.after o.2).from in
      let l : 5 ≤ rank r.number = omega arith in
      rw (o.0, le-ltb (rank r.number) 5 l) (omega arith)

  staged_records : (r : Refusal) → Records r → stage r ≡ 2
  staged_records r o = ap (λ s. stage_at s r.number) o.0

  staged_parts : (r : Refusal) → Parts r → stage r ≡ 1
  staged_parts r o = ap (λ s. stage_at s r.number) o.0

  from_records : (r : Refusal) → Either Records After r → 1 < stage r
  from_records r (inl o) = omega (arith, staged_records r o)
  from_records r (inr o) = omega (arith, staged_after r o)

  from_parts : (r : Refusal) → Either Parts (Either Records After) r → 0 < stage r
  from_parts r (inl o) = omega (arith, staged_parts r o)
  from_parts r (inr o) = omega (arith, from_records r o)

  -- an offence on the side that its own is
  moved : (r : Refusal) (side : Side) → r.side ≡ side → Offends t (refusal r.number side r.index) → Offends t r
  moved r side s = subst (λ (q : Side). Offends t (refusal r.number q r.index)) (sym s)

  listed : (r : Refusal) → Either Before (Either Parts (Either Records After)) r → Offends t r
  listed r (inl (s, i, b)) = moved r Neither s (i, breaks_append t.before t.after r.number ∙ rw b)
  listed r (inr (inl (s, l, h, b))) = moved r Part s (omega arith, b)
  listed r (inr (inr (inl (s, l, h, b)))) = moved r Record s (omega arith, b)
  listed r (inr (inr (inr (s, i, b)))) =
      moved r Neither s (i, breaks_append t.before t.after r.number ∙ rw b (or-true (breaks t.before r.number)))

  parted : (number : ℕ) (side : Side) (index : ℕ) → Offends t (refusal number side index) → Either Before (Either Parts (Either Records After)) (refusal number side index)
  parted number Neither index (i, b) =
      ⊎_elim (λ h. inl (refl, i, h)) (λ h. inr (inr (inr (refl, i, h))))
      (either (breaks t.before number) (breaks t.after number) (sym (breaks_append t.before t.after number) ∙ b))
  parted number Part index (h, b) = inr (inl (refl, omega arith, omega arith, b))
  parted number Record index (h, b) = inr (inr (inl (refl, omega arith, omega arith, b)))

  first_judges : Judges (Offends t) (first_of t)
  first_judges =
      let parts : Verdict = over (λ i. first_line (t.of_part i) Part i) 0 t.parts in
      let records : Verdict = over (λ i. first_line (t.of_record i) Record i) 0 t.records in
      let after : Verdict = first_line t.after Neither 0 in
      same_judges (Either Before (Either Parts (Either Records After))) (Offends t) (first_of t) listed (λ r. parted r.number r.side r.index)
      (then_judges Before (Either Parts (Either Records After)) (first_line t.before Neither 0) (parts ⊳ records ⊳ after)
      (by_stage Before (Either Parts (Either Records After)) 0 staged_before from_parts)
      (lines_judge numbers Neither 0 0 5 t.before ordered.before)
      (then_judges Parts (Either Records After) parts (records ⊳ after)
      (by_stage Parts (Either Records After) 1 (λ r o. omega (arith, staged_parts r o)) from_records)
      (over_judges numbers Part 5 9 t.of_part ordered.parts (λ n m. refl) t.parts 0)
      (then_judges Records After records after
      (by_stage Records After 2 (λ r o. omega (arith, staged_records r o)) staged_after)
      (over_judges numbers Record 5 9 t.of_record ordered.records (λ n m. refl) t.records 0)
      (lines_judge numbers Neither 0 9 12 t.after ordered.after))))

  offence_listed : (number : ℕ) (side : Side) (index : ℕ) → Offends t (refusal number side index) → (member numbers number ≡ true) × (member (side_numbers side) number ≡ true)
  offence_listed number Neither index (i, b) =
      ⊎_elim (λ h. told (broken_fits numbers Neither 0 5 t.before number ordered.before h))
      (λ h. told (broken_fits numbers Neither 9 12 t.after number ordered.after h))
      (either (breaks t.before number) (breaks t.after number) (sym (breaks_append t.before t.after number) ∙ b))
  offence_listed number Part index (h, b) = told (broken_fits numbers Part 5 9 (t.of_part index) number (ordered.parts index) b)
  offence_listed number Record index (h, b) = told (broken_fits numbers Record 5 9 (t.of_record index) number (ordered.records index) b)

  judges_carries : (v : Verdict) → Judges (Offends t) v → Carries numbers t v
  judges_carries (Ok _) j = tt
  judges_carries (Err r) j =
      let l : _ = offence_listed r.number r.side r.index j.0 in
      (l.0, l.1, j.0.0)

  -- The law: a call that looks for the lines one after the other says what the table says.
  pub by_table : (v : Verdict) → v ≡ first_of t → ByTable numbers t v
  by_table v e =
      let j : Judges (Offends t) v = subst (Judges (Offends t)) (sym e) first_judges in
      record {
        first = j;
        only = λ w q. judges_unique (Offends t) w v q j;
        lower = λ r f apart number l o. (subst (Judges (Offends t)) f j).1 (refusal number r.side r.index) (lower_earlier r number (rank_rises number r.number apart l)) o;
        carries = judges_carries v j;
      }

-- A call that can give neither 10 nor 15: of one side and index the smallest number is told, whatever it is.
pub lower_number : (numbers : List ℕ) (t : Table) (v : Verdict) → member numbers 10 ≡ false → member numbers 15 ≡ false → ByTable numbers t v → (r : Refusal) → v ≡ Err r → (number : ℕ) → number < r.number → Offends t (refusal number r.side r.index) → ⊥
lower_number numbers t v ten fifteen told r e number =
    told.lower r e
    (by_test (member (10 ∷ 15 ∷ []) r.number)
    (λ h. absurd (⊎_elim (λ k. never 10 ten (eqb-true r.number 10 k))
    (λ k. never 15 fifteen (eqb-true r.number 15 (sym (or-false (eqb r.number 15)) ∙ k))) (either (eqb r.number 10) (eqb r.number 15 || false) h)))
    (λ h. h)) number
  where
    never : (n : ℕ) → member numbers n ≡ false → r.number ≡ n → ⊥
    never n none k = false≢true (sym none ∙ ap (member numbers) (sym k) ∙ (subst (Carries numbers t) e told.carries).0)
