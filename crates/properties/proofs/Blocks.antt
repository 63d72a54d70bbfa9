-- Reading two blocks one after the other is reading them at once, where no line is cut. Assumes nothing.
use Rattle.std.specs.Prelude.{Ok, Err}
use Prim.Native.Nat.{ℕ, zero, suc, ◌+◌, ◌-◌, ◌<◌, ◌≤◌}
use mathlib.Core.Path.{◌≡◌, refl, sym, ◌∙◌, ap, subst}
use mathlib.Core.Bool.{Bool, true, false, cond, ◌||◌}
use mathlib.Core.List.{List, [], ◌∷◌, ◌++◌, append_assoc, append-nil}
use mathlib.Core.Logic.{◌⊎◌, inl, inr}
use native.Mathlib.Nat.{add-suc, add-zero, add_assoc, zero-add}
use native.Mathlib.Omega.{arith}
use lib.Dec.{eqb, leb, ltb}
use lib.ListN.{length, drop, take, length-append, length-drop}
use lib.Seq.{take-append-le, drop-append-le}
use borrow.Author.Tests.{eq-eqb, le-ltb, ltb-true, ltb-false}
use Rattle.basics.proofs.Tests.{by_test}
use Rattle.cases.specs.Spans.{before, up_to, after, rest, span, count}
use Rattle.cases.proofs.Splits.{count_bound}
use Rattle.records.specs.Refusals.{refusal, refuse, ◌⊳◌, over}
use Rattle.records.specs.declared.Side.TheVariants.{Neither}
use Rattle.records.specs.declared.Refusal.{Refusal}
use Rattle.records.specs.Verdict.{Verdict}
use Rattle.records.proofs.Judged.{alone}
use Rattle.records.proofs.Verdicts.{never, each_over}
use Rattle.properties.specs.declared.File.{File}
use Rattle.properties.specs.declared.Ruling.{Ruling}
use Rattle.properties.specs.Lines.{leading, ending, untailed, trimmed, without_CR, body_of, line_of}
use Rattle.properties.specs.Rulings.{ruling_of}
use Rattle.properties.specs.Ranges.{Ranges, ranges}
use Rattle.properties.specs.Reading.{Held, the_first, the_last, the_code, held_of, said_by, said, met, judge_ruling, room, judge_line, line_count, read_verdict, put_all, stored_in, read_ranges}
use Rattle.properties.proofs.Insertions.{put_all_length, put_all_append, met_append, met_put, stored_again}
use Rattle.properties.proofs.Readings.{Passed, accepted_passed, held_now, read_stored, held_after, room_after, held_fits}
use Rattle.properties.proofs.Refused.{Cause, read_refused_first, read_refused_only, refused_keeps, line_number}

-- # Lines of joined bytes

module _ (s : ℕ) where
  -- x has a separator
  module _ (y : List ℕ) where
    before_first : (x : List ℕ) → 0 < count s x → (before s (x ++ y) ≡ before s x) × (before s x < length x)
    unfolding before count
    before_first [] h = absurd (omega arith)
    before_first (z ∷ x) h = go (eqb z s) h (λ l. before_first x l)
      where
        go : (b : Bool) → 0 < cond b (suc (count s x)) (count s x) → (0 < count s x → (before s (x ++ y) ≡ before s x) × (before s x < length x)) → (cond b 0 (suc (before s (x ++ y))) ≡ cond b 0 (suc (before s x))) × (cond b 0 (suc (before s x)) < suc (length x))
        go true l f = (refl, omega arith)
        go false l f = (ap suc (f l).0, omega (arith, (f l).1))

    after_first : (x : List ℕ) → 0 < count s x → after s (x ++ y) ≡ after s x ++ y
    unfolding after
    after_first x h = let b : _ = before_first x h in rw b.0 (drop-append-le (suc (before s x)) x y (omega (arith, b.1)))

    up_to_first : (x : List ℕ) → 0 < count s x → up_to s (x ++ y) ≡ up_to s x
    unfolding up_to
    up_to_first x h = let b : _ = before_first x h in rw b.0 (take-append-le (before s x) x y (omega (arith, b.1)))

    -- x has none
    before_none : (x : List ℕ) → count s x ≡ 0 → before s (x ++ s ∷ y) ≡ length x
    unfolding before count
    before_none [] e = rw (eq-eqb s s refl)
    before_none (z ∷ x) e = go (eqb z s) e (λ q. before_none x q)
      where
        go : (b : Bool) → cond b (suc (count s x)) (count s x) ≡ 0 → (count s x ≡ 0 → before s (x ++ s ∷ y) ≡ length x) → cond b 0 (suc (before s (x ++ s ∷ y))) ≡ suc (length x)
        go true q f = absurd (omega arith)
        go false q f = ap suc (f q)

    after_none : (x : List ℕ) → count s x ≡ 0 → after s (x ++ s ∷ y) ≡ y
    unfolding after
    after_none x e = rw (before_none x e) (drop_over x)
      where
        drop_over : (t : List ℕ) → drop (suc (length t)) (t ++ s ∷ y) ≡ y
        drop_over [] = refl
        drop_over (z ∷ t) = drop_over t

  count_after : (x : List ℕ) → 0 < count s x → suc (count s (after s x)) ≡ count s x
  unfolding after before count
  count_after [] h = absurd (omega arith)
  count_after (z ∷ x) h = go (eqb z s) h (λ l. count_after x l)
    where
      go : (b : Bool) → 0 < cond b (suc (count s x)) (count s x) → (0 < count s x → suc (count s (drop (suc (before s x)) x)) ≡ count s x) → suc (count s (drop (cond b 0 (suc (before s x))) x)) ≡ cond b (suc (count s x)) (count s x)
      go true l f = refl
      go false l f = f l

  count_rest : (x : List ℕ) (k : ℕ) → k ≤ count s x → k + count s (rest s k x) ≡ count s x
  unfolding rest
  count_rest x zero h = omega arith
  count_rest x (suc k) h =
      let e : k + count s (rest s k x) ≡ count s x = count_rest x k (omega arith) in
      omega (arith, count_after (rest s k x) (omega arith))

  -- behind fewer lines than there are separators
  rest_first : (x y : List ℕ) (k : ℕ) → k ≤ count s x → rest s k (x ++ y) ≡ rest s k x ++ y
  unfolding rest
  rest_first x y zero h = refl
  rest_first x y (suc k) h =
      ap (after s) (rest_first x y k (omega arith)) ∙ after_first y (rest s k x) (omega (arith, count_rest x k (omega arith)))

  rest_add : (x : List ℕ) (n k : ℕ) → rest s (n + k) x ≡ rest s k (rest s n x)
  unfolding rest
  rest_add x n zero = rw (add-zero n)
  rest_add x n (suc k) = rw (add-suc n k) (ap (after s) (rest_add x n k))

  count_append : (x y : List ℕ) → count s (x ++ y) ≡ count s x + count s y
  unfolding count
  count_append [] y = omega arith
  count_append (z ∷ x) y = go (eqb z s) (count_append x y)
    where
      go : (b : Bool) → count s (x ++ y) ≡ count s x + count s y → cond b (suc (count s (x ++ y))) (count s (x ++ y)) ≡ cond b (suc (count s x)) (count s x) + count s y
      go true e = omega arith
      go false e = e

  -- each line takes a byte, if there is one left
  rest_length : (x : List ℕ) (k : ℕ) → length (rest s k x) ≤ length x - k
  unfolding rest after
  rest_length x zero = omega arith
  rest_length x (suc k) = omega (arith, rest_length x k, length-drop (suc (before s (rest s k x))) (rest s k x))

  span_past : (x : List ℕ) (k : ℕ) → length x ≤ k → span s k x ≡ []
  unfolding span up_to before
  span_past x k h = go (rest s k x) (omega (arith, rest_length x k))
    where
      go : (t : List ℕ) → length t ≤ 0 → take (before s t) t ≡ []
      go [] l = refl
      go (z ∷ t) l = absurd (omega arith)

-- no line is cut behind a
abbrev pub Whole : List ℕ → Type 0
Whole a = (a ≡ []) ⊎ ((c : List ℕ) × (a ≡ c ++ (10 ∷ [])))

rest_behind : (a b : List ℕ) → Whole a → rest 10 (count 10 a) (a ++ b) ≡ b
unfolding rest count
rest_behind a b (inl e) = rw e
rest_behind a b (inr (c, e)) =
    let n : count 10 (c ++ (10 ∷ [])) ≡ suc (count 10 c) = count_append 10 c (10 ∷ []) ∙ (omega arith) in
    let j : (c ++ (10 ∷ [])) ++ b ≡ c ++ (10 ∷ b) = append_assoc c (10 ∷ []) b in
    let z : count 10 (rest 10 (count 10 c) c) ≡ 0 = omega (arith, count_rest 10 c (count 10 c) (omega arith)) in
    rw (e, n, j) (ap (after 10) (rest_first 10 c (10 ∷ b) (count 10 c) (omega arith)) ∙ after_none 10 b (rest 10 (count 10 c) c) z)

module _ (a b : List ℕ) where
  -- the lines of a are the first ones
  pub span_first : (k : ℕ) → k < count 10 a → span 10 k (a ++ b) ≡ span 10 k a
  unfolding span
  span_first k h =
      ap (up_to 10) (rest_first 10 a b k (omega arith)) ∙ up_to_first 10 b (rest 10 k a) (omega (arith, count_rest 10 a k (omega arith)))

  -- and those of b follow
  pub span_behind : Whole a → (k : ℕ) → span 10 (count 10 a + k) (a ++ b) ≡ span 10 k b
  unfolding span
  span_behind w k = ap (up_to 10) (rest_add 10 (a ++ b) (count 10 a) k ∙ ap (rest 10 k) (rest_behind a b w))

-- # What they say

-- an empty line says nothing
past_nothing : (file : File) (x : List ℕ) (k : ℕ) → length x ≤ k → ruling_of file (span 10 k x) ≡ Ruling.Nothing
unfolding ruling_of line_of body_of trimmed untailed without_CR leading ending up_to before
past_nothing file x k h = ap (ruling_of file) (span_past 10 x k h)

said_past : (file : File) (x : List ℕ) (k : ℕ) → said file x (length x + k) ≡ said file x (length x)
unfolding said
said_past file x zero = rw (add-zero (length x))
said_past file x (suc k) =
    rw (add-suc (length x) k) (ap (λ y. said_by y ++ said file x (length x + k)) (past_nothing file x (length x + k) (omega arith)) ∙ said_past file x k)

said_none : (file : File) (k : ℕ) → said file [] k ≡ []
unfolding said
said_none file k = ap (said file []) (sym (zero-add k)) ∙ said_past file [] k

module _ (file : File) (a b : List ℕ) where
  said_first : (k : ℕ) → k ≤ count 10 a → said file (a ++ b) k ≡ said file a k
  unfolding said
  said_first zero h = refl
  said_first (suc k) h = rw (span_first a b k (omega arith), said_first k (omega arith))

  said_behind : Whole a → (k : ℕ) → said file (a ++ b) (count 10 a + k) ≡ said file b k ++ said file a (count 10 a)
  unfolding said
  said_behind w zero = rw (add-zero (count 10 a)) (said_first (count 10 a) (omega arith))
  said_behind w (suc k) =
      rw (add-suc (count 10 a) k, span_behind a b w k, said_behind w k)
      (sym (append_assoc (said_by (ruling_of file (span 10 k b))) (said file b k) (said file a (count 10 a))))

-- behind its last LF a block says nothing more
said_all : (file : File) (a : List ℕ) → Whole a → (k : ℕ) → said file a (count 10 a + k) ≡ said file a (count 10 a)
said_all file a w k =
    subst (λ (x : List ℕ). said file x (count 10 a + k) ≡ said file a (count 10 a)) (append-nil a)
    (said_behind file a [] w k ∙ ap (λ l. l ++ said file a (count 10 a)) (said_none file k))

said_count : (file : File) (a : List ℕ) → Whole a → said file a (line_count a) ≡ said file a (count 10 a)
said_count file a w =
    let e : line_count a ≡ count 10 a + (line_count a - count 10 a) = omega (arith, count_bound 10 a (count 10 a) refl) in
    ap (said file a) e ∙ said_all file a w (line_count a - count 10 a)

-- what the joined bytes say is what the two say
pub said_joined : (file : File) (a b : List ℕ) → Whole a → said file (a ++ b) (line_count (a ++ b)) ≡ said file b (line_count b) ++ said file a (line_count a)
said_joined file a b w =
    let d : ℕ = length a - count 10 a in
    let e : line_count (a ++ b) ≡ count 10 a + (length b + (1 + d)) = omega (arith, length-append a b, count_bound 10 a (count 10 a) refl) in
    ap (said file (a ++ b)) e ∙ said_behind file a b w (length b + (1 + d))
    ∙ ap (λ l. l ++ said file a (count 10 a)) (said_past file b (1 + d) ∙ sym (said_past file b 1))
    ∙ ap (λ l. said file b (line_count b) ++ l) (sym (said_count file a w))

-- # Verdicts

-- the same refusal n lines further on
abbrev pub raised : ℕ → Verdict → Verdict
raised n (Ok _) = Ok tt
raised n (Err x) = Err (refusal x.number x.side (n + x.index))

over_split : (judge : ℕ → Verdict) (n m i : ℕ) → over judge i (n + m) ≡ over judge i n ⊳ over judge (i + n) m
unfolding over
over_split judge zero m i = rw (zero-add m, add-zero i)
over_split judge (suc n) m i =
    let e : suc n + m ≡ suc (n + m) = omega arith in
    let f : i + 1 + n ≡ i + suc n = omega arith in
    rw e (go (judge i) (over_split judge n m (i + 1) ∙ ap (λ j. over judge (i + 1) n ⊳ over judge j m) f))
  where
    go : (v : Verdict) → over judge (i + 1) (n + m) ≡ over judge (i + 1) n ⊳ over judge (i + suc n) m → v ⊳ over judge (i + 1) (n + m) ≡ (v ⊳ over judge (i + 1) n) ⊳ over judge (i + suc n) m
    go (Ok _) e = e
    go (Err x) e = refl

over_raised : (f g : ℕ → Verdict) (n : ℕ) → ((k : ℕ) → f (n + k) ≡ raised n (g k)) → (m i : ℕ) → over f (n + i) m ≡ raised n (over g i m)
unfolding over
over_raised f g n e zero i = refl
over_raised f g n e (suc m) i =
    let h : n + i + 1 ≡ n + (i + 1) = omega arith in
    rw (h, e i, over_raised f g n e m (i + 1)) (go (g i))
  where
    go : (v : Verdict) → raised n v ⊳ raised n (over g (i + 1) m) ≡ raised n (v ⊳ over g (i + 1) m)
    go (Ok _) = refl
    go (Err x) = refl

-- of ranges that the same ranges meet, and as many, it says the same
module _ (xs ys : List Held) (cells n k : ℕ) (s : (f l : ℕ) → met f l xs ≡ met f l ys) (e : length xs ≡ length ys) where
  judge_raised : (x : Ruling) → judge_ruling x xs cells (n + k + 1) ≡ raised n (judge_ruling x ys cells (k + 1))
  judge_raised Ruling.Nothing = refl
  judge_raised (Ruling.Refused refused) = ap (λ i. Err (refusal refused Neither i)) (add_assoc n k 1)
  judge_raised (Ruling.Range first last code) = rw (s first last, e) (go (met first last ys) (leb cells (length ys)))
    where
      go : (a b : Bool) → refuse a 13 Neither (n + k + 1) ⊳ refuse b 14 Neither (n + k + 1) ≡ raised n (refuse a 13 Neither (k + 1) ⊳ refuse b 14 Neither (k + 1))
      go true b = ap (λ i. Err (refusal 13 Neither i)) (add_assoc n k 1)
      go false true = ap (λ i. Err (refusal 14 Neither i)) (add_assoc n k 1)
      go false false = refl

-- a line past the bytes
past_accepted : (file : File) (r : Ranges) (x : List ℕ) (k : ℕ) → length x ≤ k → judge_line file r x k ≡ Ok tt
unfolding judge_line
past_accepted file r x k h = rw (past_nothing file x k h)

-- of two lists stored one after the other, the second stands
in_again : (r : Ranges) (hs ks : List Held) → length hs ≤ length ks → stored_in (stored_in r hs) ks ≡ stored_in r ks
in_again r hs ks h =
    λ i. ranges (stored_again the_first hs ks r.firsts h i) (stored_again the_last hs ks r.lasts h i) (stored_again the_code hs ks r.codes h i) (length ks)

module _ (file : File) (r : Ranges) (a b : List ℕ) (w : Whole a) where
  judge_first : (k : ℕ) → k < count 10 a → judge_line file r (a ++ b) k ≡ judge_line file r a k
  unfolding judge_line
  judge_first k h = rw (span_first a b k h, said_first file a b k (omega arith))

  behind_accepted : (k : ℕ) → judge_line file r a (count 10 a + k) ≡ Ok tt
  unfolding judge_line
  behind_accepted k =
      let e : ruling_of file (span 10 (count 10 a + k) a) ≡ Ruling.Nothing =
      subst (λ (x : List ℕ). ruling_of file (span 10 (count 10 a + k) x) ≡ Ruling.Nothing) (append-nil a) (ap (ruling_of file) (span_behind a [] w k) ∙ past_nothing file [] k (omega arith)) in
      rw e

  refused_within : (k : ℕ) (x : Refusal) → judge_line file r a k ≡ Err x → k < count 10 a
  refused_within k x e =
      by_test (ltb k (count 10 a)) (λ t. ltb-true k (count 10 a) t)
      (λ t.
      let h : count 10 a ≤ k = ltb-false k (count 10 a) t in
      let f : count 10 a + (k - count 10 a) ≡ k = omega arith in
      never (sym e ∙ ap (judge_line file r a) (sym f) ∙ behind_accepted (k - count 10 a)))

  module _ (short : length (a ++ b) ≤ 65536) where
    joined_cause : (x : Refusal) → Cause file r a x → Cause file r (a ++ b) x
    joined_cause x (inl (h, e)) = absurd (omega (arith, length-append a b))
    joined_cause x (inr (inl (s, h, e))) = inr (inl (short, h, e))
    joined_cause x (inr (inr (s, h, k, f))) =
        let l : k < count 10 a = refused_within k x f.refused in
        inr (inr (
          short,
          h,
          k,
          record {
            within = omega (arith, f.within, length-append a b);
            refused = judge_first k l ∙ f.refused;
            before = λ j i. judge_first j (omega arith) ∙ f.before j i;
          },
        ))

    -- where the first block is refused, both together are, with the same refusal, and nothing changes
    pub blocks_refused : (x : Refusal) → read_verdict file r a ≡ Err x → (read_verdict file r (a ++ b) ≡ Err x) × (read_ranges file r (a ++ b) ≡ r)
    blocks_refused x e =
        let f : read_verdict file r (a ++ b) ≡ Err x = read_refused_only file r (a ++ b) x (joined_cause x (read_refused_first file r a x e)) in
        (f, refused_keeps file r (a ++ b) x f)

  -- where it is accepted, the lines of the second are judged over what the first has left
  module _ (accepted : read_verdict file r a ≡ Ok tt) where
    passed : Passed file r a
    passed = accepted_passed file r a accepted

    same_met : (k f l : ℕ) → met f l (said file (a ++ b) (count 10 a + k) ++ held_of r) ≡ met f l (said file b k ++ held_now file r a)
    same_met k f l =
        ap (λ t. met f l (t ++ held_of r)) (said_behind file a b w k)
        ∙ ap (met f l) (append_assoc (said file b k) (said file a (count 10 a)) (held_of r))
        ∙ met_append f l (said file b k) (said file a (count 10 a) ++ held_of r)
        ∙ ap (λ t. met f l (said file b k) || t) (sym (met_put f l (held_of r) (said file a (count 10 a))))
        ∙ sym (met_append f l (said file b k) (put_all (held_of r) (said file a (count 10 a))))
        ∙ ap (λ t. met f l (said file b k ++ put_all (held_of r) t)) (sym (said_count file a w))

    same_length : (k : ℕ) → length (said file (a ++ b) (count 10 a + k) ++ held_of r) ≡ length (said file b k ++ held_now file r a)
    same_length k =
        omega (
          arith,
          length-append (said file (a ++ b) (count 10 a + k)) (held_of r),
          ap length (said_behind file a b w k),
          length-append (said file b k) (said file a (count 10 a)),
          length-append (said file b k) (held_now file r a),
          put_all_length (held_of r) (said file a (line_count a)),
          ap length (said_count file a w),
        )

    judge_behind : (k : ℕ) → judge_line file r (a ++ b) (count 10 a + k) ≡ raised (count 10 a) (judge_line file (read_ranges file r a) b k)
    unfolding judge_line
    judge_behind k =
        rw (span_behind a b w k, room_after file r a accepted, held_after file r a accepted)
        (judge_raised (said file (a ++ b) (count 10 a + k) ++ held_of r) (said file b k ++ held_now file r a) (room r) (count 10 a) k (same_met k) (same_length k) (ruling_of file (span 10 k b)))

    lines_joined : over (judge_line file r (a ++ b)) 0 (line_count (a ++ b)) ≡ raised (count 10 a) (over (judge_line file (read_ranges file r a) b) 0 (line_count b))
    lines_joined =
        let both : ℕ → Verdict = judge_line file r (a ++ b) in
        let next : ℕ → Verdict = judge_line file (read_ranges file r a) b in
        let n : ℕ = count 10 a in
        let d : ℕ = length a - n in
        let most : n ≤ length a = count_bound 10 a n refl in
        let e : line_count (a ++ b) ≡ n + (line_count b + d) = omega (arith, length-append a b) in
        let z : 0 + n ≡ n + 0 = omega arith in
        ap (over both 0) e ∙ over_split both n (line_count b + d) 0
        ∙ ap (λ v. v ⊳ over both (0 + n) (line_count b + d)) (each_over both n 0 (λ k i h. judge_first k (omega arith) ∙ passed.lines k (omega arith)))
        ∙ ap (λ i. over both i (line_count b + d)) z
        ∙ over_raised both next n judge_behind (line_count b + d) 0
        ∙ ap (raised n)
        (over_split next (line_count b) d 0
        ∙ ap (λ v. over next 0 (line_count b) ⊳ v) (each_over next d (0 + line_count b) (λ k i h. past_accepted file (read_ranges file r a) b k (omega arith)))
        ∙ alone (over next 0 (line_count b)))

    module _ (short : length (a ++ b) ≤ 65536) where
      -- the verdict on both is the verdict on the second over what the first has left, its line number counted on
      pub blocks_verdict : read_verdict file r (a ++ b) ≡ raised (count 10 a) (read_verdict file (read_ranges file r a) b)
      unfolding read_verdict
      blocks_verdict =
          rw (
            le-ltb 65536 (length (a ++ b)) short,
            le-ltb 65536 (length b) (omega (arith, length-append a b)),
            le-ltb (room r) r.held passed.cells,
            le-ltb (room (read_ranges file r a)) (read_ranges file r a).held (held_fits file r a accepted),
          )
          lines_joined

      -- what refuses the second is a line, so that its number is not 0
      pub blocks_number : (x : Refusal) → read_verdict file (read_ranges file r a) b ≡ Err x → 0 < x.index
      blocks_number x e = go (read_refused_first file (read_ranges file r a) b x e)
        where
          go : Cause file (read_ranges file r a) b x → 0 < x.index
          go (inl (h, q)) = absurd (omega (arith, length-append a b))
          go (inr (inl (s, h, q))) = absurd (omega (arith, held_fits file r a accepted))
          go (inr (inr (s, h, k, f))) = omega (arith, line_number file (read_ranges file r a) b k x f.refused)

      -- where the second is refused, the two at once change nothing, while one after the other the first has been read
      pub blocks_late : (x : Refusal) → read_verdict file (read_ranges file r a) b ≡ Err x → read_ranges file r (a ++ b) ≡ r
      blocks_late x e = refused_keeps file r (a ++ b) _ (blocks_verdict ∙ ap (raised (count 10 a)) e)

      -- "reading two blocks one after the other is reading them at once where no line is cut": where both are accepted
      pub blocks_ranges : read_verdict file (read_ranges file r a) b ≡ Ok tt → read_ranges file r (a ++ b) ≡ read_ranges file (read_ranges file r a) b
      blocks_ranges e =
          let more : length (held_now file r a) ≤ length (held_now file (read_ranges file r a) b) =
          omega (arith, put_all_length (held_of (read_ranges file r a)) (said file b (line_count b)), ap length (held_after file r a accepted)) in
          read_stored file r (a ++ b) (blocks_verdict ∙ ap (raised (count 10 a)) e)
          ∙ ap (stored_in r)
          (ap (put_all (held_of r)) (said_joined file a b w)
          ∙ sym (put_all_append (held_of r) (said file a (line_count a)) (said file b (line_count b)))
          ∙ ap (λ hs. put_all hs (said file b (line_count b))) (sym (held_after file r a accepted)))
          ∙ sym (ap (λ q. stored_in q (held_now file (read_ranges file r a) b)) (read_stored file r a accepted) ∙ in_again r (held_now file r a) (held_now file (read_ranges file r a) b) more)
          ∙ sym (read_stored file (read_ranges file r a) b e)

-- what is accepted at once is accepted one block after the other
pub blocks_accepted : (file : File) (r : Ranges) (a b : List ℕ) → Whole a → read_verdict file r (a ++ b) ≡ Ok tt → (read_verdict file r a ≡ Ok tt) × (read_verdict file (read_ranges file r a) b ≡ Ok tt)
blocks_accepted file r a b w e = first (read_verdict file r a) refl
  where
    short : length (a ++ b) ≤ 65536
    short = (accepted_passed file r (a ++ b) e).short

    second : (v : Verdict) → raised (count 10 a) v ≡ Ok tt → v ≡ Ok tt
    second (Ok _) q = refl
    second (Err x) q = never q

    first : (v : Verdict) → read_verdict file r a ≡ v → (read_verdict file r a ≡ Ok tt) × (read_verdict file (read_ranges file r a) b ≡ Ok tt)
    first (Ok _) h = (h, second (read_verdict file (read_ranges file r a) b) (sym (blocks_verdict file r a b w h short) ∙ e))
    first (Err x) h = never (sym (blocks_refused file r a b w short x h).0 ∙ e)
