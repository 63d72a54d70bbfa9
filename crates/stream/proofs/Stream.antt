-- The stream as it is gathered: what is in the array and what is left make the whole.
-- Assumes nothing.
use Prim.Native.Nat.{ℕ, zero, suc, ◌+◌, ◌-◌, ◌<◌, ◌≤◌, min}
use mathlib.Core.Path.{◌≡◌, refl, sym, ◌∙◌, ap, subst}
use mathlib.Core.Bool.{Bool, true, false, cond, ◌&&◌}
use Rattle.basics.proofs.Tests.{by_test}
use Rattle.basics.specs.Sets.{member}
use Rattle.classes.specs.Scalar.{khmer_signs}
use Rattle.classes.specs.declared.Mode.{Mode}
use mathlib.Core.List.{List, [], ◌∷◌, ◌++◌, append_assoc, append-nil}
use native.Mathlib.Omega.{arith}
use native.Mathlib.Nat.{sub-zero, le_of_eq}
use native.Mathlib.Numerals.{add-one}
use lib.Dec.{eqb, ltb}
use lib.ListN.{length, take, drop, set, get_or, length-append, length-set, drop_of_length-le}
use lib.Seq.{take-suc-set, drop-set-lt, drop-drop, length-take-le, take_all, take_at, drop-cons}
use borrow.Author.Tests.{lt-ltb, le-ltb, eqb-true, eqb-false, ltb-true, ltb-false}
use Rattle.records.specs.Text.{Parts, cell}
use Rattle.records.proofs.Passing.{not_so}
use Rattle.stream.specs.Stream.{Source, Splits, own_token, itself, stands_alone, split, gather, gives_none, fetch_in, piece_count, count_from, Fills}
use Rattle.stream.specs.Inner.{gives_itself, rest}
use Rattle.stream.proofs.Piece.{length_split, split_itself}

-- the cells from j on hold what they held when they were lent
unfoldable pub Kept : ℕ → List ℕ → List ℕ → Type 0
Kept j out lent = drop j out ≡ drop j lent

pub kept_all : (lent : List ℕ) → Kept 0 lent lent
unfolding Kept
kept_all lent = refl

-- where cell j is written
pub kept_more : (out lent : List ℕ) (j x : ℕ) → Kept j out lent → Kept (j + 1) (set out j x) lent
unfolding Kept
kept_more out lent j x e = drop-set-lt (j + 1) out j x (omega arith) ∙ sym (drop-drop 1 j out) ∙ ap (drop 1) e ∙ drop-drop 1 j lent

pub kept_is : (out lent : List ℕ) (j : ℕ) → Kept j out lent → drop j out ≡ drop j lent
unfolding Kept
kept_is out lent j e = e

-- what is gathered and what is left, with j in the array: at the end of the records, and where the array is full
module _ (whole left out : List ℕ) (j room : ℕ) (q : length out ≡ room) (e : take j out ++ left ≡ whole) (h : j ≤ length out) where
  pub all_gathered : left ≡ [] → (j ≡ min (length whole) room) × (take j out ≡ take j whole)
  all_gathered o =
      let z : take j out ≡ whole = sym (append-nil (take j out)) ∙ ap (λ r. take j out ++ r) (sym o) ∙ e in
      let n : length whole ≡ j = ap length (sym z) ∙ length-take-le j out h in
      (omega arith, z ∙ sym (take_all j whole (omega arith)))

  pub no_more_room : j ≡ length out → (j ≡ min (length whole) room) × (take j out ≡ take j whole)
  no_more_room f =
      let n : length (take j out) ≡ j = length-take-le j out h in
      let m = ap length e in
      (omega (arith, simp length-append at m, n), sym (take_at (take j out) left j n) ∙ ap (take j) e)

module _ (gives : ℕ → List ℕ) (n : ℕ) where
  rest_gather : (m i : ℕ) → n - i ≡ m → gather gives i m ≡ rest gives n i 0
  unfolding gather rest
  rest_gather zero i e = rw (le-ltb i n (omega arith))
  rest_gather (suc m) i e =
      let f : n - (i + 1) ≡ m = omega arith in
      rw (lt-ltb i n (omega arith), f)

  pub rest_all : gather gives 0 n ≡ rest gives n 0 0
  rest_all = rest_gather n 0 (sub-zero n)

  pub rest_over : (i k : ℕ) → n ≤ i → rest gives n i k ≡ []
  unfolding rest
  rest_over i k h = rw (le-ltb i n h)

  -- a record passed whole
  pub rest_next : (i k : ℕ) → i < n → length (gives i) ≤ k → rest gives n i k ≡ rest gives n (i + 1) 0
  unfolding rest
  rest_next i k h l = rw (lt-ltb i n h, drop_of_length-le (gives i) l) (rest_gather (n - (i + 1)) (i + 1) refl)

  -- a token taken
  pub rest_here : (i k : ℕ) → i < n → k < length (gives i) → rest gives n i k ≡ get_or (gives i) k 0 ∷ rest gives n i (k + 1)
  unfolding rest
  rest_here i k h l = rw (lt-ltb i n h, drop-cons (gives i) k 0 l, add-one k)

  -- the array and the rest, one token on: a record that is one token, a token of a record
  pub whole_more : (out : List ℕ) (i k j token : ℕ) → take j out ++ rest gives n i k ≡ gather gives 0 n → i < n → j < length out → k ≡ 0 → gives i ≡ token ∷ [] → take (j + 1) (set out j token) ++ rest gives n (i + 1) 0 ≡ gather gives 0 n
  whole_more out i k j token e h l z q =
      let m : length (gives i) ≡ 1 = ap length q in
      let a : rest gives n i 0 ≡ token ∷ rest gives n (i + 1) 0 = rest_here i 0 h (omega arith) ∙ ap (λ t. t ∷ rest gives n i 1) (ap (λ l. get_or l 0 0) q) ∙ ap (λ r. token ∷ r) (rest_next i 1 h (omega arith)) in
      rw (add-one j, take-suc-set out j token l, append_assoc) (ap (λ r. take j out ++ r) (sym a ∙ ap (rest gives n i) (sym z)) ∙ e)

  pub part_more : (out : List ℕ) (i k j token : ℕ) → take j out ++ rest gives n i k ≡ gather gives 0 n → i < n → j < length out → k < length (gives i) → token ≡ get_or (gives i) k 0 → take (j + 1) (set out j token) ++ rest gives n i (k + 1) ≡ gather gives 0 n
  part_more out i k j token e h l m q =
      rw (add-one j, take-suc-set out j token l, append_assoc) (ap (λ r. take j out ++ r) (sym (rest_here i k h m ∙ ap (λ t. t ∷ rest gives n i (k + 1)) (sym q))) ∙ e)

-- one step of the fetch: a record that is passed over, one that gives a token, the end
module _ (mode : Mode) (n : ℕ) (decomposes counts : List ℕ) (i x y : ℕ) (b : Bool) (ex : x ≡ cell decomposes i) (ey : y ≡ cell counts i) (eb : b ≡ gives_none mode x y) (h : i < n) where
  step : fetch_in mode (n - i) decomposes counts i ≡ cond b (fetch_in mode (n - (i + 1)) decomposes counts (i + 1)) i
  unfolding fetch_in
  step = let f : n - i ≡ suc (n - (i + 1)) = omega arith in rw (f, ← ex, ← ey, ← eb)

  pub fetch_next : (r : ℕ) → b ≡ true → r ≡ fetch_in mode (n - (i + 1)) decomposes counts (i + 1) → r ≡ fetch_in mode (n - i) decomposes counts i
  fetch_next r t e = e ∙ sym (step ∙ ap (λ b. cond b (fetch_in mode (n - (i + 1)) decomposes counts (i + 1)) i) t)

  pub fetch_here : b ≡ false → i ≡ fetch_in mode (n - i) decomposes counts i
  fetch_here t = sym (step ∙ ap (λ b. cond b (fetch_in mode (n - (i + 1)) decomposes counts (i + 1)) i) t)

pub fetch_over : (mode : Mode) (n : ℕ) (decomposes counts : List ℕ) (i : ℕ) → n ≤ i → i ≡ fetch_in mode (n - i) decomposes counts i
unfolding fetch_in
fetch_over mode n decomposes counts i h = let f : n - i ≡ 0 = omega arith in rw f

-- the records that the fetch passes over leave the rest as it is, and it stops at one that gives a token
module _ (gives : ℕ → List ℕ) (mode : Mode) (n : ℕ) (decomposes counts : List ℕ) (none : (j : ℕ) → gives_none mode (cell decomposes j) (cell counts j) ≡ true → length (gives j) ≤ 0) where
  rest_from : (m i : ℕ) → n - i ≡ m → rest gives n i 0 ≡ rest gives n (fetch_in mode m decomposes counts i) 0
  unfolding fetch_in
  rest_from zero i e = refl
  rest_from (suc m) i e =
      by_test (gives_none mode (cell decomposes i) (cell counts i))
      (λ h. rw h (rest_next gives n i 0 (omega arith) (none i h) ∙ rest_from m (i + 1) (omega arith)))
      (λ h. rw h refl)

  pub rest_fetched : (i j : ℕ) → j ≡ fetch_in mode (n - i) decomposes counts i → rest gives n i 0 ≡ rest gives n j 0
  rest_fetched i j e = rest_from (n - i) i refl ∙ ap (λ k. rest gives n k 0) (sym e)

fetch_gives : (mode : Mode) (n : ℕ) (decomposes counts : List ℕ) (m i : ℕ) → n - i ≡ m → fetch_in mode m decomposes counts i < n → gives_none mode (cell decomposes (fetch_in mode m decomposes counts i)) (cell counts (fetch_in mode m decomposes counts i)) ≡ false
unfolding fetch_in
fetch_gives mode n decomposes counts zero i e h = absurd (omega arith)
fetch_gives mode n decomposes counts (suc m) i e h =
    by_test (gives_none mode (cell decomposes i) (cell counts i))
    (λ z. rw z (fetch_gives mode n decomposes counts m (i + 1) (omega arith) (rw z at h)))
    (λ z. rw (z, z))

pub none_counted : (mode : Mode) (khmer : Bool) (decompose scalar count : ℕ) → gives_none mode decompose count ≡ true → piece_count mode khmer decompose scalar count ≤ 0
unfolding piece_count
none_counted mode khmer decompose scalar count e = go (eqb decompose 1) (stands_alone mode count) e
  where
    go : (a b : Bool) → cond a (cond b false (eqb count 0)) false ≡ true → cond a (cond b 1 count) (cond (khmer && member khmer_signs scalar) 2 1) ≤ 0
    go true true e = not_so e
    go true false e = le_of_eq (eqb-true count 0 e)
    go false b e = not_so e

pub some_counted : (mode : Mode) (khmer : Bool) (decompose scalar count : ℕ) → gives_none mode decompose count ≡ false → 0 < piece_count mode khmer decompose scalar count
unfolding piece_count
some_counted mode khmer decompose scalar count e = go (eqb decompose 1) (stands_alone mode count) (khmer && member khmer_signs scalar) e
  where
    go : (a b c : Bool) → cond a (cond b false (eqb count 0)) false ≡ false → 0 < cond a (cond b 1 count) (cond c 2 1)
    go true true c e = omega arith
    go true false c e = omega (arith, eqb-false count 0 e)
    go false b true e = omega arith
    go false b false e = omega arith

-- the tokens of split records, gathered: filled of them are in the array, the next is token k of record i
module _ (mode : Mode) (khmer : Bool) (s : Source) (d : Splits) (p : Parts) (n : ℕ) where
  abbrev gives : ℕ → List ℕ
  gives = split mode khmer s d p

  abbrev pieces : ℕ → ℕ
  pieces i = piece_count mode khmer (cell d.decomposes i) (cell s.scalars i) (cell d.counts i)

  none_given : (j : ℕ) → gives_none mode (cell d.decomposes j) (cell d.counts j) ≡ true → length (gives j) ≤ 0
  none_given j e = omega (arith, length_split mode khmer s d p j, none_counted mode khmer (cell d.decomposes j) (cell s.scalars j) (cell d.counts j) e)

  pub record Collecting (lent out : List ℕ) (filled i k : ℕ) : Type 0 where
    pub kept : Kept filled out lent
    pub same : length out ≡ length lent
    pub room : filled ≤ length out
    pub here : i < n → k < pieces i
    pub joined : take filled out ++ rest gives n i k ≡ gather gives 0 n

  -- on to the next record that gives a token
  fetched : (lent out : List ℕ) (filled i j k : ℕ) → Kept filled out lent → length out ≡ length lent → filled ≤ length out → j ≡ fetch_in mode (n - i) d.decomposes d.counts i → k ≡ 0
      → take filled out ++ rest gives n i 0 ≡ gather gives 0 n → Collecting lent out filled j k
  fetched lent out filled i j k kept same room e z joined = record {
    kept = kept;
    same = same;
    room = room;
    here = λ h. omega (
      arith,
      z,
      some_counted mode khmer (cell d.decomposes j) (cell s.scalars j) (cell d.counts j)
          (subst (λ j. gives_none mode (cell d.decomposes j) (cell d.counts j) ≡ false) (sym e) (fetch_gives mode n d.decomposes d.counts (n - i) i refl (subst (λ j. j < n) e h))),
    );
    joined = ap (λ r. take filled out ++ r) (ap (rest gives n j) z ∙ sym (rest_fetched gives mode n d.decomposes d.counts none_given i j e)) ∙ joined;
  }

  pub collect_starts : (lent : List ℕ) (i : ℕ) → i ≡ fetch_in mode (n - 0) d.decomposes d.counts 0 → Collecting lent lent 0 i 0
  collect_starts lent i e = fetched lent lent 0 0 i 0 (kept_all lent) refl (omega arith) e refl (sym (rest_all gives n))

  module _ (lent out : List ℕ) (filled i k token : ℕ) (c : Collecting lent out filled i k) (h : i < n) (l : filled < length out) where
    -- a record that is one token
    pub collect_whole : (j : ℕ) → gives i ≡ token ∷ [] → j ≡ fetch_in mode (n - (i + 1)) d.decomposes d.counts (i + 1) → Collecting lent (set out filled token) (filled + 1) j k
    collect_whole j q e =
        let z : k ≡ 0 = omega (arith, c.here h, length_split mode khmer s d p i, ap length q) in
        fetched lent (set out filled token) (filled + 1) (i + 1) j k (kept_more out lent filled token c.kept) (length-set out filled token ∙ c.same) (simp length-set (omega arith)) e z
        (whole_more gives n out i k filled token c.joined h l z q)

    module _ (q : k < length (gives i) → token ≡ get_or (gives i) k 0) (r : ℕ) (er : r ≡ pieces i) where
      inside : k < length (gives i)
      inside = omega (arith, c.here h, length_split mode khmer s d p i)

      one_more : take (filled + 1) (set out filled token) ++ rest gives n i (k + 1) ≡ gather gives 0 n
      one_more = part_more gives n out i k filled token c.joined h l inside (q inside)

      -- a token of a record, and not its last
      pub collect_part : (r ≤ k + 1 → ⊥) → Collecting lent (set out filled token) (filled + 1) i (k + 1)
      collect_part m = record {
        kept = kept_more out lent filled token c.kept;
        same = length-set out filled token ∙ c.same;
        room = simp length-set (omega arith);
        here = λ _. omega (arith, m);
        joined = one_more;
      }

      -- its last
      pub collect_last : (j : ℕ) → r ≤ k + 1 → j ≡ fetch_in mode (n - (i + 1)) d.decomposes d.counts (i + 1) → Collecting lent (set out filled token) (filled + 1) j 0
      collect_last j m e = fetched lent (set out filled token) (filled + 1) (i + 1) j 0 (kept_more out lent filled token c.kept) (length-set out filled token ∙ c.same) (simp length-set (omega arith)) e refl
          (ap (λ x. take (filled + 1) (set out filled token) ++ x) (sym (rest_next gives n i (k + 1) h (omega (arith, length_split mode khmer s d p i)))) ∙ one_more)

  module _ (lent out : List ℕ) (filled i k : ℕ) (c : Collecting lent out filled i k) where
    pub collect_full : length out ≤ filled → Fills (gather gives 0 n) filled lent out
    collect_full h = (no_more_room (gather gives 0 n) (rest gives n i k) out filled (length lent) c.same c.joined c.room (omega (arith, c.room)), kept_is out lent filled c.kept)

    pub collect_over : n ≤ i → Fills (gather gives 0 n) filled lent out
    collect_over h = (all_gathered (gather gives 0 n) (rest gives n i k) out filled (length lent) c.same c.joined c.room (rest_over gives n i k h), kept_is out lent filled c.kept)

-- a record that gives itself alone
pub split_whole : (mode : Mode) (khmer : Bool) (s : Source) (d : Splits) (p : Parts) (i token emoji : ℕ) (g : Bool) → g ≡ gives_itself mode khmer (cell d.decomposes i) (cell s.scalars i) (cell d.counts i) → g ≡ true → emoji ≡ cell s.emojis i → token ≡ own_token s emoji i → split mode khmer s d p i ≡ token ∷ []
unfolding itself
split_whole mode khmer s d p i token emoji g eg h e q =
    split_itself mode khmer s d p i g eg h ∙ ap (λ x. x ∷ []) (sym (q ∙ ap (λ m. own_token s m i) e))

-- the same where each record is one token
pub fill_more : (s : Source) (n : ℕ) (out : List ℕ) (i token : ℕ) → take i out ++ rest (itself s) n i 0 ≡ gather (itself s) 0 n → i < n → i < length out → token ≡ own_token s (cell s.emojis i) i → take (i + 1) (set out i token) ++ rest (itself s) n (i + 1) 0 ≡ gather (itself s) 0 n
unfolding itself
fill_more s n out i token e h l t =
    rw (add-one i, take-suc-set out i token l, append_assoc, t, ← add-one i)
    (ap (λ r. take i out ++ r) (sym (rest_here (itself s) n i 0 h (omega arith) ∙ ap (λ r. own_token s (cell s.emojis i) i ∷ r) (rest_next (itself s) n i 1 h (omega arith)))) ∙ e)

pub length_records : (s : Source) (n i : ℕ) → length (gather (itself s) i n) ≡ n
unfolding gather itself
length_records s zero i = refl
length_records s (suc n) i = ap suc (length_records s n (i + 1))

-- as many records as there are, or as there is room for
module _ (s : Source) (n : ℕ) (out lent : List ℕ) (i r : ℕ) (q : length out ≡ length lent) (e : take i out ++ rest (itself s) n i 0 ≡ gather (itself s) 0 n) where
  pub fill_done : Kept i out lent → r ≡ min n (length lent) → r ≤ i → i ≤ r → Fills (gather (itself s) 0 n) r lent out
  fill_done k er h l =
      let f : r ≡ i = omega arith in
      rw f (
        by_test (ltb i n)
            (λ b. no_more_room (gather (itself s) 0 n) (rest (itself s) n i 0) out i (length lent) q e (omega arith) (omega (arith, ltb-true i n b)))
            (λ b. all_gathered (gather (itself s) 0 n) (rest (itself s) n i 0) out i (length lent) q e (omega arith) (rest_over (itself s) n i 0 (ltb-false i n b))),
        kept_is out lent i k,
      )

-- records that give the same, gathered
pub same_gather : (f g : ℕ → List ℕ) (n i : ℕ) → ((k : ℕ) → i ≤ k → k < i + n → f k ≡ g k) → gather f i n ≡ gather g i n
unfolding gather
same_gather f g zero i h = refl
same_gather f g (suc n) i h = ap (λ l. l ++ gather f (i + 1) n) (h i (omega arith) (omega arith)) ∙ ap (λ l. g i ++ l) (same_gather f g n (i + 1) (λ k a b. h k (omega arith) (omega arith)))

-- the sum of what the records give is the stream's length
pub count_stream : (mode : Mode) (khmer : Bool) (s : Source) (d : Splits) (p : Parts) (n i : ℕ) → length (gather (split mode khmer s d p) i n) ≡ count_from mode khmer s.scalars d.decomposes d.counts i n
unfolding gather count_from
count_stream mode khmer s d p zero i = refl
count_stream mode khmer s d p (suc n) i =
    simp (length-append, length_split mode khmer s d p i, count_stream mode khmer s d p n (i + 1))

-- the sum so far, and what is left to count
module _ (mode : Mode) (khmer : Bool) (scalars decomposes counts : List ℕ) (n i sum c : ℕ) where
  pub count_more : sum + count_from mode khmer scalars decomposes counts i (n - i) ≡ count_from mode khmer scalars decomposes counts 0 n → i < n → c ≡ piece_count mode khmer (cell decomposes i) (cell scalars i) (cell counts i) → (sum + c) + count_from mode khmer scalars decomposes counts (i + 1) (n - (i + 1)) ≡ count_from mode khmer scalars decomposes counts 0 n
  unfolding count_from
  count_more e h q =
      let f : n - i ≡ suc (n - (i + 1)) = omega arith in
      let g : sum + (piece_count mode khmer (cell decomposes i) (cell scalars i) (cell counts i) + count_from mode khmer scalars decomposes counts (i + 1) (n - (i + 1))) ≡ count_from mode khmer scalars decomposes counts 0 n = rw f at e in
      omega arith

pub count_all : (mode : Mode) (khmer : Bool) (scalars decomposes counts : List ℕ) (n i sum : ℕ) → sum + count_from mode khmer scalars decomposes counts i (n - i) ≡ count_from mode khmer scalars decomposes counts 0 n → n ≤ i → sum ≡ count_from mode khmer scalars decomposes counts 0 n
unfolding count_from
count_all mode khmer scalars decomposes counts n i sum e h =
    let f : n - i ≡ 0 = omega arith in
    let g : sum + 0 ≡ count_from mode khmer scalars decomposes counts 0 n = rw f at e in
    omega arith
