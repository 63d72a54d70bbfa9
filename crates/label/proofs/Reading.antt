-- A text of bytes read character by character: what is read so far, and what is left. Assumes nothing.
use Rattle.std.specs.Prelude.{Some, None, Ok, Err}
use Prim.Native.Nat.{ℕ, zero, suc, ◌+◌, ◌-◌, ◌≤◌, ◌<◌, min}
use mathlib.Core.Path.{◌≡◌, refl, sym, ◌∙◌, ap}
use mathlib.Core.Bool.{true, false, cond}
use mathlib.Core.List.{List, [], ◌∷◌}
use native.Mathlib.Numerals.{add-one}
use native.Mathlib.Omega.{arith}
use lib.Dec.{ltb}
use lib.ListN.{length, get_or, take, drop, set, length-drop, length-set, drop_of_length-le}
use lib.Seq.{take_all, take-suc, take-suc-set, set_out, get_or-drop, drop-drop}
use borrow.Author.Tests.{ltb-true, ltb-false, lt-ltb, le-ltb}
use Rattle.basics.proofs.Tests.{by_test}
use Rattle.label.specs.declared.texts.Unread.TheVariants.{NotUtf8}
use Rattle.label.specs.Utf8.{Decoded, decode_of, scalars_from, stop_from, read_of}
use Rattle.label.proofs.Decoding.{read_inside}

-- bytes that are passed over
skip_scalars : (k : ℕ) (s : List ℕ) → scalars_from k s ≡ scalars_from 0 (drop k s)
unfolding scalars_from
skip_scalars zero s = refl
skip_scalars (suc k) [] = refl
skip_scalars (suc k) (b ∷ s) = skip_scalars k s

skip_stop : (k : ℕ) (s : List ℕ) → k ≤ length s → stop_from k s ≡ k + stop_from 0 (drop k s)
unfolding stop_from
skip_stop zero s h = omega arith
skip_stop (suc k) [] h = absurd (omega arith)
skip_stop (suc k) (b ∷ s) h = let e : stop_from k s ≡ k + stop_from 0 (drop k s) = skip_stop k s (omega arith) in omega arith

-- the next character
next_scalar : (s : List ℕ) (x n : ℕ) → 0 < length s → 0 < n → decode_of s ≡ Some (x, n) → scalars_from 0 s ≡ x ∷ scalars_from 0 (drop n s)
unfolding scalars_from
next_scalar [] x n h k e = absurd (omega arith)
next_scalar (b ∷ s) x zero h k e = absurd (omega arith)
next_scalar (b ∷ s) x (suc n) h k e = let f : suc n - 1 ≡ n = omega arith in rw (e, f) (ap (λ r. x ∷ r) (skip_scalars n s))

next_stop : (s : List ℕ) (x n : ℕ) → 0 < n → n ≤ length s → decode_of s ≡ Some (x, n) → stop_from 0 s ≡ n + stop_from 0 (drop n s)
unfolding stop_from
next_stop [] x n h k e = absurd (omega arith)
next_stop (b ∷ s) x zero h k e = absurd (omega arith)
next_stop (b ∷ s) x (suc n) h k e =
    let f : suc n - 1 ≡ n = omega arith in
    let g : stop_from n s ≡ n + stop_from 0 (drop n s) = skip_stop n s (omega arith) in
    rw (e, f) (omega arith)

-- no next character
no_scalar : (s : List ℕ) → 0 < length s → decode_of s ≡ None → scalars_from 0 s ≡ []
unfolding scalars_from
no_scalar [] h e = absurd (omega arith)
no_scalar (b ∷ s) h e = rw e

no_stop : (s : List ℕ) → 0 < length s → decode_of s ≡ None → stop_from 0 s ≡ 0
unfolding stop_from
no_stop [] h e = absurd (omega arith)
no_stop (b ∷ s) h e = rw e

drop_next : (l r : List ℕ) (i x : ℕ) → drop i l ≡ x ∷ r → drop (i + 1) l ≡ r
drop_next l r i x e = sym (drop-drop 1 i l) ∙ ap (drop 1) e

drop_first : (l r : List ℕ) (i x : ℕ) → drop i l ≡ x ∷ r → get_or l i 0 ≡ x
drop_first l r i x e =
    let f : i + 0 ≡ i = omega arith in
    let g : get_or (drop i l) 0 0 ≡ get_or l (i + 0) 0 = get_or-drop i l 0 0 in
    sym (rw f at g) ∙ ap (λ s. get_or s 0 0) e

-- all = the scalars of all bytes, left = those from a byte on, n = how many cells of the column are written
pub record Read (all left out : List ℕ) (n : ℕ) : Type 0 where
  pub some : length left ≤ length all
  pub rest : drop (length all - length left) all ≡ left
  pub count : n ≡ min (length all - length left) (length out)
  pub cells : take n out ≡ take n all

pub read_start : (all out : List ℕ) → Read all all out 0
read_start all out =
    let f : length all - length all ≡ 0 = omega arith in
    record { some = omega arith; rest = rw f; count = omega arith; cells = refl }

stored : (out all : List ℕ) (n x : ℕ) → n < length out → n < length all → get_or all n 0 ≡ x → take n out ≡ take n all → take (n + 1) (set out n x) ≡ take (n + 1) all
stored out all n x h k e c = rw (add-one n, take-suc-set out n x h, take-suc all n 0 k, e, c)

module _ (all left out : List ℕ) (n x : ℕ) (r : Read all (x ∷ left) out n) where
  one_on : length all - length left ≡ length all - length (x ∷ left) + 1
  one_on = let h : length (x ∷ left) ≤ length all = r.some in omega arith

  pub read_stored : n < length out → Read all left (set out n x) (n + 1)
  read_stored h =
      let k : length (x ∷ left) ≤ length all = r.some in
      let i : n ≡ length all - length (x ∷ left) = omega (arith, r.count) in
      let s : length (set out n x) ≡ length out = length-set out n x in
      let e : get_or all n 0 ≡ x = rw i (drop_first all left (length all - length (x ∷ left)) x r.rest) in
      record {
        some = omega arith;
        rest = rw one_on (drop_next all left (length all - length (x ∷ left)) x r.rest);
        count = omega (arith, one_on);
        cells = stored out all n x h (omega arith) e r.cells;
      }

  pub read_dropped : length out ≤ n → Read all left out n
  read_dropped h =
      record {
        some = omega (arith, r.some);
        rest = rw one_on (drop_next all left (length all - length (x ∷ left)) x r.rest);
        count = omega (arith, one_on, r.count);
        cells = r.cells;
      }

-- a scalar was stored, or there was no room: m and out' are what is then
pub read_next : (all left out : List ℕ) (n x : ℕ) → Read all (x ∷ left) out n → (m : ℕ) (out' : List ℕ) → m ≡ cond (ltb n (length out)) (n + 1) n
    → out' ≡ set out n x → Read all left out' m
read_next all left out n x r m out' em eo =
    by_test (ltb n (length out))
    (λ t. rw (em, eo, t) (read_stored all left out n x r (ltb-true n (length out) t)))
    (λ t. rw (em, eo, t, set_out out n x (ltb-false n (length out) t)) (read_dropped all left out n x r (ltb-false n (length out) t)))

-- every scalar that there is room for
abbrev pub Written : List ℕ → List ℕ → ℕ → Type 0
Written all out room = take (min (length all) room) out ≡ take (min (length all) room) all

pub read_end : (all left out : List ℕ) (n room : ℕ) → Read all left out n → length out ≡ room → left ≡ [] → (n ≡ min (length all) room) × Written all out room
read_end all left out n room r e d =
    let f : length left ≡ 0 = ap length d in
    let c : n ≡ min (length all) room = omega (arith, r.count) in
    (c, rw (← c) r.cells)

-- the loop: `at` bytes are read, and n cells are written
pub record Reading (bytes out₀ out : List ℕ) (at n : ℕ) : Type 0 where
  pub inside : at ≤ length bytes
  pub stops : at + stop_from 0 (drop at bytes) ≡ stop_from 0 bytes
  pub same : length out ≡ length out₀
  pub read : Read (scalars_from 0 bytes) (scalars_from 0 (drop at bytes)) out n

pub reading_start : (bytes out : List ℕ) → Reading bytes out out 0 0
reading_start bytes out = record { inside = omega arith; stops = omega arith; same = refl; read = read_start (scalars_from 0 bytes) out }

module _ (bytes out₀ out : List ℕ) (at n : ℕ) (g : Reading bytes out₀ out at n) where
  all_written : scalars_from 0 (drop at bytes) ≡ [] → (n ≡ min (length (scalars_from 0 bytes)) (length out₀)) × Written (scalars_from 0 bytes) out (length out₀)
  all_written e = read_end (scalars_from 0 bytes) (scalars_from 0 (drop at bytes)) out n (length out₀) g.read g.same e

  pub reading_end : length bytes ≤ at → (Ok n ≡ read_of bytes (length out₀)) × Written (scalars_from 0 bytes) out (length out₀)
  unfolding read_of scalars_from stop_from
  reading_end h =
      let d : drop at bytes ≡ [] = drop_of_length-le bytes h in
      let w : (n ≡ min (length (scalars_from 0 bytes)) (length out₀)) × Written (scalars_from 0 bytes) out (length out₀) = all_written (rw d) in
      let t : stop_from 0 (drop at bytes) ≡ 0 = rw d in
      let l : ltb (stop_from 0 bytes) (length bytes) ≡ false = le-ltb (stop_from 0 bytes) (length bytes) (omega (arith, g.stops)) in
      (rw (l, w.0), w.1)

  -- r is what the decoder said of the bytes from `at` on
  module _ (h : at < length bytes) (r : Decoded) (e : r ≡ decode_of (take (length bytes - at) (drop at bytes))) where
    told : r ≡ decode_of (drop at bytes)
    told =
        let l : length (drop at bytes) ≡ length bytes - at = length-drop at bytes in
        let k : take (length bytes - at) (drop at bytes) ≡ drop at bytes = take_all (length bytes - at) (drop at bytes) (omega arith) in
        rw k at e

    left_some : 0 < length (drop at bytes)
    left_some = let l : length (drop at bytes) ≡ length bytes - at = length-drop at bytes in omega arith

    pub reading_bad : r ≡ None → (Err (NotUtf8 at) ≡ read_of bytes (length out₀)) × Written (scalars_from 0 bytes) out (length out₀)
    unfolding read_of
    reading_bad f =
        let b : decode_of (drop at bytes) ≡ None = sym told ∙ f in
        let t : stop_from 0 (drop at bytes) ≡ 0 = no_stop (drop at bytes) left_some b in
        let q : stop_from 0 bytes ≡ at = omega (arith, g.stops) in
        let l : ltb at (length bytes) ≡ true = lt-ltb at (length bytes) h in
        (rw (q, l), (all_written (no_scalar (drop at bytes) left_some b)).1)

    -- m and out' are what was stored
    pub reading_more : (x k : ℕ) → r ≡ Some (x, k) → (m : ℕ) (out' : List ℕ) → m ≡ cond (ltb n (length out)) (n + 1) n → out' ≡ set out n x
        → Reading bytes out₀ out' (at + k) m
    reading_more x k f m out' em eo =
        let i : (at < at + k) × (at + k ≤ length bytes) = read_inside bytes at x k r h e f in
        let l : length (drop at bytes) ≡ length bytes - at = length-drop at bytes in
        let b : decode_of (drop at bytes) ≡ Some (x, k) = sym told ∙ f in
        let d : drop k (drop at bytes) ≡ drop (at + k) bytes = drop-drop k at bytes in
        let s : stop_from 0 (drop at bytes) ≡ k + stop_from 0 (drop k (drop at bytes)) = next_stop (drop at bytes) x k (omega arith) (omega arith) b in
        let s' : stop_from 0 (drop at bytes) ≡ k + stop_from 0 (drop (at + k) bytes) = rw d at s in
        let c : scalars_from 0 (drop at bytes) ≡ x ∷ scalars_from 0 (drop k (drop at bytes)) = next_scalar (drop at bytes) x k left_some (omega arith) b in
        let c' : scalars_from 0 (drop at bytes) ≡ x ∷ scalars_from 0 (drop (at + k) bytes) = rw d at c in
        let g' : Read (scalars_from 0 bytes) (x ∷ scalars_from 0 (drop (at + k) bytes)) out n = rw c' at g.read in
        let z : length out' ≡ length out = ap length eo ∙ length-set out n x in
        record {
          inside = i.1;
          stops = omega (arith, g.stops);
          same = z ∙ g.same;
          read = read_next (scalars_from 0 bytes) (scalars_from 0 (drop (at + k) bytes)) out n x g' m out' em eo;
        }
