-- A label of numbers read word by word. Assumes nothing.
use Rattle.std.specs.Prelude.{Option, Some, None, Ok, Err}
use Prim.Native.Nat.{ℕ, zero, suc, ◌+◌, ◌-◌, ◌≤◌, ◌<◌, min}
use mathlib.Core.Path.{◌≡◌, refl, sym, ◌∙◌, ap}
use mathlib.Core.Bool.{Bool, true, false, cond}
use mathlib.Core.List.{List, [], ◌∷◌}
use native.Mathlib.Omega.{arith}
use lib.Dec.{eqb, ltb}
use lib.ListN.{length, get_or, take, drop, set, length-drop, length-set, drop_of_length-le, get_or-eq_default}
use lib.Seq.{take_all}
use borrow.Author.Tests.{ne_eqb}
use Rattle.basics.proofs.Tests.{if_same}
use Rattle.cases.specs.Numbers.{number_of}
use Rattle.cases.specs.Spans.{before, up_to, after, next_from}
use Rattle.cases.proofs.Splits.{next_after_lem}
use Rattle.label.specs.declared.texts.Unread.TheVariants.{NotNumber}
use Rattle.label.specs.Numbers.{begins, scalar_in, numbers_from, all_numbers, counted_of}
use Rattle.label.proofs.Reading.{Read, Written, read_start, read_next, read_end}

-- what is left behind a word
left_after : (xs : List ℕ) (at next : ℕ) → next ≡ next_from 32 at xs → drop next xs ≡ after 32 (drop at xs)
left_after xs at next e = rw e (next_after_lem 32 at xs)

-- each word that was read leaves less to read
pub next_falls : (xs : List ℕ) (at next : ℕ) → at < length xs → next ≡ next_from 32 at xs → length (drop next xs) < length (drop at xs)
unfolding after
next_falls xs at next h e =
    let l : length (drop at xs) ≡ length xs - at = length-drop at xs in
    let m : length (drop next xs) ≡ length (drop at xs) - suc (before 32 (drop at xs)) = ap length (left_after xs at next e) ∙ length-drop _ (drop at xs) in
    omega arith

-- a word as the code reads it
pub short_word : (word : List ℕ) → length word < 2 → None ≡ scalar_in word
unfolding scalar_in begins
short_word word h =
    let z : get_or word 1 0 ≡ 0 = get_or-eq_default word 0 (omega arith) in
    let f : eqb (get_or word 1 0) 43 ≡ false = ne_eqb (get_or word 1 0) 43 (λ e. omega arith) in
    let g : cond (eqb (get_or word 0 0) 85) (eqb (get_or word 1 0) 43) false ≡ false = if_same (λ b. b) (eqb (get_or word 0 0) 85) _ _ false f refl in
    rw g

pub other_word : (word : List ℕ) (t : Bool) → t ≡ begins word → t ≡ false → None ≡ scalar_in word
unfolding scalar_in
other_word word t e h = rw (← e, h)

pub number_word : (word : List ℕ) (t : Bool) (r : Option ℕ) → 2 ≤ length word → t ≡ begins word → t ≡ true
    → r ≡ number_of 16 4294967295 (take (length word - 2) (drop 2 word)) → r ≡ scalar_in word
unfolding scalar_in
number_word word t r l e h k =
    let f : take (length word - 2) (drop 2 word) ≡ drop 2 word = take_all (length word - 2) (drop 2 word) (omega (arith, length-drop 2 word)) in
    rw (← e, h) (rw f at k)

-- bytes that are passed over
skip_numbers : (k : ℕ) (s : List ℕ) → numbers_from k s ≡ numbers_from 0 (drop k s)
unfolding numbers_from
skip_numbers zero s = refl
skip_numbers (suc k) [] = refl
skip_numbers (suc k) (b ∷ s) = skip_numbers k s

skip_all : (k : ℕ) (s : List ℕ) → all_numbers k s ≡ all_numbers 0 (drop k s)
unfolding all_numbers
skip_all zero s = refl
skip_all (suc k) [] = refl
skip_all (suc k) (b ∷ s) = skip_all k s

-- the next word
next_number : (s : List ℕ) (x : ℕ) → 0 < length s → scalar_in (up_to 32 s) ≡ Some x → numbers_from 0 s ≡ x ∷ numbers_from 0 (after 32 s)
unfolding numbers_from after
next_number [] x h e = absurd (omega arith)
next_number (b ∷ s) x h e = rw e (ap (λ r. x ∷ r) (skip_numbers (before 32 (b ∷ s)) s))

next_all : (s : List ℕ) (x : ℕ) → 0 < length s → scalar_in (up_to 32 s) ≡ Some x → all_numbers 0 s ≡ all_numbers 0 (after 32 s)
unfolding all_numbers after
next_all [] x h e = absurd (omega arith)
next_all (b ∷ s) x h e = rw e (skip_all (before 32 (b ∷ s)) s)

-- a word that is no number
no_number : (s : List ℕ) → 0 < length s → scalar_in (up_to 32 s) ≡ None → numbers_from 0 s ≡ []
unfolding numbers_from
no_number [] h e = absurd (omega arith)
no_number (b ∷ s) h e = rw e

not_all : (s : List ℕ) → 0 < length s → scalar_in (up_to 32 s) ≡ None → all_numbers 0 s ≡ false
unfolding all_numbers
not_all [] h e = absurd (omega arith)
not_all (b ∷ s) h e = rw e

-- the loop: what stands before `at` is read, and n cells are written
pub record Counting (bytes out₀ out : List ℕ) (at n : ℕ) : Type 0 where
  pub goes : all_numbers 0 (drop at bytes) ≡ all_numbers 0 bytes
  pub same : length out ≡ length out₀
  pub read : Read (numbers_from 0 bytes) (numbers_from 0 (drop at bytes)) out n

pub counting_start : (bytes out : List ℕ) → Counting bytes out out 0 0
counting_start bytes out = record { goes = refl; same = refl; read = read_start (numbers_from 0 bytes) out }

module _ (bytes out₀ out : List ℕ) (at n : ℕ) (g : Counting bytes out₀ out at n) where
  all_written : numbers_from 0 (drop at bytes) ≡ [] → (n ≡ min (length (numbers_from 0 bytes)) (length out₀)) × Written (numbers_from 0 bytes) out (length out₀)
  all_written e = read_end (numbers_from 0 bytes) (numbers_from 0 (drop at bytes)) out n (length out₀) g.read g.same e

  pub counting_end : length bytes ≤ at → (Ok n ≡ counted_of bytes (length out₀)) × Written (numbers_from 0 bytes) out (length out₀)
  unfolding counted_of numbers_from all_numbers
  counting_end h =
      let d : drop at bytes ≡ [] = drop_of_length-le bytes h in
      let w : (n ≡ min (length (numbers_from 0 bytes)) (length out₀)) × Written (numbers_from 0 bytes) out (length out₀) = all_written (rw d) in
      let t : all_numbers 0 bytes ≡ true = sym g.goes ∙ ap (all_numbers 0) d in
      (rw (t, w.0), w.1)

  -- v is what the code read of the word
  module _ (h : at < length bytes) (p : List ℕ) (v : Option ℕ) (ep : p ≡ up_to 32 (drop at bytes)) (ev : v ≡ scalar_in p) where
    told : (k : Option ℕ) → v ≡ k → scalar_in (up_to 32 (drop at bytes)) ≡ k
    told k f = rw (← ep) (sym ev ∙ f)

    left_some : 0 < length (drop at bytes)
    left_some = let l : length (drop at bytes) ≡ length bytes - at = length-drop at bytes in omega arith

    pub counting_bad : v ≡ None → (Err (NotNumber n) ≡ counted_of bytes (length out₀)) × Written (numbers_from 0 bytes) out (length out₀)
    unfolding counted_of
    counting_bad f =
        let w : (n ≡ min (length (numbers_from 0 bytes)) (length out₀)) × Written (numbers_from 0 bytes) out (length out₀) = all_written (no_number (drop at bytes) left_some (told None f)) in
        let t : all_numbers 0 bytes ≡ false = sym g.goes ∙ not_all (drop at bytes) left_some (told None f) in
        (rw (t, w.0), w.1)

    pub counting_more : (x : ℕ) → v ≡ Some x → (next : ℕ) → next ≡ next_from 32 at bytes → (m : ℕ) (out' : List ℕ)
        → m ≡ cond (ltb n (length out)) (n + 1) n → out' ≡ set out n x → Counting bytes out₀ out' next m
    counting_more x f next e m out' em eo =
        let en : drop next bytes ≡ after 32 (drop at bytes) = left_after bytes at next e in
        let c : numbers_from 0 (drop at bytes) ≡ x ∷ numbers_from 0 (drop next bytes) = rw en (next_number (drop at bytes) x left_some (told (Some x) f)) in
        let r : Read (numbers_from 0 bytes) (x ∷ numbers_from 0 (drop next bytes)) out n = rw c at g.read in
        record {
          goes = rw en (sym (next_all (drop at bytes) x left_some (told (Some x) f)) ∙ g.goes);
          same = ap length eo ∙ length-set out n x ∙ g.same;
          read = read_next (numbers_from 0 bytes) (numbers_from 0 (drop next bytes)) out n x r m out' em eo;
        }
