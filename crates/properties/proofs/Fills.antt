-- The lookup's verdict and its class columns. Assumes nothing.
use Rattle.std.specs.Prelude.{Ok}
use Prim.Native.Nat.{ℕ, zero, suc, ◌+◌, ◌<◌, ◌≤◌, min}
use mathlib.Core.Path.{◌≡◌, refl, sym, ◌∙◌, ap}
use mathlib.Core.Bool.{true, cond}
use mathlib.Core.List.{List}
use native.Mathlib.Nat.{le_trans, le_of_eq, min-le_left, min-le_right}
use lib.Dec.{ltb}
use lib.ListN.{length, set}
use borrow.Author.Tests.{ltb-false}
use Rattle.basics.proofs.Tests.{both}
use Rattle.basics.proofs.Columns.{Written, written_more}
use Rattle.records.specs.Text.{cell}
use Rattle.records.specs.Refusals.{refuse, over}
use Rattle.records.specs.declared.Side.TheVariants.{Neither}
use Rattle.records.specs.Verdict.{Verdict}
use Rattle.records.proofs.Verdicts.{unrefused, passes}
use Rattle.properties.specs.Ranges.{ranges, count_of, has, code_from, code_in, judge_scalar, lookup_verdict, class_at}
use Rattle.properties.specs.Inner.{rises, ordered, Reach}

pub lasts_rise : (firsts lasts : List ℕ) (n : ℕ) → ordered firsts lasts n ≡ true → rises lasts n ≡ true
unfolding ordered
lasts_rise firsts lasts n o = (both (rises firsts n) (rises lasts n) o).1

module _ (firsts lasts codes : List ℕ) where
  -- how many are held is asked in the count alone
  held_any : (a b scalar i n : ℕ) → code_from (ranges firsts lasts codes a) scalar i n ≡ code_from (ranges firsts lasts codes b) scalar i n
  unfolding code_from
  held_any a b scalar i zero = refl
  held_any a b scalar i (suc n) = ap (cond (has (ranges firsts lasts codes a) scalar i) (cell codes i)) (held_any a b scalar (i + 1) n)

  module _ (held n : ℕ) (e : n ≡ count_of (length firsts) (length lasts) (length codes) held) where
    least : n ≤ min (length firsts) (min (length lasts) (length codes))
    unfolding count_of
    least = le_trans (le_of_eq e) (min-le_right held (min (length firsts) (min (length lasts) (length codes))))

    inner : n ≤ min (length lasts) (length codes)
    inner = le_trans least (min-le_right (length firsts) (min (length lasts) (length codes)))

    pub count_reach : Reach n firsts lasts codes
    count_reach =
        record {
          firsts_reach = le_trans least (min-le_left (length firsts) (min (length lasts) (length codes)));
          lasts_reach = le_trans inner (min-le_left (length lasts) (length codes));
          codes_reach = le_trans inner (min-le_right (length lasts) (length codes));
        }

    pub filled_more : (scalars out₀ out : List ℕ) (i v : ℕ) → v ≡ code_from (ranges firsts lasts codes n) (cell scalars i) 0 n → i < length out₀ → Written (class_at (ranges firsts lasts codes held) scalars) out₀ i out → Written (class_at (ranges firsts lasts codes held) scalars) out₀ (i + 1) (set out i v)
    filled_more scalars out₀ out i v h l w =
        let f : v ≡ class_at (ranges firsts lasts codes held) scalars i =
        unfold class_at code_in in h ∙ held_any n held (cell scalars i) 0 n ∙ ap (code_from (ranges firsts lasts codes held) (cell scalars i) 0) e in
        rw f (written_more (class_at (ranges firsts lasts codes held) scalars) out₀ out i l w)

-- what is accepted has room in both columns
module _ (scalars : List ℕ) (breaks words : ℕ) (v : Verdict) (e : v ≡ lookup_verdict scalars breaks words) (h : v ≡ Ok tt) where
  room : length scalars ≤ min breaks words
  unfolding lookup_verdict
  room =
      ltb-false (min breaks words) (length scalars)
      (unrefused (ltb (min breaks words) (length scalars)) 9 Neither 0
      (passes (over (λ i. judge_scalar (cell scalars i) i) 0 (length scalars)) (refuse (ltb (min breaks words) (length scalars)) 9 Neither 0) (sym e ∙ h)).1)

  pub breaks_room : length scalars ≤ breaks
  breaks_room = le_trans room (min-le_left breaks words)

  pub words_room : length scalars ≤ words
  words_room = le_trans room (min-le_right breaks words)

pub ruleset rooms = (breaks_room, words_room)
