-- The loops and the tests over a line's bytes are the definitions' walks. Assumes nothing.
use Rattle.cases.specs.Numbers.{Number}
use Rattle.std.specs.Prelude.{None}
use Prim.Native.Nat.{ℕ, suc, ◌+◌, ◌-◌, ◌<◌, ◌≤◌}
use mathlib.Core.Path.{◌≡◌, sym, ◌∙◌, ap}
use mathlib.Core.Bool.{Bool, true, false}
use mathlib.Core.List.{List}
use native.Mathlib.Numerals.{add-one}
use native.Mathlib.Omega.{arith}
use lib.Dec.{eqb, ltb}
use lib.ListN.{length, get_or, take, drop, length-drop, drop_of_length-le, get_or-eq_default}
use lib.Seq.{drop-cons, take_all, length-take-le}
use borrow.Author.Tests.{eq-eqb, ne_eqb, le-leb, lt-leb, ltb-true}
use Rattle.basics.specs.Sets.{any}
use Rattle.basics.proofs.Tests.{if_intro}
use Rattle.cases.specs.Spans.{before, up_to, next_from}
use Rattle.cases.proofs.Splits.{before_within, next_after_lem}
use Rattle.records.proofs.Unique.{unique}
use Rattle.properties.specs.declared.Line.{Line}
use Rattle.properties.specs.Lines.{is_blank, leading, ending, untailed, trimmed, value_of, is_between, no_value, hex, first_of, last_of, line_of, value_in}

-- what is left from a place to the end
rest_whole : (bs : List ℕ) (i : ℕ) → take (length bs - i) (drop i bs) ≡ drop i bs
rest_whole bs i = take_all (length bs - i) (drop i bs) (omega (arith, length-drop i bs))

-- the blanks at the start, of which i are passed; t is what was said of the byte there
module _ (bs : List ℕ) (i : ℕ) (e : i + leading (drop i bs) ≡ leading bs) where
  pub lead_over : length bs ≤ i → i ≤ length bs → length bs ≡ leading bs
  unfolding leading
  lead_over h k = let z : leading (drop i bs) ≡ 0 = rw (drop_of_length-le bs h) in omega arith

  module _ (t : Bool) (s : t ≡ is_blank (get_or bs i 0)) (h : i < length bs) where
    pub lead_more : t ≡ true → i + 1 + leading (drop (i + 1) bs) ≡ leading bs
    unfolding leading
    lead_more k =
        let z : leading (drop i bs) ≡ suc (leading (drop (i + 1) bs)) = rw (add-one i, drop-cons bs i 0 h, ← s, k) in
        omega arith

    pub lead_here : t ≡ false → i ≡ leading bs
    unfolding leading
    lead_here k = let z : leading (drop i bs) ≡ 0 = rw (drop-cons bs i 0 h, ← s, k) in omega arith

-- the blanks at the end, before which n bytes are left
module _ (bs : List ℕ) (n : ℕ) (e : ending bs n ≡ ending bs (length bs)) where
  pub end_over : n ≤ 0 → 0 ≡ ending bs (length bs)
  unfolding ending
  end_over h = let f : n ≡ 0 = omega arith in ap (ending bs) (sym f) ∙ e

  module _ (t : Bool) (s : t ≡ is_blank (get_or bs (n - 1) 0)) (h : 0 < n) where
    whole : suc (n - 1) ≡ n
    whole = omega arith

    pub end_more : t ≡ true → ending bs (n - 1) ≡ ending bs (length bs)
    unfolding ending
    end_more k =
        let z : ending bs (suc (n - 1)) ≡ ending bs (n - 1) = rw (← s, k) in
        sym z ∙ ap (ending bs) whole ∙ e

    pub end_here : t ≡ false → n - 1 + 1 ≡ ending bs (length bs)
    unfolding ending
    end_here k =
        let z : ending bs (suc (n - 1)) ≡ suc (n - 1) = rw (← s, k) in
        add-one (n - 1) ∙ sym z ∙ ap (ending bs) whole ∙ e

pub value_none : (value : List ℕ) (t : Bool) → t ≡ eqb (length value) 0 → t ≡ true → t ≡ no_value value
unfolding no_value
value_none value t e h = h ∙ rw (← e, h)

pub value_by : (value : List ℕ) (t r : Bool) → t ≡ eqb (length value) 0 → t ≡ false → r ≡ any is_between value → r ≡ no_value value
unfolding no_value
value_by value t r e h k = rw (← e, h) k

-- the last scalar; part is what stands before the first dot
module _ (scalars part : List ℕ) (e : part ≡ up_to 46 (drop 0 scalars)) where
  end_is : length part ≡ before 46 scalars
  unfolding up_to
  end_is = ap length e ∙ length-take-le _ _ (before_within 46 scalars)

  pub last_alone : (r : Number) → length scalars ≤ length part → r ≡ first_of scalars → r ≡ last_of scalars
  unfolding last_of
  last_alone r h k = rw (← end_is, le-leb _ _ h) k

  module _ (h : length part < length scalars) where
    pub last_over : length scalars ≤ length part + 1 → None ≡ last_of scalars
    unfolding last_of
    last_over k = rw (← end_is, lt-leb (length scalars) (length part) h, get_or-eq_default scalars 0 k)

    pub last_other : (get_or scalars (length part + 1) 0 ≡ 46 → ⊥) → None ≡ last_of scalars
    unfolding last_of
    last_other n = rw (← end_is, lt-leb (length scalars) (length part) h, ne_eqb _ _ n)

    pub last_read : (r : Number) → get_or scalars (length part + 1) 0 ≡ 46 → r ≡ hex (take (length scalars - (length part + 1 + 1)) (drop (length part + 1 + 1) scalars)) → r ≡ last_of scalars
    unfolding last_of
    last_read r k q =
        let f : length part + 1 + 1 ≡ length part + 2 = omega arith in
        rw (← end_is, lt-leb (length scalars) (length part) h, eq-eqb _ _ k, ← f) (q ∙ ap hex (rest_whole scalars (length part + 1 + 1)))

pub trims : (bs : List ℕ) (i : ℕ) (r : List ℕ) → i ≡ leading bs → r ≡ untailed (take (length bs - i) (drop i bs)) → r ≡ trimmed bs
unfolding trimmed
trims bs i r e k = k ∙ ap untailed (rest_whole bs i ∙ ap (λ (n : ℕ). drop n bs) e)

module _ (body : List ℕ) (at : ℕ) (e : at ≡ next_from 59 0 body) where
  pub next_within : at ≤ length body
  unfolding next_from
  next_within =
      rw e
      (if_intro (λ (n : ℕ). n ≤ length body) (ltb (0 + before 59 body) (length body)) (0 + before 59 body + 1) (0 + before 59 body)
      (λ h. omega (arith, ltb-true (0 + before 59 body) (length body) h))
      (λ h. omega (arith, before_within 59 body)))

  pub valued : (r : List ℕ) → r ≡ trimmed (take (length body - at) (drop at body)) → r ≡ value_of body
  unfolding value_of
  valued r k = k ∙ ap trimmed (rest_whole body at ∙ ap (λ (n : ℕ). drop n body) e ∙ next_after_lem 59 0 body)

-- no two answers of `line_of` and of `value_in` fulfil their contracts (SCOPE 10)
pub line_of_unique : (line : List ℕ) (a b : Line) → a ≡ line_of line → b ≡ line_of line → a ≡ b
line_of_unique line = unique (line_of line)

pub value_in_unique : (line a b : List ℕ) → a ≡ value_in line → b ≡ value_in line → a ≡ b
value_in_unique line = unique (value_in line)
