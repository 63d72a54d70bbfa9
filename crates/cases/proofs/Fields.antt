-- Fields, items and their columns as the loops read them. Assumes nothing.
use Rattle.std.specs.Prelude.{Some, None}
use Rattle.std.specs.Option.{unwrap_or}
use Prim.Native.Nat.{ℕ, ◌+◌, ◌<◌, ◌≤◌}
use mathlib.Core.Path.{◌≡◌, sym, ◌∙◌, ap}
use mathlib.Core.Bool.{Bool, true, false}
use mathlib.Core.List.{List}
use native.Mathlib.Omega.{arith}
use lib.ListN.{length, drop}
use borrow.Author.Tests.{eq-eqb, ne_eqb}
use Rattle.basics.proofs.Sets.{every_more, every_fails}
use Rattle.basics.specs.Sets.{every}
use Rattle.cases.specs.declared.items.Kind.{Kind}
use Rattle.cases.specs.Items.{commas_of, is_field, field_fits, is_item, item_fits, item_count, items_of}
use Rattle.cases.specs.Numbers.{number_of, Number}
use Rattle.cases.specs.Spans.{span, count, up_to, rest}
use Rattle.cases.proofs.Digits.{read_within}
use Rattle.cases.proofs.Splits.{span_read}

-- a number that was read, or 0, is not above the largest
pub value_within : (radix most : ℕ) (xs : List ℕ) (n : Number) (v : ℕ) → n ≡ number_of radix most xs → v ≡ unwrap_or n 0 → v ≤ most
value_within radix most xs (Some m) v e f = let h : m ≤ most = read_within radix most xs m (sym e) in omega (arith, f)
value_within radix most xs None v e f = omega (arith, f)

-- the loop over the fields of an item; n and last are the commas that it has and should have
module _ (kind : Kind) (item : List ℕ) (n last : ℕ) (en : n ≡ count 44 item) (el : last ≡ commas_of kind) where
  pub item_uneven : (n ≡ last → ⊥) → false ≡ is_item kind item
  unfolding is_item
  item_uneven h = rw (← en, ← el, ne_eqb n last h)

  module _ (h : n ≡ last) (k : ℕ) where
    pub item_fails : k ≤ last → (p : List ℕ) (t : Bool) → p ≡ span 44 k item → t ≡ is_field kind k p → t ≡ false → false ≡ is_item kind item
    unfolding is_item field_fits
    item_fails l p t ep et f =
        rw (← en, ← el, eq-eqb n last h)
        (let i : k < last + 1 = omega arith in
        sym (every_fails (field_fits kind item) (last + 1) k i (rw (← ep, ← et) f)))

    pub item_all : every (field_fits kind item) k ≡ true → k ≡ last + 1 → true ≡ is_item kind item
    unfolding is_item
    item_all a f = rw (← en, ← el, eq-eqb n last h, ← f) (sym a)

pub item_more : (kind : Kind) (item : List ℕ) (k : ℕ) (p : List ℕ) (t : Bool) → every (field_fits kind item) k ≡ true
    → p ≡ span 44 k item → t ≡ is_field kind k p → t ≡ true → every (field_fits kind item) (k + 1) ≡ true
unfolding field_fits
item_more kind item k p t a ep et h = every_more (field_fits kind item) k a (rw (← ep, ← et) h)

pub none_counted : (kind : Kind) (xs : List ℕ) → length xs ≡ 0 → Some 0 ≡ items_of kind xs
unfolding items_of
none_counted kind xs h = rw (eq-eqb _ _ h)

-- the loop over the items, at item i, which the code has read as p and judged by t
module _ (kind : Kind) (xs : List ℕ) (i at : ℕ) (left : drop at xs ≡ rest 32 i xs) (p : List ℕ) (ep : p ≡ up_to 32 (drop at xs)) (t : Bool) (et : t ≡ is_item kind p) where
  here : t ≡ item_fits kind xs i
  unfolding item_fits
  here = et ∙ ap (is_item kind) (span_read 32 xs i at left p ep)

  pub items_more : every (item_fits kind xs) i ≡ true → t ≡ true → every (item_fits kind xs) (i + 1) ≡ true
  items_more a h = every_more (item_fits kind xs) i a (sym here ∙ h)

  pub items_fail : (length xs ≡ 0 → ⊥) → (last : ℕ) → last ≡ count 32 xs → i ≤ last → t ≡ false → None ≡ items_of kind xs
  unfolding items_of
  items_fail z last e l h =
      rw (ne_eqb _ _ z, ← e)
      (let k : i < last + 1 = omega arith in
      rw (every_fails (item_fits kind xs) (last + 1) i k (sym here ∙ h)))

-- every item, where i is behind the last
pub items_all : (kind : Kind) (xs : List ℕ) (last i : ℕ) → (length xs ≡ 0 → ⊥) → last ≡ count 32 xs → i ≡ last + 1 → every (item_fits kind xs) i ≡ true
    → (c : ℕ) → c ≡ item_count kind last → Some c ≡ items_of kind xs
unfolding items_of
items_all kind xs last i z e l a c ec = rw (ne_eqb _ _ z, ← e, ← l, a) (ap Some ec)
