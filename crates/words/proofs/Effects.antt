-- What the exits write, exit by exit.
-- Assumes nothing.
use Rattle.std.specs.Prelude.{Ok}
use Prim.Native.Nat.{ℕ, ◌+◌, ◌<◌, ◌≤◌}
use mathlib.Core.Path.{◌≡◌, refl}
use mathlib.Core.Bool.{Bool, true, false, cond, ◌&&◌}
use native.Mathlib.Omega.{arith}
use lib.Dec.{eqb, leb}
use borrow.Author.Tests.{leb-false}
use Rattle.basics.specs.Choices.{◌⇒◌▹◌}
use Rattle.classes.specs.WordBreak.{RI}
use Rattle.words.specs.declared.WordState.{WordState}
use Rattle.words.specs.Next.{Next}
use Rattle.words.specs.declared.Exit.{Exit}
use Rattle.words.specs.declared.Exit.TheVariants.{Begun, Released, Joined, Parted, Ignored, Held, Opened, Paired}
use Rattle.words.specs.Rules.{flag_rules, number_rules, letter_rules, pair_rules, exit_of, leaves}

pub leaves_bit : (s : WordState) (b : ℕ) (exit : Exit) → (leaves s b exit).answer ≤ 1
unfolding leaves
leaves_bit s b Begun = omega arith
leaves_bit s b Released = omega arith
leaves_bit s b Joined = omega arith
leaves_bit s b Parted = omega arith
leaves_bit s b Ignored = omega arith
leaves_bit s b Held = omega arith
leaves_bit s b Opened = omega arith
leaves_bit s b (Paired count) = omega arith

pub leaves_class : (n : ℕ) (s : WordState) (b : ℕ) (exit : Exit) → s.previous < n → b < n → (leaves s b exit).state.previous < n
unfolding leaves
leaves_class n s b Begun h k = k
leaves_class n s b Released h k = k
leaves_class n s b Joined h k = k
leaves_class n s b Parted h k = k
leaves_class n s b Ignored h k = h
leaves_class n s b Held h k = k
leaves_class n s b Opened h k = k
leaves_class n s b (Paired count) h k = k

pub leaves_accepts : (s : WordState) (b : ℕ) (exit : Exit) → (leaves s b exit).verdict ≡ Ok tt
unfolding leaves
leaves_accepts s b Begun = refl
leaves_accepts s b Released = refl
leaves_accepts s b Joined = refl
leaves_accepts s b Parted = refl
leaves_accepts s b Ignored = refl
leaves_accepts s b Held = refl
leaves_accepts s b Opened = refl
leaves_accepts s b (Paired count) = refl

-- an exit sets no count above 2
pub data Small : Exit → Type 0 where
  begun : Small Begun
  released : Small Released
  joined : Small Joined
  parted : Small Parted
  ignored : Small Ignored
  held : Small Held
  opened : Small Opened
  paired : {count : ℕ} → count ≤ 2 → Small (Paired count)

small : (test : Bool) (exit later : Exit) → Small exit → Small later → Small (test ⇒ exit ▹ later)
small true exit later h k = h
small false exit later h k = k

full_small : (a b count : ℕ) (full : Bool) → leb 2 count ≡ full → Small (full && eqb b RI ⇒ Opened ▹ full ⇒ Parted ▹ eqb b RI && eqb a RI ⇒ Paired (count + 1) ▹ eqb b RI ⇒ Opened ▹ Parted)
full_small a b count true e = search (small, opened, parted)
full_small a b count false e =
    let h : Small (Paired (count + 1)) = paired {count = count + 1} (omega (arith, leb-false 2 count e)) in
    search (small, opened, parted)

flag_small : (a b count : ℕ) → Small (flag_rules a b count)
unfolding flag_rules
flag_small a b count = full_small a b count (leb 2 count) refl

pub exit_small : (s : WordState) (b pictograph : ℕ) (next : Next) → Small (exit_of s b pictograph next)
unfolding exit_of pair_rules letter_rules number_rules
exit_small s b pictograph next = search (small, flag_small, begun, released, joined, parted, ignored, held) depth 40

begun_small : (test : Bool) (count : ℕ) → count ≤ 2 → cond test 1 count ≤ 2
begun_small true count h = omega arith
begun_small false count h = h

pub leaves_small : (s : WordState) (b : ℕ) {exit : Exit} → s.count ≤ 2 → Small exit → (leaves s b exit).state.count ≤ 2
unfolding leaves
leaves_small s b h begun = begun_small (eqb b RI) s.count h
leaves_small s b h released = h
leaves_small s b h joined = omega arith
leaves_small s b h parted = omega arith
leaves_small s b h ignored = omega arith
leaves_small s b h held = omega arith
leaves_small s b h opened = omega arith
leaves_small s b h (paired k) = k
