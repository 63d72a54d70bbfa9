use Rattle.std.proofs.Common.{tests}
use Rattle.std.specs.Prelude.{Some}
use lib.ListN.{length}
use mathlib.Core.Path.{◌≡◌}
use Rattle.cases.proofs.Digits.{left_all, left_more, grows, none_read, all_read, no_digit, no_radix, too_large}
use native.Mathlib.Omega.{arith}
use borrow.Author.Rules.{rules}
use Rattle.cases.proofs.numbers.read_number.Goals as goal

pub returns-then-is_empty : goal.returns-then-is_empty
returns-then-is_empty c = let z : length c.args.digits.now ≡ 0 = search (rules, tests) in none_read _ _ _ z

pub loop-byte-init : goal.loop-byte-init
loop-byte-init c = let z : length c.args.digits.now ≡ 0 → ⊥ = search (rules, tests) in (search rules, left_all _ _ _ z)

pub returns-in_err-digit : goal.returns-in_err-digit
returns-in_err-digit c = let n = no_digit _ _ _ _ _ _ c.radix-radix.ensures.value c.loop-byte.invariant.1 c.loop-byte-test.true _ c.digit.ensures c.in_err-digit.was in let r = c.from_residual.ensures in cc (n, r)

pub overflow_mul-v : goal.overflow_mul-v
overflow_mul-v c = omega (arith, grows c.loop-byte.v _ c.radix-radix.ensures.upper_bound)

pub overflow_add-v : goal.overflow_add-v
overflow_add-v c = omega (arith, grows c.loop-byte.v _ c.radix-radix.ensures.upper_bound)

pub returns-then-radix-d : goal.returns-then-radix-d
returns-then-radix-d c = let g : c.digit.result ≡ Some c.from-d.result = rw c.from-d.ensures c.in_ok-digit.was in no_radix _ _ _ _ _ _ c.radix-radix.ensures.value c.loop-byte.invariant.1 c.loop-byte-test.true _ c.digit.ensures _ g c.if-radix-d.true

pub returns-then-from-v : goal.returns-then-from-v
returns-then-from-v c = let g : c.digit.result ≡ Some c.from-d.result = rw c.from-d.ensures c.in_ok-digit.was in too_large _ _ _ _ _ _ c.radix-radix.ensures.value c.loop-byte.invariant.1 c.loop-byte-test.true _ c.digit.ensures _ g c.if-radix-d.false (omega (arith, c.from.ensures))

pub loop-byte-preserved : goal.loop-byte-preserved
loop-byte-preserved c = let g : c.digit.result ≡ Some c.from-d.result = rw c.from-d.ensures c.in_ok-digit.was in (omega (arith, c.from.ensures), left_more _ _ _ _ _ _ c.radix-radix.ensures.value c.loop-byte.invariant.1 c.loop-byte-test.true _ c.digit.ensures _ g c.if-radix-d.false (omega (arith, c.from.ensures)))

pub returns : goal.returns
returns c = all_read _ _ _ _ _ _ c.radix-radix.ensures.value c.loop-byte.invariant.1 c.loop-byte-test.false
