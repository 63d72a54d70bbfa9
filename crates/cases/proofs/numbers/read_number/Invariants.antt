use Rattle.cases.proofs.Digits.{Left}
use Prim.Native.Nat.{◌≤◌}
use Rattle.cases.proofs.numbers.read_number.Given as goal

abbrev pub invariant-loop-byte : goal.invariant-loop-byte
invariant-loop-byte l = (l.v ≤ l.most) × Left l.radix l.most l.digits l.v l.byte-index
