use Prim.Native.Nat.{◌≤◌}
use Rattle.cases.specs.Numbers.{digit_of, or_zero}
use Rattle.cases.proofs.Pairs.{digit_small}
use Rattle.cases.proofs.blocks.half.Goals as goal

pub returns-clause-upper_bound : goal.returns-clause-upper_bound
returns-clause-upper_bound c = let h : or_zero (digit_of c.args.byte) ≤ 15 = digit_small c.args.byte in rw (c.unwrap_or.ensures, c.digit.ensures) h
