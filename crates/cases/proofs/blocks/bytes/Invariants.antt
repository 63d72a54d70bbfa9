use Rattle.cases.proofs.Pairs.{Bytes}
use Rattle.cases.proofs.blocks.bytes.Given as goal

abbrev pub invariant-loop-i : goal.invariant-loop-i
invariant-loop-i l = Bytes l.digits l.initial.out l.most l.out l.i
