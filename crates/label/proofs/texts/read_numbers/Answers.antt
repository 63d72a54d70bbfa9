use Rattle.label.proofs.Numbers.{counting_more, counting_bad, counting_end}
use Rattle.label.proofs.texts.read_numbers.Goals as goal

pub loop-at-preserved : goal.loop-at-preserved
loop-at-preserved c = search counting_more

pub returns-in_default : goal.returns-in_default
returns-in_default c = let all = counting_bad c.args.bytes.now _ c.loop-at.out c.loop-at.at c.loop-at.n c.loop-at.invariant c.loop-at-test.true _ _ c.span_at.ensures c.number.ensures c.in_default.is in record { value = all.0; out_after = all.1 }

pub returns : goal.returns
returns c = let all = counting_end c.args.bytes.now _ c.loop-at.out c.loop-at.at c.loop-at.n c.loop-at.invariant c.loop-at-test.false in record { value = all.0; out_after = all.1 }
