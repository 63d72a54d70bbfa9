use native.Mathlib.Omega.{arith}
use Rattle.spans.proofs.Along.{counts_to, end_fits, span_bare, span_noted}
use Rattle.spans.proofs.offsets.Counted.span.Goals as goal

pub to-own-requires : goal.to-own-requires
to-own-requires c = c.requires.0

pub returns-then-c-eq0 : goal.returns-then-c-eq0
returns-then-c-eq0 c = span_bare c.args.scalars.now c.args.text.now c.args.at c.args.c _ _ c.to-own.ensures c.length_of-length.ensures c.if-c-eq0.true

pub to-first-requires : goal.to-first-requires
to-first-requires c = counts_to _ _ _ c.to-own.ensures

pub last_record-requires : goal.last_record-requires
last_record-requires c = c.requires.1

pub to-last-requires : goal.to-last-requires
to-last-requires c = counts_to _ _ _ c.to-first.ensures

pub overflow_add-end : goal.overflow_add-end
overflow_add-end c = omega (arith, end_fits _ _ _ _ c.last_record.type_inv c.to-last.ensures c.length_of.ensures)

pub returns : goal.returns
returns c = span_noted c.args.scalars.now c.args.text.now c.args.at c.args.c _ _ c.to-own.ensures c.length_of-length.ensures c.if-c-eq0.false _ _ _ _ _ _ c.record_at.ensures c.to-first.ensures c.last_record.ensures c.to-last.ensures c.length_of.ensures c.distance-nlength.ensures
