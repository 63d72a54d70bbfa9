use mathlib.Core.Path.{refl}
use native.Mathlib.Omega.{arith}
use lib.ListN.{get_or}
use Rattle.parse.specs.State.{nothing}
use Rattle.spans.specs.Spans.{spans_of}
use Rattle.spans.proofs.Along.{counts_to, end_fits, last_end_at, walk_begins, walk_near, walk_turns, walk_ends}
use borrow.Author.Rules.{rules}
use Rattle.spans.proofs.offsets.Counted.spans.Goals as goal

pub to-along-requires : goal.to-along-requires
to-along-requires c = c.requires.counts

pub loop-j-init : goal.loop-j-init
loop-j-init c = walk_begins _ _ _ _ _ _ (counts_to _ _ _ c.to-along.ensures)

pub span-requires : goal.span-requires
span-requires c = (c.loop-j.invariant.counts, walk_near c.args.scalars.now c.args.text.now c.args.at c.args.cluster.len c.args.cluster.chars c.requires.cells _ _ _ _ _ c.loop-j.invariant c.loop-j-test.true c.requires.most c.requires.near)

pub last_record-requires : goal.last_record-requires
last_record-requires c = walk_near c.args.scalars.now c.args.text.now c.args.at c.args.cluster.len c.args.cluster.chars c.requires.cells _ _ _ _ _ c.loop-j.invariant c.loop-j-test.true c.requires.most c.requires.near

pub to-along-requires-in-loop-j : goal.to-along-requires-in-loop-j
to-along-requires-in-loop-j c = c.loop-j.invariant.counts

pub overflow_add-end : goal.overflow_add-end
overflow_add-end c = omega (arith, end_fits _ _ _ _ c.last_record.type_inv c.to-along-in-loop-j.ensures c.length_of.ensures)

pub overflow_add-place : goal.overflow_add-place
overflow_add-place c = omega (arith, walk_near c.args.scalars.now c.args.text.now c.args.at c.args.cluster.len c.args.cluster.chars c.requires.cells _ _ _ _ _ c.loop-j.invariant c.loop-j-test.true c.requires.most c.requires.near)

pub overflow_add-place-in-loop-j : goal.overflow_add-place-in-loop-j
overflow_add-place-in-loop-j c = omega (arith, walk_near c.args.scalars.now c.args.text.now c.args.at c.args.cluster.len c.args.cluster.chars c.requires.cells _ _ _ _ _ c.loop-j.invariant c.loop-j-test.true c.requires.most c.requires.near)

pub loop-j-preserved : goal.loop-j-preserved
loop-j-preserved c = walk_turns c.args.scalars.now c.args.text.now c.args.at c.args.cluster.len c.args.cluster.chars c.requires.cells _ _ _ _ _ c.loop-j.invariant c.loop-j-test.true (get_or c.args.cluster.chars c.loop-j.j nothing) _ _ _ refl (search rules) c.span.ensures (counts_to _ _ _ c.to-along-in-loop-j.ensures) (last_end_at c.args.scalars.now c.args.text.now c.loop-j.place (get_or c.args.cluster.chars c.loop-j.j nothing) _ _ _ c.last_record.ensures c.to-along-in-loop-j.ensures c.length_of.ensures)

pub returns : goal.returns
unfolding spans_of
returns c = walk_ends c.args.scalars.now c.args.text.now c.args.at c.args.cluster.len c.args.cluster.chars c.requires.cells _ _ _ _ _ c.loop-j.invariant c.loop-j-test.false c.requires.most _ _ c.first_record.ensures c.to-along.ensures
