use mathlib.Core.Path.{◌∙◌, sym, ap, subst}
use native.Mathlib.Omega.{arith}
use Rattle.parse.specs.declared.Cluster.{Cluster}
use Rattle.parse.specs.Cover.{characters_of}
use Rattle.spans.specs.Spans.{first_record, spans_of}
use Rattle.spans.specs.Inner.{Asked}
use Rattle.spans.proofs.Filling.{fill_starts, fill_asks, fill_fits, fill_cell, fill_falls, fill_turn, fill_over}
use Rattle.spans.proofs.runs.fill.Goals as goal

pub loop-at-init : goal.loop-at-init
loop-at-init c = fill_starts c.args.parser c.args.mode c.args.scalars.now c.args.text.now _

pub spans-spans-requires : goal.spans-spans-requires
spans-spans-requires c = subst (λ (q : Cluster). Asked c.args.scalars.now c.loop-at.along q c.loop-at.at) (sym c.cluster-cluster.ensures) (fill_asks c.args.parser c.args.mode c.args.scalars.now c.args.text.now _ _ _ _ _ _ c.requires c.loop-at.invariant c.loop-at-test.true _ c.call-p.ensures)

pub write-requires : goal.write-requires
write-requires c = fill_fits c.args.parser c.args.mode c.args.scalars.now c.args.text.now _ _ _ _ _ _ c.requires c.loop-at.invariant c.loop-at-test.true _ c.call-p.ensures _ (c.spans-spans.ensures ∙ ap (λ (q : Cluster). spans_of c.args.scalars.now c.args.text.now c.loop-at.at q) c.cluster-cluster.ensures)

pub offset_bounds-starts-clusters : goal.offset_bounds-starts-clusters
offset_bounds-starts-clusters c = omega (arith, c.loop-at.invariant.few, c.loop-at.invariant.inside, c.requires.short)

pub bounds-starts-clusters : goal.bounds-starts-clusters
bounds-starts-clusters c = omega (arith, (fill_cell c.args.parser c.args.mode c.args.scalars.now c.args.text.now _ _ _ _ _ _ c.requires c.loop-at.invariant c.loop-at-test.true _ c.call-p.ensures).0)

pub offset_bounds-ends-clusters : goal.offset_bounds-ends-clusters
offset_bounds-ends-clusters c = omega (arith, c.loop-at.invariant.few, c.loop-at.invariant.inside, c.requires.short)

pub bounds-ends-clusters : goal.bounds-ends-clusters
bounds-ends-clusters c = omega (arith, (fill_cell c.args.parser c.args.mode c.args.scalars.now c.args.text.now _ _ _ _ _ _ c.requires c.loop-at.invariant c.loop-at-test.true _ c.call-p.ensures).1)

pub overflow_add-characters : goal.overflow_add-characters
overflow_add-characters c = omega (arith, (fill_asks c.args.parser c.args.mode c.args.scalars.now c.args.text.now _ _ _ _ _ _ c.requires c.loop-at.invariant c.loop-at-test.true _ c.call-p.ensures).most, c.loop-at.invariant.room, c.loop-at.invariant.inside, c.requires.short)

pub overflow_add-clusters : goal.overflow_add-clusters
overflow_add-clusters c = omega (arith, c.loop-at.invariant.few, c.loop-at.invariant.inside, c.requires.short)

pub loop-at-smaller : goal.loop-at-smaller
loop-at-smaller c = fill_falls c.args.parser c.args.mode c.args.scalars.now c.args.text.now _ _ _ _ _ _ c.requires c.loop-at.invariant c.loop-at-test.true _ c.call-p.ensures _ c.place-at.ensures

pub loop-at-preserved : goal.loop-at-preserved
loop-at-preserved c = fill_turn c.args.parser c.args.mode c.args.scalars.now c.args.text.now _ _ _ _ _ _ c.requires c.loop-at.invariant c.loop-at-test.true _ c.call-p.ensures _ (c.spans-spans.ensures ∙ ap (λ (q : Cluster). spans_of c.args.scalars.now c.args.text.now c.loop-at.at q) c.cluster-cluster.ensures) _ (c.first_record.ensures ∙ ap (λ (q : Cluster). first_record (characters_of q)) c.cluster-cluster.ensures) _ c.place-at.ensures _ _ _ _ c.write.ensures.at_offsets c.write.ensures.at_lengths c.write.ensures.at_noffsets c.write.ensures.at_nlengths

pub returns : goal.returns
returns c = fill_over c.args.parser c.args.mode c.args.scalars.now c.args.text.now _ _ _ _ _ _ c.requires c.loop-at.invariant c.loop-at-test.false
