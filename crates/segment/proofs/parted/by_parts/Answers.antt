use Rattle.segment.proofs.Reading.{index_use, joins_use, even_use}
use mathlib.Core.Path.{refl, sym, ◌∙◌}
use native.Mathlib.Omega.{arith}
use borrow.Author.Tests.{eqb-false}
use Rattle.records.specs.Text.{lent}
use Rattle.stream.specs.Stream.{split_tokens}
use Rattle.segment.specs.Seen.{use_parser}
use Rattle.segment.proofs.TableLaws.{cell_index}
use Rattle.segment.proofs.Loops.{crowds_use, goes_start, goes_refill, goes_end, goes_row, goes_room, goes_leave, goes_turn, looked_up, is_filled, refill_falls, turn_falls, turn_inside}
use Rattle.segment.proofs.Partings.{placed_start, placed_refill, placed_inside, placed_token, placed_turn}
use Rattle.segment.proofs.Ways.{shown_even, shown_long, shown_read}
use Rattle.segment.proofs.parted.by_parts.Goals as goal

pub loop-seen-init : goal.loop-seen-init
loop-seen-init c = (λ r q. goes_start _ _ _ _ _ _ r q, placed_start _ _ _)

pub refill-g-requires : goal.refill-g-requires
refill-g-requires c = ((c.loop-seen.invariant.0 c.requires.roomy c.requires.regular).begun (is_filled c.loop-seen.g _ c.is_full.ensures c.if-is_full.true), omega (arith, (c.loop-seen.invariant.0 c.requires.roomy c.requires.regular).low, (c.loop-seen.invariant.0 c.requires.roomy c.requires.regular).inside, c.requires.roomy.short))

pub loop-seen-smaller-then-is_full : goal.loop-seen-smaller-then-is_full
loop-seen-smaller-then-is_full c = refill_falls _ _ _ _ (is_filled c.loop-seen.g _ c.is_full.ensures c.if-is_full.true) c.refill-g.ensures

pub loop-seen-preserved-then-is_full : goal.loop-seen-preserved-then-is_full
loop-seen-preserved-then-is_full c = (λ r q. goes_refill _ _ _ _ _ _ r q _ _ _ _ (c.loop-seen.invariant.0 r q) _ (is_filled c.loop-seen.g _ c.is_full.ensures c.if-is_full.true) c.refill-g.ensures, placed_refill _ _ (lent c.args.columns.now) _ _ c.loop-seen.invariant.1 _ (is_filled c.loop-seen.g _ c.is_full.ensures c.if-is_full.true) c.refill-g.ensures)

pub taken_at-taken-requires : goal.taken_at-taken-requires
taken_at-taken-requires c = (shown_even (lent c.args.columns.now) _ _ _ c.of-seen.ensures (even_use c.args.khmer (lent c.args.columns.now) c.requires.even), (c.requires.marks ∙ sym (shown_long (lent c.args.columns.now) _ _ _ c.of-seen.ensures), omega (arith, shown_long (lent c.args.columns.now) _ _ _ c.of-seen.ensures, placed_inside c.args.mode c.args.khmer (lent c.args.columns.now) c.loop-seen.g c.loop-seen.s c.loop-seen.invariant.1 (eqb-false _ _ (sym c.is_full.ensures ∙ c.if-is_full.false)) (omega (arith, (turn_inside c.loop-seen.g c.args.tokens _ _ c.goes_on.ensures c.loop-seen-test.true c.is_full.ensures c.if-is_full.false), c.requires.count)))))

pub use_index-requires : goal.use_index-requires
use_index-requires c = goes_row _ _ _ _ _ _ c.requires.roomy c.requires.regular _ _ _ _ (c.loop-seen.invariant.0 c.requires.roomy c.requires.regular)

pub cell_at-v-requires : goal.cell_at-v-requires
cell_at-v-requires c = (cell_index (use_parser c.args.khmer) c.args.mode (split_tokens c.args.mode c.args.khmer (lent c.args.columns.now)) c.loop-seen.g.at c.loop-seen.g.row _ _ c.requires.regular (omega (arith, (turn_inside c.loop-seen.g c.args.tokens _ _ c.goes_on.ensures c.loop-seen-test.true c.is_full.ensures c.if-is_full.false), c.requires.count)) (c.loop-seen.invariant.0 c.requires.roomy c.requires.regular).row_in c.use_table-table.ensures (index_use c.args.khmer _ _ _ _ _ _ c.use_index.ensures (placed_token c.args.mode c.args.khmer (lent c.args.columns.now) c.loop-seen.g c.loop-seen.s c.loop-seen.invariant.1 (eqb-false _ _ (sym c.is_full.ensures ∙ c.if-is_full.false)) (omega (arith, (turn_inside c.loop-seen.g c.args.tokens _ _ c.goes_on.ensures c.loop-seen-test.true c.is_full.ensures c.if-is_full.false), c.requires.count)) _ (shown_read (lent c.args.columns.now) _ _ _ c.of-seen.ensures _ _ _ _ _ c.taken_at-taken.ensures))), goes_row _ _ _ _ _ _ c.requires.roomy c.requires.regular _ _ _ _ (c.loop-seen.invariant.0 c.requires.roomy c.requires.regular))

pub shape_of-oscalars-then-gives_up : goal.shape_of-oscalars-then-gives_up
shape_of-oscalars-then-gives_up c = (c.loop-seen.invariant.0 c.requires.roomy c.requires.regular).scalar

pub shape_of-oclasses-then-gives_up : goal.shape_of-oclasses-then-gives_up
shape_of-oclasses-then-gives_up c = (c.loop-seen.invariant.0 c.requires.roomy c.requires.regular).class

pub shape_of-oclusters-then-gives_up : goal.shape_of-oclusters-then-gives_up
shape_of-oclusters-then-gives_up c = (c.loop-seen.invariant.0 c.requires.roomy c.requires.regular).cluster

pub returns-then-gives_up : goal.returns-then-gives_up
returns-then-gives_up c = goes_leave _ _ _ _ _ _ c.requires.roomy c.requires.regular _ _ _ _ (c.loop-seen.invariant.0 c.requires.roomy c.requires.regular) _ _ (looked_up _ _ _ _ _ _ _ _ _ _ _ (crowds_use c.args.khmer _ _ _ _ _ _) (omega (arith, (turn_inside c.loop-seen.g c.args.tokens _ _ c.goes_on.ensures c.loop-seen-test.true c.is_full.ensures c.if-is_full.false), c.requires.count)) c.is_full.ensures c.if-is_full.false (placed_token c.args.mode c.args.khmer (lent c.args.columns.now) c.loop-seen.g c.loop-seen.s c.loop-seen.invariant.1 (eqb-false _ _ (sym c.is_full.ensures ∙ c.if-is_full.false)) (omega (arith, (turn_inside c.loop-seen.g c.args.tokens _ _ c.goes_on.ensures c.loop-seen-test.true c.is_full.ensures c.if-is_full.false), c.requires.count)) _ (shown_read (lent c.args.columns.now) _ _ _ c.of-seen.ensures _ _ _ _ _ c.taken_at-taken.ensures)) c.scalar-x.ensures c.cell_at-v.ensures (joins_use c.args.khmer) c.use_table-table.ensures (index_use c.args.khmer _ _ _ _ _ _ c.use_index.ensures (placed_token c.args.mode c.args.khmer (lent c.args.columns.now) c.loop-seen.g c.loop-seen.s c.loop-seen.invariant.1 (eqb-false _ _ (sym c.is_full.ensures ∙ c.if-is_full.false)) (omega (arith, (turn_inside c.loop-seen.g c.args.tokens _ _ c.goes_on.ensures c.loop-seen-test.true c.is_full.ensures c.if-is_full.false), c.requires.count)) _ (shown_read (lent c.args.columns.now) _ _ _ c.of-seen.ensures _ _ _ _ _ c.taken_at-taken.ensures)))) _ _ c.gives_up.ensures c.if-gives_up.true c.stand.ensures

pub turn-g-requires : goal.turn-g-requires
turn-g-requires c = goes_room _ _ _ _ _ _ c.requires.roomy c.requires.regular _ _ _ _ (c.loop-seen.invariant.0 c.requires.roomy c.requires.regular) (omega (arith, (turn_inside c.loop-seen.g c.args.tokens _ _ c.goes_on.ensures c.loop-seen-test.true c.is_full.ensures c.if-is_full.false), c.requires.count))

pub loop-seen-smaller : goal.loop-seen-smaller
loop-seen-smaller c = turn_falls _ _ _ _ _ (turn_inside c.loop-seen.g c.args.tokens _ _ c.goes_on.ensures c.loop-seen-test.true c.is_full.ensures c.if-is_full.false) (c.loop-seen.invariant.0 c.requires.roomy c.requires.regular).low c.gives_up.ensures c.if-gives_up.false c.turn-g.ensures.0

pub loop-seen-preserved : goal.loop-seen-preserved
loop-seen-preserved c = (λ r q. goes_turn _ _ _ _ _ _ r q _ _ _ _ (c.loop-seen.invariant.0 r q) _ _ (looked_up _ _ _ _ _ _ _ _ _ _ _ (crowds_use c.args.khmer _ _ _ _ _ _) (omega (arith, (turn_inside c.loop-seen.g c.args.tokens _ _ c.goes_on.ensures c.loop-seen-test.true c.is_full.ensures c.if-is_full.false), c.requires.count)) c.is_full.ensures c.if-is_full.false (placed_token c.args.mode c.args.khmer (lent c.args.columns.now) c.loop-seen.g c.loop-seen.s c.loop-seen.invariant.1 (eqb-false _ _ (sym c.is_full.ensures ∙ c.if-is_full.false)) (omega (arith, (turn_inside c.loop-seen.g c.args.tokens _ _ c.goes_on.ensures c.loop-seen-test.true c.is_full.ensures c.if-is_full.false), c.requires.count)) _ (shown_read (lent c.args.columns.now) _ _ _ c.of-seen.ensures _ _ _ _ _ c.taken_at-taken.ensures)) c.scalar-x.ensures c.cell_at-v.ensures (joins_use c.args.khmer) c.use_table-table.ensures (index_use c.args.khmer _ _ _ _ _ _ c.use_index.ensures (placed_token c.args.mode c.args.khmer (lent c.args.columns.now) c.loop-seen.g c.loop-seen.s c.loop-seen.invariant.1 (eqb-false _ _ (sym c.is_full.ensures ∙ c.if-is_full.false)) (omega (arith, (turn_inside c.loop-seen.g c.args.tokens _ _ c.goes_on.ensures c.loop-seen-test.true c.is_full.ensures c.if-is_full.false), c.requires.count)) _ (shown_read (lent c.args.columns.now) _ _ _ c.of-seen.ensures _ _ _ _ _ c.taken_at-taken.ensures)))) _ _ _ _ refl refl refl c.turn-g.ensures.0 c.turn-g.ensures.1, placed_turn c.args.mode c.args.khmer (lent c.args.columns.now) c.loop-seen.g c.loop-seen.s c.loop-seen.invariant.1 (eqb-false _ _ (sym c.is_full.ensures ∙ c.if-is_full.false)) (omega (arith, (turn_inside c.loop-seen.g c.args.tokens _ _ c.goes_on.ensures c.loop-seen-test.true c.is_full.ensures c.if-is_full.false), c.requires.count)) _ (shown_read (lent c.args.columns.now) _ _ _ c.of-seen.ensures _ _ _ _ _ c.taken_at-taken.ensures) _ _ _ c.turn-g.ensures.0 c.spot_after-s.ensures)

pub shape_of-oscalars : goal.shape_of-oscalars
shape_of-oscalars c = (c.loop-seen.invariant.0 c.requires.roomy c.requires.regular).scalar

pub shape_of-oclasses : goal.shape_of-oclasses
shape_of-oclasses c = (c.loop-seen.invariant.0 c.requires.roomy c.requires.regular).class

pub shape_of-oclusters : goal.shape_of-oclusters
shape_of-oclusters c = (c.loop-seen.invariant.0 c.requires.roomy c.requires.regular).cluster

pub returns : goal.returns
returns c = goes_end _ _ _ _ _ _ c.requires.roomy c.requires.regular _ _ _ _ (c.loop-seen.invariant.0 c.requires.roomy c.requires.regular) _ _ _ c.requires.count c.goes_on.ensures c.loop-seen-test.false c.stand-2.ensures
