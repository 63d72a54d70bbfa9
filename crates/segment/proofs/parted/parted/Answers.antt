use Rattle.records.specs.Text.{lent}
use Rattle.segment.proofs.CallTurns.{run_starts}
use Rattle.segment.proofs.Partings.{apart, parts_reached, parting_as, reached_by}
use mathlib.Core.Bool.{true, false}
use Rattle.segment.proofs.parted.parted.Goals as goal

pub by_parts-requires : goal.by_parts-requires
by_parts-requires c = apart false _ (lent c.args.columns.now) _ _ _ _ (parting_as _ _ c.in-Complex.is _ (lent c.args.columns.now) _ _ _ _ c.requires)

pub by_parts-requires-in-Khmer : goal.by_parts-requires-in-Khmer
by_parts-requires-in-Khmer c = apart true _ (lent c.args.columns.now) _ _ _ _ (parting_as _ _ c.in-Khmer.is _ (lent c.args.columns.now) _ _ _ _ c.requires)

pub returns-in-Simple : goal.returns-in-Simple
returns-in-Simple c = run_starts _ _ _ _ _ _

pub returns-in-Complex : goal.returns-in-Complex
returns-in-Complex c = reached_by _ _ c.in-Complex.is _ (lent c.args.columns.now) _ _ _ _ _ _ _ (parts_reached false _ (lent c.args.columns.now) _ _ _ _ _ _ _ c.by_parts.ensures)

pub returns-in-Khmer : goal.returns-in-Khmer
returns-in-Khmer c = reached_by _ _ c.in-Khmer.is _ (lent c.args.columns.now) _ _ _ _ _ _ _ (parts_reached true _ (lent c.args.columns.now) _ _ _ _ _ _ _ c.by_parts-in-Khmer.ensures)
