use Rattle.segment.proofs.CallLaws.{by_parts, stream_simple, stream_myanmar, stream_complex, stream_khmer}
use Rattle.records.specs.Text.{lent}
use Rattle.segment.proofs.streams.tokens_of.Goals as goal

pub returns-in-Simple : goal.returns-in-Simple
returns-in-Simple c = by_parts _ _ (lent c.args.columns.now) _ _ _ _ (stream_simple _ _ _ c.in-Simple.is) c.fill.ensures.0

pub returns-in-Myanmar : goal.returns-in-Myanmar
returns-in-Myanmar c = by_parts _ _ (lent c.args.columns.now) _ _ _ _ (stream_myanmar _ _ _ c.in-Myanmar.is) c.fill-in-Myanmar.ensures.0

pub returns-in-Complex : goal.returns-in-Complex
returns-in-Complex c = by_parts _ _ (lent c.args.columns.now) _ _ _ _ (stream_complex _ _ _ c.in-Complex.is) c.collect.ensures.0

pub returns-in-Khmer : goal.returns-in-Khmer
returns-in-Khmer c = by_parts _ _ (lent c.args.columns.now) _ _ _ _ (stream_khmer _ _ _ c.in-Khmer.is) c.collect-in-Khmer.ensures.0
