use native.Mathlib.Omega.{arith}
use Rattle.records.specs.Text.{lent}
use Rattle.segment.proofs.CallLaws.{fits_in}
use Rattle.spans.proofs.arrays.spans_at.Goals as goal

pub spans_within-requires : goal.spans_within-requires
spans_within-requires c = (omega arith, record { streamed = c.requires.streamed; fits = fits_in _ _ (lent c.args.columns.now) _ _ c.requires.streamed c.count_of.ensures c.if-count_of-le-SHORT.true; most = c.requires.most; cells = c.requires.cells; near = c.requires.near })
