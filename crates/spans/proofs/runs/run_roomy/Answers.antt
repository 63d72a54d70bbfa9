use native.Mathlib.Omega.{arith}
use Rattle.records.specs.Text.{lent}
use Rattle.segment.proofs.CallLaws.{fits_in}
use Rattle.spans.proofs.runs.run_roomy.Goals as goal

pub fill_within-requires : goal.fill_within-requires
fill_within-requires c = (omega arith, record { streamed = c.requires.streamed; fits = fits_in _ _ (lent c.args.columns.now) _ _ c.requires.streamed c.count_of.ensures c.if-count_of-le-SHORT.true; roomy = c.requires.roomy })
