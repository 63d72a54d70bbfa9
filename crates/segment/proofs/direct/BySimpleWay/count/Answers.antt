use Rattle.segment.proofs.Ways.{seen_count}
use Rattle.segment.proofs.direct.BySimpleWay.count.Goals as goal

pub returns : goal.returns
returns c = seen_count c.args.self.now.seen
