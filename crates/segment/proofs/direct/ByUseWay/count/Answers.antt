use Rattle.segment.proofs.Ways.{seen_count}
use Rattle.segment.proofs.direct.ByUseWay.count.Goals as goal

pub returns : goal.returns
returns g c = seen_count c.args.self.now.seen
