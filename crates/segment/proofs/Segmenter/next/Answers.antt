use Rattle.segment.proofs.CallLaws.{next_accepted, next_refused}
use Rattle.segment.proofs.Segmenter.next.Goals as goal

pub returns-in-Ok : goal.returns-in-Ok
returns-in-Ok c = next_accepted _ _ _ _ c.check.ensures c.in-Ok.is c.next_accepted.ensures

pub returns-in-Err : goal.returns-in-Err
returns-in-Err c = next_refused _ _ _ _ _ c.check.ensures c.in-Err.is c.refused.ensures
