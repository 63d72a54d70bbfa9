use Rattle.lines.proofs.NextArms.{next_passed}
use Rattle.lines.proofs.BoundaryState.next.Goals as goal

pub returns-in-Ok : goal.returns-in-Ok
returns-in-Ok c = search next_passed
