use Rattle.records.specs.Text.{lent}
use Rattle.segment.proofs.Standings.{ready_direct, begun_direct}
use Rattle.segment.proofs.runs.begin.Goals as goal

pub direct-requires : goal.direct-requires
direct-requires c = ready_direct _ _ (lent c.args.columns.now) _ _ _ (c.requires.known.direct c.if-task.true) c.requires.known.sound c.requires.roomy

pub returns-then-task : goal.returns-then-task
returns-then-task c = begun_direct _ _ _ _ _ _ _ _ (lent c.args.columns.now) (c.requires.known.direct c.if-task.true) _ c.direct.ensures
