use mathlib.Core.Path.{sym, ◌∙◌}
use Rattle.records.proofs.Accepted.{accepted_sound}
use Rattle.segment.proofs.Outcomes.{ran_accepted, ran_refused}
use Rattle.segment.proofs.run.Goals as goal

pub run_accepted-requires : goal.run_accepted-requires
run_accepted-requires c = accepted_sound _ _ (sym c.check.ensures ∙ c.in-Ok.is)

pub returns-in-Ok : goal.returns-in-Ok
returns-in-Ok c = ran_accepted _ _ _ _ _ _ _ _ c.check.ensures _ _ _ c.in-Ok.is (λ w. c.run_accepted.ensures)

pub returns-in-Err : goal.returns-in-Err
returns-in-Err c = ran_refused _ _ _ _ _ _ _ _ c.check.ensures _ c.in-Err.is c.refused.ensures
