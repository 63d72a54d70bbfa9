use Rattle.lines.proofs.RunLaws.{word_run_passes, run_whole}
use Rattle.lines.proofs.run.Goals as goal

pub returns-in_err-run-clause-value : goal.returns-in_err-run-clause-value
returns-in_err-run-clause-value c =
    let passes = word_run_passes _ _ _ _ _ _ _ c.check.ensures c.judge_room.ensures c.in_ok-judge_room.was in
    cc (passes, c.run.ensures.value, c.in_err-run.was)

pub returns-in_err-run-clause-out_after : goal.returns-in_err-run-clause-out_after
returns-in_err-run-clause-out_after c =
    let passes = word_run_passes _ _ _ _ _ _ _ c.check.ensures c.judge_room.ensures c.in_ok-judge_room.was in
    cc (passes, c.run.ensures.value, c.in_err-run.was)

pub returns-clause-out_after : goal.returns-clause-out_after
returns-clause-out_after c = run_whole _ _ _ _ _ _ _ c.check.ensures c.judge_room.ensures c.in_ok-judge_room.was _ _ _ c.run.ensures.out_after c.lay.ensures
