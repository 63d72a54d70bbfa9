use Rattle.exports.proofs.StateLaws.{step_told}
use Rattle.exports.specs.Lines.{line_judged}
use Rattle.exports.proofs.linesteps.tell_line.Goals as goal

pub returns-in_default : goal.returns-in_default
unfolding line_judged
returns-in_default c = step_told _ _ _ _ _ _ _ _ _ _ c.judge-verdict.ensures (rw c.in_default.is) c.numbered-n.ensures c.put.ensures

pub returns : goal.returns
unfolding line_judged
returns c = step_told _ _ _ _ _ _ _ _ _ _ c.judge-verdict.ensures (rw (c.in-Ok.is, c.from.ensures)) c.numbered-n.ensures c.put-2.ensures
