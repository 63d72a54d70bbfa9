use Rattle.exports.proofs.StateLaws.{judged_by, step_told}
use Rattle.exports.specs.Editions.{edition_judged}
use Rattle.exports.proofs.editionsteps.tell_edition.Goals as goal

pub returns-in_default : goal.returns-in_default
unfolding edition_judged
returns-in_default c = step_told _ _ _ _ _ _ _ _ _ _ (judged_by _ _ _ _ c.judge-verdict.ensures c.is_bad.ensures) (rw c.in_default.is) c.numbered-n.ensures c.put.ensures

pub returns : goal.returns
unfolding edition_judged
returns c = step_told _ _ _ _ _ _ _ _ _ _ (judged_by _ _ _ _ c.judge-verdict.ensures c.is_bad.ensures) (rw (c.in-Ok.is, c.mark.ensures, c.mark-2.ensures, c.mark-3.ensures, c.mark-4.ensures, c.mark-5.ensures)) c.numbered-n.ensures c.put-2.ensures
