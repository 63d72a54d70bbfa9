use Rattle.exports.proofs.Refusals.{told_by}
use mathlib.Core.Path.{refl}
use Rattle.exports.proofs.results.tell_read.Goals as goal

pub returns : goal.returns
returns c = told_by _ _ _ _ _ _ _ _ refl c.numbered-n.ensures c.put.ensures
