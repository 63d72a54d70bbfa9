use mathlib.Core.Path.{◌∙◌}
use Rattle.exports.proofs.KeptIn.step.Goals as goal

pub returns : goal.returns
returns c = c.step.ensures ∙ simp (c.code-3.ensures, c.code-2.ensures, c.code.ensures, c.state.ensures)
