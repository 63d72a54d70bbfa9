use mathlib.Core.Path.{◌∙◌}
use Rattle.exports.proofs.Given.step.Goals as goal

pub returns : goal.returns
returns c = c.step.ensures ∙ simp (c.next_in.ensures, c.code-2.ensures, c.code.ensures, c.state.ensures)
