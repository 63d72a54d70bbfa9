use mathlib.Core.Path.{◌∙◌}
use Rattle.exports.proofs.linesteps.line_from.Goals as goal

pub returns : goal.returns
returns c = c.line_for.ensures ∙ simp (c.code.ensures, c.line_state.ensures)
