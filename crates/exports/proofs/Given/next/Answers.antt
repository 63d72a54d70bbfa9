use mathlib.Core.Path.{◌∙◌}
use Rattle.exports.proofs.Given.next.Goals as goal

pub returns : goal.returns
returns c = c.next_for.ensures ∙ simp (c.next_in.ensures, c.code-3.ensures, c.code-2.ensures, c.code.ensures, c.state.ensures, c.line_state.ensures)
