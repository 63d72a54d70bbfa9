use Rattle.exports.proofs.linesteps.line_state.Goals as goal

pub returns : goal.returns
returns c = simp (c.previous_in.ensures, c.code.ensures)
