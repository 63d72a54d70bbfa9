use Rattle.exports.proofs.Given.state.Goals as goal

pub returns : goal.returns
returns c = simp (c.code.ensures, c.code-2.ensures)
