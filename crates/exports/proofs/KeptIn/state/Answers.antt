use Rattle.exports.proofs.KeptIn.state.Goals as goal

pub returns : goal.returns
returns c = simp c.state.ensures
