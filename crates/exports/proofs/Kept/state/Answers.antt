use Rattle.exports.proofs.Kept.state.Goals as goal

pub returns : goal.returns
returns c = simp c.code.ensures
