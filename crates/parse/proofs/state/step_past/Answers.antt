use mathlib.Core.Path.{◌∙◌, ap}
use Rattle.token.specs.Token.{scalar_of}
use Rattle.parse.proofs.Joiners.{past_on, past_here, past_full}
use Rattle.parse.proofs.state.step_past.Goals as goal

pub returns-then-scalar-ne-CGJ : goal.returns-then-scalar-ne-CGJ
returns-then-scalar-ne-CGJ c = past_here _ _ _ _ _ _ c.place_after-next.ensures (c.scalar.ensures ∙ ap scalar_of c.token_at.ensures) c.loop-len-test.true c.if-scalar-ne-CGJ.true ∙ c.loop-len.invariant

pub loop-len-preserved : goal.loop-len-preserved
loop-len-preserved c = past_on _ _ _ _ _ _ c.place_after-next.ensures (c.scalar.ensures ∙ ap scalar_of c.token_at.ensures) c.loop-len-test.true c.if-scalar-ne-CGJ.false ∙ c.loop-len.invariant

pub returns : goal.returns
returns c = past_full _ _ _ _ c.loop-len-test.false ∙ c.loop-len.invariant
