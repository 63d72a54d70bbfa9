use mathlib.Core.Path.{sym, ◌∙◌}
use Rattle.parse.proofs.Rules.{step_onto}
use Rattle.parse.proofs.Moves.{step_stays}
use Rattle.parse.proofs.Parse.step.Goals as goal

pub returns-then-on_joiner : goal.returns-then-on_joiner
returns-then-on_joiner c = step_onto _ _ _ _ c.moved-self.ensures (sym c.on_joiner.ensures ∙ c.if-on_joiner.true) c.accept_any_as-self.ensures

pub returns-else-on_joiner : goal.returns-else-on_joiner
returns-else-on_joiner c = step_stays _ _ _ c.moved-self.ensures (sym c.on_joiner.ensures ∙ c.if-on_joiner.false)
