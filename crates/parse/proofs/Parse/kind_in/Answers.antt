use mathlib.Core.Path.{◌∙◌}
use Rattle.parse.proofs.Rules.{one_listed}
use Rattle.parse.proofs.Parse.kind_in.Goals as goal

pub returns-then-going : goal.returns-then-going
returns-then-going g c = one_listed c.args.text.now c.args.self _ _ _ _ c.going.ensures c.if-going.true (c.kind.ensures ∙ simp c.current.ensures) c.contains.ensures.value
