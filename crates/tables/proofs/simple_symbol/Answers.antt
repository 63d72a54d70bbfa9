use Rattle.tables.proofs.Cited.{rare_made, plain_made}
use native.Mathlib.Omega.{arith}
use Rattle.tables.proofs.simple_symbol.Goals as goal

pub returns-then-kind-eq10 : goal.returns-then-kind-eq10
returns-then-kind-eq10 c = (rare_made _ _ _ _ _ _ _ c.kind-kind.ensures c.emoji-emoji.ensures c.scalar.ensures c.special_of-x.ensures.0 c.selector.ensures c.simple_in.ensures.0, c.simple_in.ensures.1)

pub returns : goal.returns
returns c = (plain_made _ _ _ c.kind-kind.ensures c.emoji-emoji.ensures c.if-kind-eq10.false, omega (arith, c.kind-kind.ensures, c.emoji-emoji.ensures))
