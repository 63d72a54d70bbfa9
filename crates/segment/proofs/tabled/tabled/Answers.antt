use native.Mathlib.Omega.{arith}
use Rattle.segment.proofs.Standings.{still_roomy, onward_from}
use Rattle.segment.proofs.tabled.tabled.Goals as goal

pub returns-then-from-gt0 : goal.returns-then-from-gt0
returns-then-from-gt0 c = λ s₀ c₀ n₀ r q. q

pub by_tokens-requires : goal.by_tokens-requires
by_tokens-requires c = still_roomy _ _ _ _ _ _ _ c.requires

pub by_tokens-requires-in-Khmer : goal.by_tokens-requires-in-Khmer
by_tokens-requires-in-Khmer c = still_roomy _ _ _ _ _ _ _ c.requires

pub returns-in-Simple : goal.returns-in-Simple
returns-in-Simple c = λ s₀ c₀ n₀ r q. q

pub returns-in-Complex : goal.returns-in-Complex
returns-in-Complex c = onward_from _ _ _ _ _ _ _ _ _ _ _ _ c.in-Complex.is (omega (arith, c.if-from-gt0.false)) c.by_tokens.ensures

pub returns-in-Khmer : goal.returns-in-Khmer
returns-in-Khmer c = onward_from _ _ _ _ _ _ _ _ _ _ _ _ c.in-Khmer.is (omega (arith, c.if-from-gt0.false)) c.by_tokens-in-Khmer.ensures
