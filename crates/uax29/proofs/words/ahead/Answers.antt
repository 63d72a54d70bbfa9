use mathlib.Core.Path.{sym, ◌∙◌}
use native.Mathlib.Omega.{arith}
use Rattle.uax29.proofs.WordsWalk.{ahead_here, ahead_passes, ahead_none}
use Rattle.uax29.proofs.words.ahead.Goals as goal

pub loop-i-preserved : goal.loop-i-preserved
loop-i-preserved c = sym (ahead_passes _ _ (omega arith) (sym c.is_ignored.ensures ∙ c.if-not-is_ignored.false)) ∙ c.loop-i.invariant

pub returns-then-not-is_ignored : goal.returns-then-not-is_ignored
returns-then-not-is_ignored c = sym (ahead_here _ _ (omega arith) (sym c.is_ignored.ensures ∙ c.if-not-is_ignored.true)) ∙ c.loop-i.invariant

pub returns : goal.returns
returns c = sym (ahead_none _ _ (omega arith)) ∙ c.loop-i.invariant
