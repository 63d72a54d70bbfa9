use Rattle.stream.proofs.Stream.{kept_all, kept_more, rest_all, fill_done, fill_more}
use lib.ListN.{length-set}
use mathlib.Core.Path.{refl, sym, ◌∙◌}
use native.Mathlib.Omega.{arith}
use Rattle.stream.proofs.fill.Goals as goal

pub loop-i-init : goal.loop-i-init
loop-i-init c = (kept_all _, (refl, sym (rest_all _ _)))

pub loop-i-preserved : goal.loop-i-preserved
loop-i-preserved c = (
  kept_more _ _ _ _ c.loop-i.invariant.0,
  (
    length-set _ _ _ ∙ c.loop-i.invariant.1.0,
    fill_more _ _ _ _ _ c.loop-i.invariant.1.1 (omega (arith, c.min-tokens.ensures)) (omega (arith, c.min-tokens.ensures)) (c.own_token.ensures ∙ simp c.cell.ensures),
  ),
)

pub returns : goal.returns
returns c = fill_done _ _ _ _ _ _ c.loop-i.invariant.1.0 c.loop-i.invariant.1.1 c.loop-i.invariant.0 c.min-tokens.ensures c.loop-i-test.false c.loop-i.auto.i-end
