use borrow.Author.Rules.{rules}
use native.Mathlib.Omega.{arith}
use Rattle.uax29.proofs.ClustersSides.{there, many_found, many_ends, many_turns}
use Rattle.uax29.proofs.clusters.Place.is_extended_before.Goals.{then-loop-place-test+else-not-is_pictograph_before, else-loop-place-test}
use Rattle.uax29.proofs.clusters.Place.is_extended_before.Goals as goal

pub overflow_sub-place : goal.overflow_sub-place
overflow_sub-place c = search (there, rules)

pub loop-place-smaller : goal.loop-place-smaller
loop-place-smaller c = omega (arith, there _ _ _ _ _ c.before_is.ensures c.loop-place-test.true)

pub loop-place-preserved : goal.loop-place-preserved
loop-place-preserved c = search many_turns

pub returns : goal.returns
returns c =
    elim c.loop-place-test.branch [
      | then-loop-place-test+else-not-is_pictograph_before w ↦ let h = w.if-not-is_pictograph_before.false in search many_found
      | else-loop-place-test w ↦ search many_ends
    ]
