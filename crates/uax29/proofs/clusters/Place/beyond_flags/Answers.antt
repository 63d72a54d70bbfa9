use native.Mathlib.Omega.{arith}
use borrow.Author.Rules.{rules}
use Rattle.uax29.proofs.ClustersSides.{pair_there, pair_ends, pair_turns}
use Rattle.uax29.proofs.clusters.Place.beyond_flags.Goals as goal

pub overflow_sub-place : goal.overflow_sub-place
overflow_sub-place c = search (pair_there, rules)

pub loop-place-smaller : goal.loop-place-smaller
loop-place-smaller c = omega (arith, pair_there _ _ _ _ _ c.loop-place.invariant _ c.is_flag_before.ensures c.loop-place-test.true)

pub loop-place-preserved : goal.loop-place-preserved
loop-place-preserved c = search pair_turns

pub returns : goal.returns
returns c = search pair_ends
