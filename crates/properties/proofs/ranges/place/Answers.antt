use Prim.Native.Nat.{◌≤◌}
use mathlib.Core.Path.{◌≡◌}
use native.Mathlib.Omega.{arith}
use lib.Dec.{ltb}
use lib.ListN.{length, take}
use lib.Seq.{length-take-le}
use borrow.Author.Tests.{ltb-true, ltb-false}
use borrow.Author.Rules.{rules}
use Rattle.std.proofs.lemmas.List.Sorted.{IsPartitionPoint-from_clause, IsPartitionedBy-ltb}
use Rattle.properties.proofs.Orders.{first_cell, first_rise}
use Rattle.properties.proofs.ranges.place.Goals as goal

pub returns : goal.returns
returns c =
    let n = c.args.n in
    let lasts = c.args.lasts.now in
    let reach : length (take n lasts) ≡ n = length-take-le n lasts c.requires.0 in
    let most : c.partition_point.result ≤ n = omega (arith, reach, c.partition_point.ensures.bound) in
    let parted = IsPartitionedBy-ltb (λ x. x) _ c.args.scalar (first_rise lasts n c.requires.1 c.requires.0) in
    let point = IsPartitionPoint-from_clause (λ x. ltb x c.args.scalar) _ _ c.partition_point.ensures.partitioned parted (λ a r q k. search rules) in
    let read = first_cell lasts n c.requires.1 c.requires.0 in
    record { within = most; before = λ k h. omega (arith, ltb-true _ _ (point.0 k 0 (omega arith) h), read k 0 (omega arith)); after = λ k a b. omega (arith, ltb-false _ _ (point.1 k 0 a (omega (arith, reach))), read k 0 b) }
