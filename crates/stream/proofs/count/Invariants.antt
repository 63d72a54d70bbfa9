use Rattle.std.specs.Prelude.{◌≡◌, ◌≤◌, ◌+◌, ◌-◌, ◌*◌}
use Rattle.stream.specs.Stream.{count_from}
use Rattle.stream.proofs.count.Given as goal

abbrev pub invariant-loop-i : goal.invariant-loop-i
invariant-loop-i l =
    let left = count_from l.mode l.khmer l.columns.scalars.now l.columns.decomposes.now l.columns.counts.now in
    (l.sum ≤ 256 * l.i) × (l.sum + left l.i (l.n - l.i) ≡ left 0 l.n)
