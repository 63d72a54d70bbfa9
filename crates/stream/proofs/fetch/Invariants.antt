use Rattle.std.specs.Prelude.{◌≡◌, ◌-◌}
use Rattle.stream.specs.Stream.{fetch_in}
use Rattle.stream.proofs.fetch.Given as goal

abbrev pub invariant-loop-j : goal.invariant-loop-j
invariant-loop-j l =
    let fetched = fetch_in l.mode (l.n - l.j) l.columns.decomposes.now l.columns.counts.now l.j in
    fetched ≡ fetch_in l.mode (l.n - l.i) l.columns.decomposes.now l.columns.counts.now l.i

abbrev pub decreases-loop-j : goal.decreases-loop-j
decreases-loop-j l = l.n - l.j
