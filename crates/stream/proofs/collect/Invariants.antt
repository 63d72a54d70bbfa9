use Rattle.records.specs.Text.{lent}
use Rattle.stream.specs.Stream.{source_of, splits_of}
use Rattle.stream.proofs.Stream.{Collecting}
use lib.ListN.{length}
use Prim.Native.Nat.{◌-◌}
use Rattle.stream.proofs.collect.Given as goal

abbrev pub invariant-loop-i : goal.invariant-loop-i
invariant-loop-i l = Collecting l.mode l.khmer (source_of (lent l.columns).records (lent l.columns).records.uses (lent l.columns).records.cemojis) (splits_of (lent l.columns).records) (lent l.columns).parts l.n l.initial.out l.out l.filled l.i l.k

abbrev pub decreases-loop-i : goal.decreases-loop-i
decreases-loop-i l = length l.initial.out - l.filled
