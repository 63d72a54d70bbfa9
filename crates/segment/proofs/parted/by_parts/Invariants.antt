use Rattle.records.specs.Text.{lent}
use Rattle.stream.specs.Stream.{split_tokens}
use Rattle.tables.specs.Symbols.{Regular}
use Rattle.segment.specs.Inner.{Roomy}
use Rattle.segment.specs.Seen.{use_parser}
use Rattle.segment.proofs.Loops.{Goes, left}
use Rattle.segment.proofs.Partings.{Placed}
use Rattle.segment.proofs.parted.by_parts.Given as goal

abbrev pub invariant-loop-seen : goal.invariant-loop-seen
invariant-loop-seen l = ((r : Roomy (split_tokens l.mode l.khmer (lent l.columns)) l.initial.oscalars l.initial.oclasses l.initial.oclusters) (q : Regular (use_parser l.khmer) (split_tokens l.mode l.khmer (lent l.columns))) → Goes (use_parser l.khmer) l.mode (split_tokens l.mode l.khmer (lent l.columns)) l.initial.oscalars l.initial.oclasses l.initial.oclusters r q l.g l.oscalars l.oclasses l.oclusters)
    × Placed l.mode l.khmer (lent l.columns) l.g l.s

abbrev pub decreases-loop-seen : goal.decreases-loop-seen
decreases-loop-seen l = left l.tokens l.g
