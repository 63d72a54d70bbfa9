use Rattle.tables.specs.Symbols.{Regular}
use Rattle.segment.specs.Inner.{Roomy}
use Rattle.segment.proofs.Loops.{Goes, left}
use Rattle.segment.proofs.way.by_table.Given as goal

abbrev pub invariant-loop-mode : goal.invariant-loop-mode
invariant-loop-mode g l =
    (r : Roomy (g.W.Way.tokens l.way) l.initial.oscalars l.initial.oclasses l.initial.oclusters) (q : Regular (g.W.Way.parser l.way) (g.W.Way.tokens l.way))
    → Goes (g.W.Way.parser l.way) l.mode (g.W.Way.tokens l.way) l.initial.oscalars l.initial.oclasses l.initial.oclusters r q l.g l.oscalars l.oclasses l.oclusters

abbrev pub decreases-loop-mode : goal.decreases-loop-mode
decreases-loop-mode g l = left l.n l.g
