use borrow.Author.Rules.{rules}
use Rattle.uax29.specs.Clusters.{decide, GB1, GB2, GB3, GB4, GB5, GB6, GB7, GB8, GB9, GB9a, GB9b, GB11, GB12, GB13}
use Rattle.uax29.proofs.clusters.Place.is_boundary.Goals.{then-gb1-via-then-gb1, then-gb1-via-else-gb1+then-gb2, then-gb4-via-then-gb4, then-gb4-via-else-gb4+then-gb5, then-gb6-via-then-gb6, then-gb6-via-else-gb6+then-gb7, then-gb6-via-else-gb6+else-gb7+then-gb8, then-gb9-via-then-gb9, then-gb9-via-else-gb9+then-gb9a, then-gb9-via-else-gb9+else-gb9a+then-gb9b, then-gb11-via-then-gb11, then-gb11-via-else-gb11+then-gb12, then-gb11-via-else-gb11+else-gb12+then-gb13}
use Rattle.uax29.proofs.clusters.Place.is_boundary.Goals as goal

pub returns-then-gb1 : goal.returns-then-gb1
returns-then-gb1 c = unfold decide GB1 GB2 GB3 GB4 GB5 GB6 GB7 GB8 GB9 GB9a GB9b GB11 GB12 GB13 in elim c.then-gb1.branch [ then-gb1-via-then-gb1 w ↦ search rules | then-gb1-via-else-gb1+then-gb2 w ↦ search rules ]

pub returns-then-gb4 : goal.returns-then-gb4
returns-then-gb4 c = unfold decide GB1 GB2 GB3 GB4 GB5 GB6 GB7 GB8 GB9 GB9a GB9b GB11 GB12 GB13 in elim c.then-gb4.branch [ then-gb4-via-then-gb4 w ↦ search rules | then-gb4-via-else-gb4+then-gb5 w ↦ search rules ]

pub returns-then-gb6 : goal.returns-then-gb6
returns-then-gb6 c = unfold decide GB1 GB2 GB3 GB4 GB5 GB6 GB7 GB8 GB9 GB9a GB9b GB11 GB12 GB13 in elim c.then-gb6.branch [ then-gb6-via-then-gb6 w ↦ search rules | then-gb6-via-else-gb6+then-gb7 w ↦ search rules | then-gb6-via-else-gb6+else-gb7+then-gb8 w ↦ search rules ]

pub returns-then-gb9 : goal.returns-then-gb9
returns-then-gb9 c = unfold decide GB1 GB2 GB3 GB4 GB5 GB6 GB7 GB8 GB9 GB9a GB9b GB11 GB12 GB13 in elim c.then-gb9.branch [ then-gb9-via-then-gb9 w ↦ search rules | then-gb9-via-else-gb9+then-gb9a w ↦ search rules | then-gb9-via-else-gb9+else-gb9a+then-gb9b w ↦ search rules ]

pub returns-then-gb11 : goal.returns-then-gb11
returns-then-gb11 c = unfold decide GB1 GB2 GB3 GB4 GB5 GB6 GB7 GB8 GB9 GB9a GB9b GB11 GB12 GB13 in elim c.then-gb11.branch [ then-gb11-via-then-gb11 w ↦ search rules | then-gb11-via-else-gb11+then-gb12 w ↦ search rules | then-gb11-via-else-gb11+else-gb12+then-gb13 w ↦ search rules ]

pub returns-then-gb3 : goal.returns-then-gb3
returns-then-gb3 c = unfold decide GB1 GB2 GB3 in search rules
