use Rattle.properties.proofs.Hits.{place_none, place_hit, place_gap}
use Rattle.properties.proofs.Fills.{lasts_rise}
use Rattle.properties.proofs.ranges.Rows.search.Goals as goal

pub place-at-requires : goal.place-at-requires
place-at-requires c = (c.requires.0.lasts_reach, lasts_rise _ _ _ c.requires.1)

pub returns-then-n-at : goal.returns-then-n-at
returns-then-n-at c = place_none _ _ _ _ _ _ c.place-at.ensures c.if-n-at.true

pub returns-then-self-at : goal.returns-then-self-at
returns-then-self-at c = place_hit _ _ _ _ _ _ c.place-at.ensures c.if-n-at.false c.if-self-at.true

pub returns-else-self-at : goal.returns-else-self-at
returns-else-self-at c = place_gap _ _ _ _ _ _ c.place-at.ensures c.if-n-at.false c.requires.1 c.if-self-at.false
