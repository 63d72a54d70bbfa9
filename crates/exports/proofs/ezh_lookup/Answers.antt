use Rattle.exports.proofs.PropertyLaws.{lookup_tight, lookup_told}
use Rattle.properties.specs.Ranges.{ranges}
use Rattle.exports.proofs.ezh_lookup.Goals as goal

pub returns-then-results-lt-CHECK_ROOM : goal.returns-then-results-lt-CHECK_ROOM
returns-then-results-lt-CHECK_ROOM c = lookup_tight _ (ranges _ _ _ _) (ranges _ _ _ _) _ _ _ c.if-results-lt-CHECK_ROOM.true

pub returns : goal.returns
returns c = lookup_told _ (ranges _ _ _ _) (ranges _ _ _ _) _ _ _ _ _ _ _ _ c.if-results-lt-CHECK_ROOM.false c.lookup.ensures.value c.lookup.ensures.breaks_after c.lookup.ensures.words_after c.tell.ensures
