use Rattle.exports.proofs.PropertyLaws.{read_tight, read_outside, read_listed}
use Rattle.properties.specs.Ranges.{ranges}
use mathlib.Core.Path.{refl}
use Rattle.exports.proofs.ezh_read_properties.Goals as goal

pub returns-then-results-lt-READ_ROOM : goal.returns-then-results-lt-READ_ROOM
returns-then-results-lt-READ_ROOM c = read_tight _ _ (ranges _ _ _ _) _ c.if-results-lt-READ_ROOM.true

pub returns-in_default : goal.returns-in_default
returns-in_default c = read_outside _ _ (ranges _ _ _ _) _ _ c.which_by.ensures _ _ _ c.if-results-lt-READ_ROOM.false c.tell_read.ensures _ c.in_default.is c.unlisted.ensures refl

pub returns : goal.returns
returns c = read_listed _ _ (ranges _ _ _ _) _ _ c.which_by.ensures _ _ _ c.if-results-lt-READ_ROOM.false c.tell_read-2.ensures _ _ _ _ c.in-Some.is c.read-filled.ensures
