use mathlib.Core.Path.{refl, sym}
use Rattle.parse.proofs.Joiners.{left_turn, left_falls, left_over}
use Rattle.parse.proofs.Parse.push.Goals as goal

pub loop-self-init : goal.loop-self-init
loop-self-init c = (refl, sym c.last_pushed-last.ensures)

pub loop-self-smaller : goal.loop-self-smaller
loop-self-smaller c = search left_falls

pub loop-self-preserved : goal.loop-self-preserved
loop-self-preserved c = search left_turn

pub returns : goal.returns
returns c = search left_over
