use Rattle.segment.proofs.Loops.{goes_start, goes_refill, goes_end, is_filled, refill_falls, goes_facing, goes_writable, goes_seen, goes_left, seen_falls}
use mathlib.Core.Path.{refl, ◌∙◌, ap}
use native.Mathlib.Omega.{arith}
use Rattle.segment.specs.Going.{goes_on}
use Rattle.segment.proofs.way.by_table.Goals as goal

pub loop-mode-init : goal.loop-mode-init
loop-mode-init g c = λ r q. goes_start _ _ _ _ _ _ r q

pub refill-g-requires : goal.refill-g-requires
refill-g-requires g c =
    let w = c.loop-mode.invariant c.requires.1.1 c.requires.1.0 in
    (w.begun (is_filled c.loop-mode.g _ c.is_full.ensures c.if-is_full.true), omega (arith, w.low, w.inside, c.requires.1.1.short))

pub loop-mode-smaller-then-is_full : goal.loop-mode-smaller-then-is_full
loop-mode-smaller-then-is_full g c = refill_falls _ _ _ _ (is_filled c.loop-mode.g _ c.is_full.ensures c.if-is_full.true) c.refill-g.ensures

pub loop-mode-preserved-then-is_full : goal.loop-mode-preserved-then-is_full
loop-mode-preserved-then-is_full g c = λ r q. goes_refill _ _ _ _ _ _ r q _ _ _ _ (c.loop-mode.invariant r q) _ (is_filled c.loop-mode.g _ c.is_full.ensures c.if-is_full.true) c.refill-g.ensures

pub look-look-requires : goal.look-look-requires
look-look-requires g c = (c.requires.0, goes_facing _ _ _ _ _ _ c.requires.1.1 c.requires.1.0 _ _ _ _ (c.loop-mode.invariant c.requires.1.1 c.requires.1.0) _ _ (c.goes_on.ensures ∙ ap (goes_on c.loop-mode.g) c.count-n.ensures) c.loop-mode-test.true c.is_full.ensures c.if-is_full.false)

pub shape_of-oscalars-then-gives_up : goal.shape_of-oscalars-then-gives_up
shape_of-oscalars-then-gives_up g c = (c.loop-mode.invariant c.requires.1.1 c.requires.1.0).scalar

pub shape_of-oclasses-then-gives_up : goal.shape_of-oclasses-then-gives_up
shape_of-oclasses-then-gives_up g c = (c.loop-mode.invariant c.requires.1.1 c.requires.1.0).class

pub shape_of-oclusters-then-gives_up : goal.shape_of-oclusters-then-gives_up
shape_of-oclusters-then-gives_up g c = (c.loop-mode.invariant c.requires.1.1 c.requires.1.0).cluster

pub returns-then-gives_up : goal.returns-then-gives_up
returns-then-gives_up g c = goes_left _ _ _ _ _ _ c.requires.1.1 c.requires.1.0 _ _ _ _ (c.loop-mode.invariant c.requires.1.1 c.requires.1.0) _ _ (c.goes_on.ensures ∙ ap (goes_on c.loop-mode.g) c.count-n.ensures) c.loop-mode-test.true c.is_full.ensures c.if-is_full.false _ c.look-look.ensures _ _ c.gives_up.ensures c.if-gives_up.true c.stand.ensures

pub turn-g-requires : goal.turn-g-requires
turn-g-requires g c = goes_writable _ _ _ _ _ _ c.requires.1.1 c.requires.1.0 _ _ _ _ (c.loop-mode.invariant c.requires.1.1 c.requires.1.0) _ _ (c.goes_on.ensures ∙ ap (goes_on c.loop-mode.g) c.count-n.ensures) c.loop-mode-test.true c.is_full.ensures c.if-is_full.false

pub loop-mode-smaller : goal.loop-mode-smaller
loop-mode-smaller g c = rw c.count-n.ensures (seen_falls _ _ _ _ _ _ c.requires.1.1 c.requires.1.0 _ _ _ _ (c.loop-mode.invariant c.requires.1.1 c.requires.1.0) _ _ (c.goes_on.ensures ∙ ap (goes_on c.loop-mode.g) c.count-n.ensures) c.loop-mode-test.true c.is_full.ensures c.if-is_full.false _ c.look-look.ensures _ _ c.gives_up.ensures c.if-gives_up.false c.turn-g.ensures.0)

pub loop-mode-preserved : goal.loop-mode-preserved
loop-mode-preserved g c = λ r q. goes_seen _ _ _ _ _ _ r q _ _ _ _ (c.loop-mode.invariant r q) _ _ (c.goes_on.ensures ∙ ap (goes_on c.loop-mode.g) c.count-n.ensures) c.loop-mode-test.true c.is_full.ensures c.if-is_full.false _ c.look-look.ensures _ _ _ _ refl refl refl c.turn-g.ensures.0 c.turn-g.ensures.1

pub shape_of-oscalars : goal.shape_of-oscalars
shape_of-oscalars g c = (c.loop-mode.invariant c.requires.1.1 c.requires.1.0).scalar

pub shape_of-oclasses : goal.shape_of-oclasses
shape_of-oclasses g c = (c.loop-mode.invariant c.requires.1.1 c.requires.1.0).class

pub shape_of-oclusters : goal.shape_of-oclusters
shape_of-oclusters g c = (c.loop-mode.invariant c.requires.1.1 c.requires.1.0).cluster

pub returns : goal.returns
returns g c = goes_end _ _ _ _ _ _ c.requires.1.1 c.requires.1.0 _ _ _ _ (c.loop-mode.invariant c.requires.1.1 c.requires.1.0) _ _ _ c.count-n.ensures c.goes_on.ensures c.loop-mode-test.false c.stand-2.ensures
