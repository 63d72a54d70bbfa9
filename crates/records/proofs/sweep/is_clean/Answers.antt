use borrow.Author.Tests.{ltb-true}
use Rattle.records.proofs.Marks.{clean_accepted}
use Rattle.records.proofs.sweep.is_clean.Goals as goal

pub returns-then-class-len : goal.returns-then-class-len
returns-then-class-len c = λ e.
    clean_accepted _ _ _ _ _ _ c.if-classes-gt-MOST.false c.if-marks-classes.false c.loop-i.invariant.0 c.loop-i.invariant.1 c.loop-i-test.false
    c.if-class-len.true (ltb-true _ _ e)
