use Rattle.std.specs.Prelude.{refl}
use mathlib.Core.Path.{◌∙◌}
use Rattle.stream.proofs.Stream.{fetch_next, fetch_here, fetch_over}
use Rattle.stream.proofs.fetch.Goals as goal

pub loop-j-preserved : goal.loop-j-preserved
loop-j-preserved c = fetch_next _ _ _ _ _ _ _ _ c.cell.ensures c.cell-in-loop-j.ensures c.gives_none.ensures c.loop-j-test.true _ c.if-gives_none.true refl ∙ c.loop-j.invariant

pub returns-else-gives_none : goal.returns-else-gives_none
returns-else-gives_none c = fetch_here _ _ _ _ _ _ _ _ c.cell.ensures c.cell-in-loop-j.ensures c.gives_none.ensures c.loop-j-test.true c.if-gives_none.false ∙ c.loop-j.invariant

pub returns-after-loop-j : goal.returns-after-loop-j
returns-after-loop-j c = fetch_over _ _ _ _ _ c.loop-j-test.false ∙ c.loop-j.invariant
