use Rattle.std.proofs.Common.{rules, tests}
use Rattle.cases.specs.Items.{field_of, cell_of}
use Rattle.cases.specs.Numbers.{most16}
use Rattle.cases.proofs.Filling.{filled_cells}
use native.Mathlib.Omega.{arith}
use Rattle.cases.proofs.columns.column16.Goals as goal

pub returns-clause-out_after : goal.returns-clause-out_after
unfolding cell_of
returns-clause-out_after c =
    (filled_cells (field_of 10 most16 c.args.k) _ _ _ _ _ (omega (arith, c.column.ensures.value)) (λ x r h. search (rules, tests)) c.column.ensures.written).1
