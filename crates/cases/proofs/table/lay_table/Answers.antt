use Rattle.std.proofs.Common.{tests}
use lib.ListN.{length}
use mathlib.Core.Path.{◌≡◌, refl}
use native.Mathlib.Omega.{arith}
use Rattle.cases.specs.Table.{table_to, kept_of}
use Rattle.cases.specs.Spans.{rest}
use Rattle.cases.proofs.Splits.{rest_more, count_bound}
use Rattle.cases.proofs.Laid.{kept_next, laid_next, none_kept, none_laid, all_kept, all_laid}
use borrow.Author.Rules.{rules}
use Rattle.cases.proofs.table.lay_table.Goals as goal

pub returns-then-is_empty : goal.returns-then-is_empty
returns-then-is_empty c = let z : length c.args.section.now ≡ 0 = search (rules, tests) in record { value = none_kept _ z; out_after = none_laid _ z _ }

pub overflow_add-end : goal.overflow_add-end
overflow_add-end c = let h = count_bound 32 _ _ c.count-end.ensures in search rules

pub loop-init : goal.loop-init
loop-init c = unfold rest table_to kept_of in (search rules, (refl, (refl, refl)))

pub loop-preserved : goal.loop-preserved
loop-preserved c = (search rules, (search rest_more, (search kept_next, search laid_next)))

pub returns : goal.returns
returns c =
    let z : length c.args.section.now ≡ 0 → ⊥ = search (rules, tests) in
    record { value = all_kept _ _ _ z c.count-end.ensures (omega arith) _ c.loop.invariant.1.1.0; out_after = all_laid _ _ _ z c.count-end.ensures (omega arith) _ _ c.loop.invariant.1.1.1 }
