use Rattle.std.proofs.Common.{tests}
use native.Mathlib.Omega.{arith}
use lib.ListN.{length}
use Rattle.basics.specs.Sets.{every}
use Rattle.cases.proofs.Fields.{none_counted, items_more, items_fail, items_all}
use Rattle.cases.proofs.Splits.{rest_more, count_bound}
use Rattle.cases.specs.Spans.{rest}
use mathlib.Core.Path.{◌≡◌, refl}
use borrow.Author.Rules.{rules}
use Rattle.cases.proofs.items.count_items.Goals as goal

pub returns-then-is_empty : goal.returns-then-is_empty
returns-then-is_empty c = let z : length c.args.section.now ≡ 0 = search (rules, tests) in none_counted _ _ z

pub overflow_add-end : goal.overflow_add-end
overflow_add-end c = let h = count_bound 32 _ _ c.count-last.ensures in search rules

pub loop-init : goal.loop-init
loop-init c = unfold rest every in (refl, refl)

pub loop-preserved : goal.loop-preserved
loop-preserved c = (search rest_more, search items_more)

pub returns-then-not-is_item : goal.returns-then-not-is_item
returns-then-not-is_item c =
    let z : length c.args.section.now ≡ 0 → ⊥ = search (rules, tests) in
    items_fail _ _ _ c.loop.at c.loop.invariant.0 _ c.span_at.ensures _ c.is_item.ensures z _ c.count-last.ensures (omega arith) c.if-not-is_item.true

pub returns : goal.returns
returns c =
    let z : length c.args.section.now ≡ 0 → ⊥ = search (rules, tests) in
    items_all _ _ _ _ z c.count-last.ensures (omega arith) c.loop.invariant.1 _ c.item_count.ensures
