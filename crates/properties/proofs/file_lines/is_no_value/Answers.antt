use Rattle.std.proofs.Common.{rules, tests}
use Rattle.std.proofs.lemmas.Iterator.{YieldsList-from_slice}
use Rattle.std.proofs.lemmas.Iterator.Search.{any_from_yields_List}
use Rattle.properties.specs.Lines.{is_between}
use Rattle.properties.proofs.Grammar.{value_none, value_by}
use Rattle.properties.proofs.file_lines.is_no_value.Goals as goal

pub returns-then-is_empty : goal.returns-then-is_empty
returns-then-is_empty c = value_none _ _ c.is_empty.ensures c.if-is_empty.true

pub returns-else-is_empty : goal.returns-else-is_empty
returns-else-is_empty c = value_by _ _ _ c.is_empty.ensures c.if-is_empty.false (any_from_yields_List is_between _ _ _ c.any.ensures.ran (YieldsList-from_slice c.args.value.now cc) (λ x b q k. search (rules, tests)))
