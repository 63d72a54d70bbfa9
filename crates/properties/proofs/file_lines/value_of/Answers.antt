use Rattle.properties.proofs.Grammar.{next_within, valued}
use native.Mathlib.Omega.{arith}
use borrow.Author.Rules.{rules}
use Rattle.properties.proofs.file_lines.value_of.Goals as goal

pub slice_bounds-trim-count : goal.slice_bounds-trim-count
slice_bounds-trim-count c = omega (arith, next_within _ _ c.next_of.ensures)

pub slice_bounds-trim-start : goal.slice_bounds-trim-start
slice_bounds-trim-start c = omega (arith, next_within _ _ c.next_of.ensures)

pub slice_bounds-trim-end : goal.slice_bounds-trim-end
slice_bounds-trim-end c = search rules

pub returns : goal.returns
returns c = valued _ _ c.next_of.ensures _ c.trim.ensures
