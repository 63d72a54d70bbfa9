use Rattle.properties.proofs.Grammar.{trims}
use borrow.Author.Rules.{rules}
use Rattle.properties.proofs.file_lines.trim.Goals as goal

pub slice_bounds-untailed-start : goal.slice_bounds-untailed-start
slice_bounds-untailed-start c = search rules

pub slice_bounds-untailed-end : goal.slice_bounds-untailed-end
slice_bounds-untailed-end c = search rules

pub returns : goal.returns
returns c = trims _ _ _ c.leading.ensures.value c.untailed.ensures
