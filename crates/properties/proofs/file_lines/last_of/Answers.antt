use Rattle.properties.proofs.Grammar.{last_alone, last_over, last_other, last_read}
use Rattle.properties.proofs.file_lines.last_of.Goals as goal

pub returns-then-scalars-end : goal.returns-then-scalars-end
returns-then-scalars-end c = last_alone _ _ c.span_at-end.ensures _ c.if-scalars-end.true c.first_of.ensures

pub returns-then-scalars-second : goal.returns-then-scalars-second
returns-then-scalars-second c = last_over _ _ c.span_at-end.ensures c.if-scalars-end.false c.if-scalars-second.true

pub returns-then-scalars-second-eq46 : goal.returns-then-scalars-second-eq46
returns-then-scalars-second-eq46 c = last_read _ _ c.span_at-end.ensures c.if-scalars-end.false _ c.if-scalars-second-eq46.true c.hex.ensures

pub returns-else-scalars-second-eq46 : goal.returns-else-scalars-second-eq46
returns-else-scalars-second-eq46 c = last_other _ _ c.span_at-end.ensures c.if-scalars-end.false c.if-scalars-second-eq46.false
