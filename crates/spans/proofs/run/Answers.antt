use Rattle.spans.proofs.Outcomes.{ran_crowded, ran_none, ran_roomy, ran_filled}
use Rattle.spans.proofs.run.Goals as goal

pub returns-then-room-count_of : goal.returns-then-room-count_of
returns-then-room-count_of c = ran_crowded _ _ _ _ _ _ _ _ _ _ _ _ _ _ c.count_of.ensures c.shortest-room.ensures c.if-room-count_of.true _ c.crowded.ensures

pub returns-then-answer-eq0 : goal.returns-then-answer-eq0
returns-then-answer-eq0 c = ran_none _ _ _ _ _ _ _ _ _ _ _ _ _ _ c.count_of.ensures c.shortest-room.ensures c.if-room-count_of.false _ _ _ _ c.run-answer.ensures c.if-answer-eq0.true

pub run_roomy-requires : goal.run_roomy-requires
run_roomy-requires c = ran_roomy _ _ _ _ _ _ _ _ _ _ _ _ _ _ c.count_of.ensures c.shortest-room.ensures c.if-room-count_of.false _ _ _ _ c.run-answer.ensures c.if-answer-eq0.false

pub returns : goal.returns
returns c = ran_filled _ _ _ _ _ _ _ _ _ _ _ _ _ _ c.count_of.ensures c.shortest-room.ensures c.if-room-count_of.false _ _ _ _ c.run-answer.ensures c.if-answer-eq0.false _ c.run_roomy.ensures
