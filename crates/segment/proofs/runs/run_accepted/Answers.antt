use native.Mathlib.Omega.{arith}
use Rattle.records.specs.Text.{lent}
use Rattle.stream.proofs.Accepted.{stream_room}
use Rattle.segment.proofs.Outcomes.{no_room, with_room}
use Rattle.segment.proofs.Standings.{room_made}
use Rattle.segment.proofs.runs.run_accepted.Goals as goal

pub token_count-tokens-requires : goal.token_count-tokens-requires
token_count-tokens-requires c = record { sound = c.requires; direct = c.is_direct-direct.ensures }

pub overflow_mul-tokens : goal.overflow_mul-tokens
overflow_mul-tokens c = omega (arith, c.token_count-tokens.ensures, stream_room c.args.mode c.args.parser (lent c.args.columns.now) c.requires)

pub returns-then-room-tokens : goal.returns-then-room-tokens
returns-then-room-tokens c = no_room _ _ _ _ _ _ _ _ _ c.min.ensures c.min-room.ensures (rw (← c.token_count-tokens.ensures) c.if-room-tokens.true) c.refused.ensures

pub run_roomy-requires : goal.run_roomy-requires
run_roomy-requires c = record { known = record { sound = c.requires; direct = c.is_direct-direct.ensures }; splits = c.is_parted-parted.ensures; tokens = c.token_count-tokens.ensures; roomy = room_made _ _ _ _ _ _ _ (stream_room _ _ (lent c.args.columns.now) c.requires) c.token_count-tokens.ensures c.min.ensures c.min-room.ensures c.if-room-tokens.false }

pub returns : goal.returns
returns c = with_room _ _ _ _ _ _ _ _ _ c.min.ensures c.min-room.ensures _ _ _ (rw (← c.token_count-tokens.ensures) c.if-room-tokens.false) c.run_roomy.ensures
