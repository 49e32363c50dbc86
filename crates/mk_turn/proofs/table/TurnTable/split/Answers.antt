use Rattle.std.proofs.Common.{rules}
use Rattle.mk_turn.proofs.Turning.{splits}
use Rattle.mk_turn.proofs.table.TurnTable.split.Goals as goal

pub split_seat-other-requires : goal.split_seat-other-requires
split_seat-other-requires g c = (
  search rules,
  search rules,
  splits g.S.TurnState.meaning g.S.TurnState.laws _ _ _ c.args.seat.now.awake c.requires.first c.requires.room,
)
