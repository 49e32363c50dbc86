use Rattle.std.proofs.Common.{rules, ap, ◌∙◌}
use Rattle.mk_turn.specs.Turns.{in_hand}
use Rattle.mk_turn.proofs.Turning.{joins}
use Rattle.mk_turn.proofs.table.TurnTable.join.Goals as goal

pub join_seat-requires : goal.join_seat-requires
join_seat-requires g c = (
  search rules,
  search rules,
  c.args.other.hand ∙ ap in_hand c.requires.away,
  search rules,
  joins g.S.TurnState.meaning g.S.TurnState.laws _ _ _ _ _ c.args.seat.now.awake c.requires.first c.args.other.awake c.requires.away c.requires.idle,
)
