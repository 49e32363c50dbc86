use Rattle.std.proofs.Common.{rules}
use Rattle.mk_turn.proofs.Turning.{announces}
use Rattle.mk_turn.proofs.table.TurnTable.raise.Goals as goal

pub store-requires : goal.store-requires
store-requires g c = let t = c.requires.turn in (
  search rules,
  search rules,
  announces g.S.TurnState.meaning g.S.TurnState.laws _ _ _ _ t.value _ c.args.seat.now.awake t.taken c.requires.once t.next t.short,
)
