use Rattle.std.proofs.Common.{rules}
use Rattle.mk_turn.proofs.Turning.{looks}
use Rattle.mk_turn.proofs.table.TurnTable.length.Goals as goal

pub load-requires : goal.load-requires
load-requires g c = (search rules, search rules, looks g.S.TurnState.meaning g.S.TurnState.laws _ _ _ _ c.args.seat.now.awake)

pub returns-clause-held : goal.returns-clause-held
returns-clause-held g c = c.load.ensures.2.held
