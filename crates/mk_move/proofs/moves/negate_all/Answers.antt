use Rattle.std.proofs.Common.{arith}
use Rattle.mk_move.proofs.Orientations.{turned_whole}
use Rattle.mk_move.proofs.moves.negate_all.Goals as goal

pub returns : goal.returns
returns c = turned_whole c.args.row.now c.loop-entry.row c.loop-entry.entry-index (omega (arith, c.loop-entry.invariant.columns)) c.loop-entry.invariant
