use Rattle.mk_move.specs.Sides.{part_of}
use Rattle.mk_saturate.proofs.FreedMoves.{AreLeftUpTo}
use Rattle.mk_saturate.proofs.freeing.is_part_left.Given as goal

abbrev pub invariant-loop-column : goal.invariant-loop-column
invariant-loop-column l = AreLeftUpTo l.left (part_of l.side l.found.entries) l.column
