use Rattle.mk_move.specs.Sides.{part_of}
use Rattle.mk_saturate.proofs.FreedMoves.{AreTakenUpTo}
use Rattle.mk_saturate.proofs.freeing.take_part_out.Given as goal

abbrev pub invariant-loop-column : goal.invariant-loop-column
invariant-loop-column l = AreTakenUpTo (part_of l.side l.found.entries) l.initial.left l.left l.column l.taken
