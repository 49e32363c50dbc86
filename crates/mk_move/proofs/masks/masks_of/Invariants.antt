use Rattle.mk_move.proofs.Blocks.{AreMasksUpTo}
use Rattle.mk_move.proofs.masks.masks_of.Given as goal

abbrev pub invariant-loop-column : goal.invariant-loop-column
invariant-loop-column l = AreMasksUpTo l.row l.column l.plus l.minus
