use Rattle.std.proofs.Common.{◌≡◌, ◌+◌, length, drop}
use Rattle.mk_model.specs.FreeColumns.{columns_left, freed_by_rows}
use Rattle.mk_model.specs.Orders.{standard}
use Rattle.mk_move.specs.MoveLists.{vectors_of}
use Rattle.mk_saturate.proofs.freeing.free_by_moves.Given as goal

-- the moves that are ahead free the same as all of them at first
abbrev pub invariant-loop-k : goal.invariant-loop-k
invariant-loop-k l = record {
  columns : length l.left ≡ length l.initial.left;
  ahead : freed_by_rows (standard (length l.basis.grading)) (drop l.k (vectors_of l.basis.moves)) l.left ≡ freed_by_rows (standard (length l.basis.grading)) (vectors_of l.basis.moves) l.initial.left;
  count : length (columns_left l.initial.left) ≡ l.freed + length (columns_left l.left);
}
