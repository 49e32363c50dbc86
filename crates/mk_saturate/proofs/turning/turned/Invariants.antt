use Rattle.std.proofs.Common.{◌≡◌, take}
use Rattle.std.specs.List.{AllZip}
use Rattle.mk_move.specs.MoveLists.{vectors_of}
use Rattle.mk_model.specs.Orders.{IsRowTurned}
use Rattle.mk_saturate.proofs.turning.turned.Given as goal

abbrev pub invariant-loop-k : goal.invariant-loop-k
invariant-loop-k l = record {
  priority : l.turned.priority ≡ l.fn.priority;
  grading : l.turned.grading ≡ l.basis.grading;
  moves : AllZip (IsRowTurned l.fn.priority) (take l.k (vectors_of l.basis.moves)) (vectors_of l.turned.moves);
}
