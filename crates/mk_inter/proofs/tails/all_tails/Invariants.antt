use Rattle.std.proofs.Common.{take}
use Rattle.std.specs.List.{AllZip}
use Rattle.mk_move.specs.MoveLists.{vectors_of}
use Rattle.mk_inter.specs.TailSteps.{IsReducedFrom}
use Rattle.mk_inter.proofs.tails.all_tails.Given as goal

abbrev pub invariant-loop-index : goal.invariant-loop-index
invariant-loop-index l = AllZip (IsReducedFrom l.basis) (take l.index (vectors_of l.basis.moves)) l.tails.items
