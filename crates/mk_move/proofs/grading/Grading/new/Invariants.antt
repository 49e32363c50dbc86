use Rattle.std.proofs.Common.{All, take}
use Rattle.mk_move.specs.Gradings.{IsWeight}
use Rattle.mk_move.proofs.grading.Grading.new.Given as goal

abbrev pub invariant-loop-column : goal.invariant-loop-column
invariant-loop-column l = All IsWeight (take l.column l.weights)
