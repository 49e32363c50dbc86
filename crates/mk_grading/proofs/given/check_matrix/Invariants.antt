use Rattle.std.proofs.Common.{All, take}
use Rattle.mk_model.specs.Tables.{rows_of}
use Rattle.mk_model.specs.ChosenGradings.{IsOrthogonal}
use Rattle.mk_grading.proofs.given.check_matrix.Given as goal

abbrev pub invariant-loop-mat_row : goal.invariant-loop-mat_row
invariant-loop-mat_row l = All (IsOrthogonal l.lat) (take l.mat_row (rows_of l.matrix))
