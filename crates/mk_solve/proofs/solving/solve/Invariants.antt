use Rattle.std.proofs.Common.{length}
use Rattle.mk_model.specs.FreeColumns.{columns_left}
use Rattle.mk_model.specs.Tables.{rows_of}
use Rattle.mk_solve.proofs.Columns.{IsSaturating}
use Rattle.mk_solve.proofs.solving.solve.Given as goal

-- the free columns and those before the least that is left are saturated, these by phases of the book
abbrev pub invariant-loop-saturation : goal.invariant-loop-saturation
invariant-loop-saturation g l = IsSaturating (rows_of l.lat) l.grading l.budget l.saturation l.book

-- how many columns are left
abbrev pub decreases-loop-saturation : goal.decreases-loop-saturation
decreases-loop-saturation g l = length (columns_left l.saturation.left)
