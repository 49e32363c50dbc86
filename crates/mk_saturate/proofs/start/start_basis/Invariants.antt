use Rattle.std.proofs.Common.{◌≤◌, take, length, Ok}
use Rattle.mk_model.specs.Tables.{rows_of}
use Rattle.mk_saturate.specs.Starts.{Starts}
use Rattle.mk_saturate.proofs.start.start_basis.Given as goal

abbrev pub invariant-loop-r : goal.invariant-loop-r
invariant-loop-r l = Starts (take l.r (rows_of l.lat)) l.fn.grading l.fn.priority (Ok l.basis) × (length l.basis.moves ≤ l.r)
