-- The number of each status, and the status of each stop.
use Rattle.std.specs.Prelude.{ℕ}
use Rattle.mk_solve.specs.declared.book.BookStop.{BookStop}
use Rattle.mk_solve.specs.declared.book.BookStop.TheVariants as why
use Rattle.mk_run.specs.declared.status.Status.{Status}
use Rattle.mk_run.specs.declared.status.Status.TheVariants.{Done, Usage, Input, Folder, Overflow, Budget, Memory, Full}

-- the exit status of the program
abbrev pub code_of : Status → ℕ
code_of Done = 0
code_of Usage = 1
code_of Input = 2
code_of Folder = 3
code_of Overflow = 4
code_of Budget = 5
code_of Memory = 6
code_of Full = 7

-- how a run ends that stopped
abbrev pub status_of : BookStop → Status
status_of (why.Overflow place stop) = Overflow
status_of (why.Budget settled) = Budget
status_of (why.BasisFull phase i j) = Full
