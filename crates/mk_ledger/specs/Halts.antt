-- The halts that are kept, as those of the core state.
use Rattle.mk_model.specs.CoreStates.{pair_of, OverflowStop, stop_at, Halt}
use Rattle.mk_model.specs.CoreStates.Halt.{Overflow, Full, Memory}
use Rattle.mk_move.specs.MoveLists.{vector_of}
use Rattle.mk_ledger.specs.declared.halt.OverflowStop.{OverflowStop as Stopped}
use Rattle.mk_ledger.specs.declared.halt.Halt.{Halt as Kept}
use Rattle.mk_ledger.specs.declared.halt.Halt.TheVariants as kept

-- an overflow's pair and numbers
abbrev pub stop_of : Stopped → OverflowStop
stop_of stop = stop_at (pair_of stop.i stop.j) stop.by (vector_of stop.operand) stop.at.column stop.at.left stop.at.times stop.at.right

-- the halt of the core state
abbrev pub halt_as : Kept → Halt
halt_as (kept.Overflow stop) = Overflow (stop_of stop)
halt_as (kept.Full i j) = Full (pair_of i j)
halt_as kept.Memory = Memory
