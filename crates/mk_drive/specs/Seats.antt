-- At what a worker is that takes turns with others, and the line that it takes. (Sturmfels, chapter 1)
use Rattle.std.specs.Prelude.{◌≡◌, ℕ, ◌<◌, Bool, false, List, length, get_or, replicate, set, Option, Some, None}
use Rattle.mk_model.specs.CoreStates.{Pair, claim_of, halt_of, new_state, IsPairOf}
use Rattle.mk_model.specs.Events.{HaveCommonColumn, IsPairOverflow}
use Rattle.mk_model.specs.Overflows.{IsGenuineOverflow}
use Rattle.mk_model.specs.Reductions.{Reduct}
use Rattle.mk_model.specs.Programs as program
use Rattle.mk_model.specs.Programs.{IsNextCandidate, IsWholeLine, Drives}
use Rattle.mk_move.specs.Moves.{Weighed}
use Rattle.mk_move.specs.MoveLists.{BasisView, vectors_of}
use Rattle.mk_reduce.specs.declared.stop.Stop.{Stop}
use Rattle.mk_reduce.specs.declared.stop.Stop.TheVariants.{Memory as StopMemory, Overflow as StopOverflow}
use Rattle.mk_reduce.specs.Works.{TheWork, WorkOf, rest_of, IsReduced}
use Rattle.mk_ledger.specs.Halts.{stop_of}
use Rattle.mk_ledger.specs.Ledgers.{LedgerView, IsLedger}
use Rattle.mk_drive.specs.Halting.{ScheduledTurn, IsTurnLine}
use Rattle.mk_core.specs.GrownBases.{IsLonger}
use Rattle.mk_core.specs.Jobs.{JobView}
use Rattle.mk_core.specs.declared.work.WorkFault.{WorkFault}
use Rattle.mk_core.specs.declared.work.WorkFault.TheVariants.{Memory, Overflow}
use Rattle.mk_drive.specs.declared.seat.TurnStage.{TurnStage}
use Rattle.mk_drive.specs.declared.seat.TurnStage.TheVariants.{Idle, Fresh, Tests, Ready, Reduced, Stale, Stopping, Gone}

-- the stage of a worker's program, over so many columns
abbrev pub stage_of : ℕ → TurnStage → program.Stage
stage_of n Idle = program.Stage.Idle
stage_of n Fresh = program.Stage.Fresh
stage_of n (Tests seen from tried) = program.Stage.Tests (length seen.moves) from tried
stage_of n (Ready seen) = program.Stage.Ready (length seen.moves)
stage_of n (Reduced work) = program.Stage.Reduced work.front (rest_of n work.remainder)
stage_of n (Stale work) = program.Stage.Stale (rest_of n work.remainder)
stage_of n (Stopping stop) = program.Stage.Stopping (stop_of stop)
stage_of n Gone = program.Stage.Gone

-- ---- what holds of a seat
-- the claim of the worker, whose moves are among those of a copy of the first moves
pub record HasCopy (ledger : LedgerView) (worker : ℕ) (seen : BasisView) (pair : Pair) : Type 0 where
  pub claimed : claim_of ledger.state worker ≡ Some pair
  pub longer : IsLonger seen ledger.basis
  pub of_copy : IsPairOf (vectors_of seen.moves) pair

-- the claim of the worker, with work on it by the first moves
pub record HasWork (ledger : LedgerView) (worker : ℕ) (seen : BasisView) (work : TheWork) : Type 0 where
  pub copy : HasCopy ledger worker seen work.pair
  pub common : HaveCommonColumn ledger.state.basis work.pair
  pub done : WorkOf work seen

-- what is left is reduced by a copy of so many of the first moves as its front says
pub record HasReduced (ledger : LedgerView) (worker : ℕ) (work : TheWork) : Type 0 where
  pub seen : BasisView
  pub of_copy : HasWork ledger worker seen work
  pub front : work.front ≡ length seen.moves
  pub reduced : IsReduced (vectors_of seen.moves) work.remainder

-- what a worker knows at each stage
abbrev pub IsAt : LedgerView → ℕ → TurnStage → Type 0
IsAt ledger worker Idle = (claim_of ledger.state worker ≡ None) × (halt_of ledger.state worker ≡ None)
IsAt ledger worker Fresh = (pair : Pair) × (claim_of ledger.state worker ≡ Some pair)
IsAt ledger worker (Tests seen from tried) = (pair : Pair) × HasCopy ledger worker seen pair
IsAt ledger worker (Ready seen) = (pair : Pair) × HasCopy ledger worker seen pair × HaveCommonColumn ledger.state.basis pair
IsAt ledger worker (Reduced work) = HasReduced ledger worker work
IsAt ledger worker (Stale work) = HasWork ledger worker ledger.basis work
IsAt ledger worker (Stopping stop) = (claim_of ledger.state worker ≡ Some (stop_of stop).pair) × IsPairOverflow ledger.state.basis (stop_of stop)
IsAt ledger worker Gone = Unit {0}

-- ---- lines and turns
-- one turn, with memory or without, from a stage of the worker to the ledger and its stage afterwards
pub record TurnsTo (before : LedgerView) (worker : ℕ) (refused : Bool) (stage : TurnStage) (after : LedgerView) (next : TurnStage) : Type 0 where
  pub line : IsTurnLine (length before.basis.grading) before.basis.priority before.state worker refused (stage_of (length before.basis.grading) stage) after.state
      (stage_of (length before.basis.grading) next)
  pub stands : IsAt after worker next
  pub longer : IsLonger before.basis after.basis

-- one line of the program, likewise
abbrev pub TakesLine : LedgerView → ℕ → TurnStage → LedgerView → TurnStage → Type 0
TakesLine before worker stage after next = TurnsTo before worker false stage after next

-- Work on a pair by a basis leads to a stage: what is left is reduced, or an entry leaves the range.
abbrev pub ReducesWork : BasisView → TheWork → TurnStage → Type 0
ReducesWork basis work (Reduced after) =
    (after.pair ≡ work.pair) × (after.front ≡ length basis.moves) × WorkOf after basis × IsReduced (vectors_of basis.moves) after.remainder
    × Reduct (vectors_of basis.moves) (rest_of (length basis.grading) work.remainder) (rest_of (length basis.grading) after.remainder)
ReducesWork basis work (Stopping stop) = ((stop_of stop).pair ≡ work.pair) × IsGenuineOverflow (vectors_of basis.moves) (stop_of stop)
ReducesWork basis work stage = ⊥

-- the fault for a stop of the work on the pair, where so much was left
abbrev pub fault_of_stop : Pair → Option Weighed → Stop → WorkFault
fault_of_stop pair operand StopMemory = Memory
fault_of_stop pair operand (StopOverflow by at) = Overflow (record { i = pair.first; j = pair.second; by = by; operand = operand; at = at })

-- the stage of a worker whose work stopped by the overflow of the fault
abbrev pub IsStoppingBy : WorkFault → TurnStage → Type 0
IsStoppingBy Memory stage = ⊥
IsStoppingBy (Overflow stop) stage = stage ≡ Stopping stop

-- the next candidate by the copy, where fewer than eight were tried and the leads of the pair have a column in common
pub record IsThirdTried (ledger : LedgerView) (worker : ℕ) (seen : BasisView) (from tried third : ℕ) : Type 0 where
  pub pair : Pair
  pub copy : HasCopy ledger worker seen pair
  pub common : HaveCommonColumn ledger.state.basis pair
  pub few : tried < 8
  pub found : IsNextCandidate (vectors_of seen.moves) pair from third

-- the claim is settled by what is left of it, or the worker halts since the basis is full
pub record PlacesRest (before : LedgerView) (worker : ℕ) (m : Weighed) (after : LedgerView) (next : TurnStage) : Type 0 where
  pub line : IsWholeLine (length before.basis.grading) before.basis.priority before.state worker m.entries after.state (stage_of (length before.basis.grading) next)
  pub stands : IsAt after worker next
  pub longer : IsLonger before.basis after.basis

-- a seat for each worker
pub record AreSeated (ledger : LedgerView) (seats : List TurnStage) : Type 0 where
  pub count : length seats ≡ ledger.state.workers
  pub each : (worker : ℕ) → IsAt ledger worker (get_or seats worker Gone)

-- the worker has its turn, and the others stay at their stages
pub record TakesTurn (before : LedgerView) (seats : List TurnStage) (turn : ScheduledTurn) (after : LedgerView) (seats_after : List TurnStage) : Type 0 where
  pub next : TurnStage
  pub line : TurnsTo before turn.worker turn.refused (get_or seats turn.worker Gone) after next
  pub changed : seats_after ≡ set seats turn.worker next
  pub seated : AreSeated after seats_after

-- the ledger is legal, and what the turns lead to from the start of a job, where no worker had a claim
pub record IsDriven (job : JobView) (workers : ℕ) (turns : List ℕ) (ledger : LedgerView) : Type 0 where
  pub priority : ledger.basis.priority ≡ job.start.priority
  pub grading : ledger.basis.grading ≡ job.start.grading
  pub kept : IsLedger ledger
  pub stages : List program.Stage
  pub drives : Drives (length job.start.grading) job.start.priority (new_state (vectors_of job.start.moves) job.budget job.basis_limit workers)
      (replicate workers program.Stage.Idle) turns ledger.state stages
