-- Turns of several workers, at some of which memory is refused. (Sturmfels, chapter 1. The workers are this project's own.)
use Rattle.std.specs.Prelude.{◌≡◌, ◌≢◌, ◌⊎◌, ◌↔◌, ℕ, ◌<◌, Bool, true, false, IsTrue, List, [], ◌∷◌, length, map, get_or, set, replicate, Contains}
use Rattle.mk_model.specs.CoreStates.{CoreState, new_state}
use Rattle.mk_model.specs.CoreStates.Halt.{Memory}
use Rattle.mk_model.specs.Events.{IsHalting}
use Rattle.mk_model.specs.Programs.{Stage, IsProgramLine}
use Rattle.mk_model.specs.Programs.Stage.{Idle, Gone}
use Rattle.mk_move.specs.MoveLists.{vectors_of}
use Rattle.mk_ledger.specs.Ledgers.{LedgerView, IsLedger}
use Rattle.mk_core.specs.Jobs.{JobView}

-- a turn of a worker, and whether memory is refused at it
pub record ScheduledTurn : Type 0 where
  pub worker : ℕ
  pub refused : Bool

-- the turns of the workers of a schedule, where memory is refused at the turns of these numbers and at no other
pub record AreTurnsOf (schedule numbers : List ℕ) (turns : List ScheduledTurn) : Type 0 where
  pub workers : map (λ turn. turn.worker) turns ≡ schedule
  pub refused : (number : ℕ) → number < length turns → IsTrue (get_or (map (λ turn. turn.refused) turns) number false) ↔ Contains numbers number

-- A worker that is gone stays gone; any other halts for want of memory, and is gone.
abbrev pub IsRefusal : CoreState → ℕ → Stage → CoreState → Stage → Type 0
IsRefusal state worker stage after next =
    (((stage ≡ Gone) × (after ≡ state)) ⊎ ((stage ≢ Gone) × IsHalting state worker Memory after)) × (next ≡ Gone)

-- the line of the worker's program, or what the worker does in its place where memory is refused
abbrev pub IsTurnLine : ℕ → List ℕ → CoreState → ℕ → Bool → Stage → CoreState → Stage → Type 0
IsTurnLine n priority state worker false stage after next = IsProgramLine n priority state worker stage after next
IsTurnLine n priority state worker true stage after next = IsRefusal state worker stage after next

-- The stages stand at the workers' numbers. One turn comes after another; the stages of the other workers stay.
abbrev pub DrivesWithRefusals : ℕ → List ℕ → CoreState → List Stage → List ScheduledTurn → CoreState → List Stage → Type 0
DrivesWithRefusals n priority state stages [] after last = (after ≡ state) × (last ≡ stages)
DrivesWithRefusals n priority state stages (turn ∷ turns) after last =
    (middle : CoreState) × (next : Stage) × IsTurnLine n priority state turn.worker turn.refused (get_or stages turn.worker Gone) middle next
    × DrivesWithRefusals n priority middle (set stages turn.worker next) turns after last

-- the ledger is legal, and what the turns lead to from the start of a job, where memory is refused at those of these numbers
pub record IsHaltingDriven (job : JobView) (workers : ℕ) (schedule refused : List ℕ) (ledger : LedgerView) : Type 0 where
  pub priority : ledger.basis.priority ≡ job.start.priority
  pub grading : ledger.basis.grading ≡ job.start.grading
  pub kept : IsLedger ledger
  pub turns : List ScheduledTurn
  pub scheduled : AreTurnsOf schedule refused turns
  pub stages : List Stage
  pub drives : DrivesWithRefusals (length job.start.grading) job.start.priority (new_state (vectors_of job.start.moves) job.budget job.basis_limit workers)
      (replicate workers Idle) turns ledger.state stages
