-- What completing a job gives, whoever takes part in it. (Sturmfels, chapters 1, 5 and 12: Buchberger's algorithm for a lattice)
use Rattle.std.specs.Prelude.{◌≡◌, ℕ, ◌<◌, length, Result, Ok, Err}
use Rattle.mk_model.specs.CoreStates.{Pair, pair_of, start_of}
use Rattle.mk_model.specs.Events.{IsPairOverflow}
use Rattle.mk_model.specs.Legal.{IsLegal, IsEnded}
use Rattle.mk_move.specs.MoveLists.{IsBasis, vectors_of}
use Rattle.mk_journal.specs.Entries.{HaveTheirThirds}
use Rattle.mk_ledger.specs.Halts.{stop_of}
use Rattle.mk_ledger.specs.Ledgers.{LedgerView}
use Rattle.mk_core.specs.Jobs.{JobView}
use Rattle.mk_core.specs.declared.phase.Phase.{Phase}
use Rattle.mk_core.specs.declared.phase.Stopped.{Stopped}
use Rattle.mk_core.specs.declared.phase.Stopped.TheVariants.{Memory, Overflow, OverBudget, BasisFull}
use Rattle.mk_core.specs.Phases.{state_of, IsLeft, IsBasisFull}

-- a ledger with the list, the grading, the start, the budget and the limit of a job
pub record IsLedgerOf (job : JobView) (ledger : LedgerView) : Type 0 where
  pub priority : ledger.basis.priority ≡ job.start.priority
  pub grading : ledger.basis.grading ≡ job.start.grading
  pub start_length : ledger.state.start_length ≡ length job.start.moves
  pub start : start_of ledger.state ≡ vectors_of job.start.moves
  pub budget : ledger.state.budget ≡ job.budget
  pub limit : ledger.state.limit ≡ job.basis_limit

-- A phase of a job: it has the job's list, grading and start, and its journal, by whichever workers, replays legally within
-- the job's budget and limit.
pub record IsPhaseOf (job : JobView) (phase : Phase) : Type 0 where
  pub basis : IsBasis phase.basis
  pub priority : phase.basis.priority ≡ job.start.priority
  pub grading : phase.basis.grading ≡ job.start.grading
  pub start_length : phase.start_len ≡ length job.start.moves
  pub start : start_of (state_of phase job.budget job.basis_limit) ≡ vectors_of job.start.moves
  pub thirds : HaveTheirThirds phase.journal
  pub legal : IsLegal (length job.start.grading) job.start.priority (state_of phase job.budget job.basis_limit)

-- as many pairs as the job's budget has are settled, and a pair is left
pub record IsUsedUp (job : JobView) (phase : Phase) : Type 0 where
  pub used_up : length phase.journal ≡ job.budget
  pub pair : Pair
  pub left : IsLeft phase pair

-- What completing a job gives: a phase in which every pair is settled, or why it stopped. No cause is given for want of memory.
abbrev pub CompletesJob : JobView → Result Phase Stopped → Type 0
CompletesJob job (Ok phase) = IsPhaseOf job phase × IsEnded (state_of phase job.budget job.basis_limit)
CompletesJob job (Err Memory) = Unit {0}
CompletesJob job (Err (Overflow phase stop)) =
    IsPhaseOf job phase × IsLeft phase (stop_of stop).pair × IsPairOverflow (vectors_of phase.basis.moves) (stop_of stop) × (length phase.journal < job.budget)
CompletesJob job (Err (OverBudget phase)) = IsPhaseOf job phase × IsUsedUp job phase
CompletesJob job (Err (BasisFull phase i j)) = IsPhaseOf job phase × IsBasisFull job.basis_limit phase (pair_of i j) × (length phase.journal < job.budget)
