-- Phases of a completion, what they go on from, and why a completion stops. (Sturmfels, chapters 1, 5 and 12: Buchberger's
-- algorithm for a lattice, and its saturation)
use Rattle.std.specs.Prelude.{◌≡◌, ◌≢◌, ◌⊎◌, ℕ, ◌<◌, List, ◌++◌, length, All, Option, None, Some, Result, Ok, Err}
use Rattle.mk_model.specs.CoreStates.{Pair, pair_of, Settle, Halt, CoreState, new_state, phase_state, start_of, IsPairOf, IsSettled}
use Rattle.mk_model.specs.CoreStates.Halt.{Overflow as HaltOverflow, Full as HaltFull}
use Rattle.mk_model.specs.Events.{HasNormalReduct, IsPairOverflow}
use Rattle.mk_model.specs.Legal.{IsLegal, IsEnded}
use Rattle.mk_move.specs.MoveLists.{IsBasis, vectors_of}
use Rattle.mk_journal.specs.Entries.{settles_of, HaveTheirThirds}
use Rattle.mk_ledger.specs.Halts.{stop_of}
use Rattle.mk_ledger.specs.Ledgers.{LedgerView}
use Rattle.mk_core.specs.Jobs.{JobView}
use Rattle.mk_core.specs.declared.phase.Phase.{Phase}
use Rattle.mk_core.specs.declared.phase.Stopped.{Stopped}
use Rattle.mk_core.specs.declared.phase.Stopped.TheVariants.{Memory, Overflow, OverBudget, BasisFull}

-- the ledger that a job begins with, for one worker
abbrev pub ledger_for : JobView → LedgerView
ledger_for job = record { basis = job.start; state = new_state (vectors_of job.start.moves) job.budget job.basis_limit 1 }

-- a phase as a state without workers, read with a budget and a limit
abbrev pub state_of : Phase → ℕ → ℕ → CoreState
state_of phase budget limit = phase_state phase.start_len (vectors_of phase.basis.moves) (settles_of phase.journal) budget limit

-- an entry of the first worker, whose number is 0
abbrev pub IsByFirst : Settle → Type 0
IsByFirst entry = entry.worker ≡ 0

-- A phase that goes on from a ledger: it has the same list, grading and start, its journal goes on from the ledger's with
-- entries of the first worker, and replays legally within the ledger's budget and limit. Where a halt stood, the basis and
-- the journal are as they were.
pub record IsPhaseFrom (ledger : LedgerView) (phase : Phase) : Type 0 where
  pub basis : IsBasis phase.basis
  pub priority : phase.basis.priority ≡ ledger.basis.priority
  pub grading : phase.basis.grading ≡ ledger.basis.grading
  pub start_length : phase.start_len ≡ ledger.state.start_length
  pub start : start_of (state_of phase ledger.state.budget ledger.state.limit) ≡ start_of ledger.state
  pub more : List Settle
  pub journal : settles_of phase.journal ≡ ledger.state.journal ++ more
  pub by_first : All IsByFirst more
  pub thirds : HaveTheirThirds phase.journal
  pub basis_stays : ledger.state.first_halted ≢ None → phase.basis ≡ ledger.basis
  pub journal_stays : ledger.state.first_halted ≢ None → settles_of phase.journal ≡ ledger.state.journal
  pub legal : IsLegal (length ledger.basis.grading) ledger.basis.priority (state_of phase ledger.state.budget ledger.state.limit)

-- a pair of the basis that isn't settled
pub record IsLeft (phase : Phase) (pair : Pair) : Type 0 where
  pub of_basis : IsPairOf (vectors_of phase.basis.moves) pair
  pub unsettled : ¬ (IsSettled (settles_of phase.journal) pair)

-- a halt stood in the ledger, or fewer pairs are settled than its budget has
abbrev pub IsHaltedOrWithin : LedgerView → ℕ → Type 0
IsHaltedOrWithin ledger settled = (ledger.state.first_halted ≢ None) ⊎ (settled < ledger.state.budget)

-- as many pairs as the budget has are settled, no halt stood, and a pair is left
pub record PhaseIsOverBudget (ledger : LedgerView) (phase : Phase) : Type 0 where
  pub used_up : length phase.journal ≡ ledger.state.budget
  pub no_halt : ledger.state.first_halted ≡ None
  pub pair : Pair
  pub left : IsLeft phase pair

-- the basis has its limit of moves, and the pair, which is left, needs another
pub record IsBasisFull (limit : ℕ) (phase : Phase) (pair : Pair) : Type 0 where
  pub full : length phase.basis.moves ≡ limit
  pub normal_reduct : HasNormalReduct (vectors_of phase.basis.moves) pair
  pub left : IsLeft phase pair

-- What going on from a ledger gives: a phase in which every pair is settled, or why it stopped. No cause is given for want
-- of memory.
abbrev pub Finishes : LedgerView → Result Phase Stopped → Type 0
Finishes ledger (Ok phase) = IsPhaseFrom ledger phase × IsEnded (state_of phase ledger.state.budget ledger.state.limit)
Finishes ledger (Err Memory) = Unit {0}
Finishes ledger (Err (Overflow phase stop)) =
    IsPhaseFrom ledger phase × IsLeft phase (stop_of stop).pair × IsPairOverflow (vectors_of phase.basis.moves) (stop_of stop) × IsHaltedOrWithin ledger (length phase.journal)
Finishes ledger (Err (OverBudget phase)) = IsPhaseFrom ledger phase × PhaseIsOverBudget ledger phase
Finishes ledger (Err (BasisFull phase i j)) =
    IsPhaseFrom ledger phase × IsBasisFull ledger.state.limit phase (pair_of i j) × IsHaltedOrWithin ledger (length phase.journal)

-- the phase of an answer, which has none for want of memory
abbrev pub phase_in : Result Phase Stopped → Option Phase
phase_in (Ok phase) = Some phase
phase_in (Err Memory) = None
phase_in (Err (Overflow phase stop)) = Some phase
phase_in (Err (OverBudget phase)) = Some phase
phase_in (Err (BasisFull phase i j)) = Some phase

-- the answer is that the budget is used up
abbrev pub AnswersOverBudget : Result Phase Stopped → Type 0
AnswersOverBudget (Ok phase) = ⊥
AnswersOverBudget (Err Memory) = ⊥
AnswersOverBudget (Err (Overflow phase stop)) = ⊥
AnswersOverBudget (Err (OverBudget phase)) = Unit {0}
AnswersOverBudget (Err (BasisFull phase i j)) = ⊥

-- A halt that stands is the answer, unless there is no memory.
abbrev pub HandsOn : Halt → Result Phase Stopped → Type 0
HandsOn halt (Err Memory) = Unit {0}
HandsOn (HaltOverflow kept) (Err (Overflow phase stop)) = stop_of stop ≡ kept
HandsOn (HaltFull pair) (Err (BasisFull phase i j)) = pair_of i j ≡ pair
HandsOn halt (Err stopped) = ⊥
HandsOn halt (Ok phase) = ⊥

-- The journal replays legally from the start, and every pair is settled.
pub record IsCompleted (phase : Phase) : Type 0 where
  pub basis : IsBasis phase.basis
  pub thirds : HaveTheirThirds phase.journal
  pub legal : IsLegal (length phase.basis.grading) phase.basis.priority (state_of phase (length phase.journal) 65536)
  pub ended : IsEnded (state_of phase (length phase.journal) 65536)
