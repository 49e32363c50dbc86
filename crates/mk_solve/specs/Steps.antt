-- What the steps of a run give, and what they leave in the book.
use Rattle.std.specs.Prelude.{◌≡◌, ℕ, ◌<◌, List, [], ◌∷◌, ◌++◌, length, All, Bool, false, set, Option, Some, Result, Ok, Err}
use Rattle.mk_model.specs.Bases.{IsAnswer}
use Rattle.mk_model.specs.CoreStates.{pair_of}
use Rattle.mk_model.specs.Lattices.{SameLattice}
use Rattle.mk_model.specs.Legal.{IsEnded}
use Rattle.mk_model.specs.Events.{IsPairOverflow}
use Rattle.mk_model.specs.Overflows.{IsGenuineOverflow, IsTailOverflow, IsPairOfWeight}
use Rattle.mk_model.specs.ReducedBases.{IsReducedBasis}
use Rattle.mk_move.specs.Moves.{IsGraded}
use Rattle.mk_move.specs.MoveLists.{lattice_spanned, MoveListView, BasisView, vectors_of}
use Rattle.mk_ledger.specs.Halts.{stop_of}
use Rattle.mk_ledger.specs.declared.halt.OverflowStop.{OverflowStop}
use Rattle.mk_core.specs.Phases.{state_of, IsLeft, IsBasisFull}
use Rattle.mk_core.specs.JobPhases.{IsPhaseOf, IsUsedUp, CompletesJob}
use Rattle.mk_core.specs.Jobs.{JobView}
use Rattle.mk_core.specs.declared.phase.Phase.{Phase}
use Rattle.mk_saturate.specs.Saturations.{SaturationView, IsLeastLeft, IsDropped}
use Rattle.mk_inter.specs.Tails.{IsReducedList}
use Rattle.mk_solve.specs.Books.{Book, settled_of}
use Rattle.mk_solve.specs.declared.book.BookStop.{BookStop}
use Rattle.mk_solve.specs.declared.book.BookStop.TheVariants.{Overflow, Budget, BasisFull}
use Rattle.mk_solve.specs.declared.book.OverflowPlace.TheVariants.{Pair, Tail, Degree}
use Rattle.mk_solve.specs.declared.solving.RunStop.{RunStop}
use Rattle.mk_solve.specs.declared.solving.RunStop.TheVariants.{Memory, Stopped}

-- the book with a phase at its end
abbrev pub with_phase : Book → Phase → Book
with_phase book phase = record book { phases = book.phases ++ phase ∷ [] }

-- the book with a phase at its end, and a stop
abbrev pub stopped_at : Book → Phase → BookStop → Book
stopped_at book phase stop = record book { phases = book.phases ++ phase ∷ []; stop = Some stop }

-- A phase at the end, and a stop. Without memory the book is as before.
abbrev pub KeepsStop : Book → Phase → BookStop → RunStop → Book → Type 0
KeepsStop before phase stop Stopped after = after ≡ stopped_at before phase stop
KeepsStop before phase stop Memory after = after ≡ before

-- Why the phase of a number stops, where the phases up to it settled so many pairs.
abbrev pub IsPhaseStop : JobView → ℕ → ℕ → Phase → BookStop → Type 0
IsPhaseStop job number settled phase (Overflow (Pair n) stop) =
    (n ≡ number) × IsLeft phase (stop_of stop).pair × IsPairOverflow (vectors_of phase.basis.moves) (stop_of stop)
    × (length phase.journal < job.budget)
IsPhaseStop job number settled phase (Overflow (Tail index) stop) = ⊥
IsPhaseStop job number settled phase (Overflow Degree stop) = ⊥
IsPhaseStop job number settled phase (Budget n) = (n ≡ settled) × IsUsedUp job phase
IsPhaseStop job number settled phase (BasisFull n i j) =
    (n ≡ number) × IsBasisFull job.basis_limit phase (pair_of i j) × (length phase.journal < job.budget)

-- the job's phase stopped: the book keeps it, and the stop with its cause
pub record StopsIn (job : JobView) (before after : Book) : Type 0 where
  pub phase : Phase
  pub stop : BookStop
  pub from : IsPhaseOf job phase
  pub cause : IsPhaseStop job (length before.phases) (settled_of after.phases) phase stop
  pub kept : after ≡ stopped_at before phase stop

-- the completed phase of a job, or why it stopped
abbrev pub Completes : JobView → Book → Result Phase RunStop → Book → Type 0
Completes job before (Ok phase) after = CompletesJob job (Ok phase) × (after ≡ before)
Completes job before (Err Memory) after = after ≡ before
Completes job before (Err Stopped) after = StopsIn job before after

-- the job's phase is completed: the book keeps it, and what it leaves of the moves is taken
pub record TakesPhase (job : JobView) (moves : BasisView) (before : Book) (taken : BasisView) (after : Book) : Type 0 where
  pub phase : Phase
  pub from : IsPhaseOf job phase
  pub ended : IsEnded (state_of phase job.budget job.basis_limit)
  pub dropped : IsDropped moves phase taken
  pub kept : after ≡ with_phase before phase

-- the least column that is left, and no other, is taken out of those that are left
abbrev pub IsLeastTaken : List Bool → List Bool → Type 0
IsLeastTaken left after = (column : ℕ) × IsLeastLeft left column × (after ≡ set left column false)

-- a column is saturated by the phase of a job, or the job's phase stopped
abbrev pub TakesColumn : SaturationView → JobView → Book → Result Unit RunStop → SaturationView → Book → Type 0
TakesColumn now job before (Ok done) next after = TakesPhase job now.basis before next.basis after × IsLeastTaken now.left next.left
TakesColumn now job before (Err Memory) next after = after ≡ before
TakesColumn now job before (Err Stopped) next after = StopsIn job before after

-- the last phase leaves the saturated basis, or it stopped
abbrev pub TakesLast : BasisView → JobView → Book → Result BasisView RunStop → Book → Type 0
TakesLast moves job before (Ok saturated) after = TakesPhase job moves before saturated after
TakesLast moves job before (Err Memory) after = after ≡ before
TakesLast moves job before (Err Stopped) after = StopsIn job before after

-- the reduced basis of what the saturated one spans
pub record IsReducedOf (saturated : BasisView) (basis : BasisView) : Type 0 where
  pub reduced : IsReducedBasis (lattice_spanned saturated) (vectors_of basis.moves)
  pub lattice : SameLattice (length saturated.grading) (vectors_of saturated.moves) (vectors_of basis.moves)
  pub grading : basis.grading ≡ saturated.grading
  pub kept : IsReducedList basis

-- a stop at a tail, which the book keeps
pub record KeepsTailStop (saturated : BasisView) (before after : Book) : Type 0 where
  pub index : ℕ
  pub stop : OverflowStop
  pub genuine : IsTailOverflow (vectors_of saturated.moves) index (stop_of stop)
  pub kept : after ≡ record before { stop = Some (Overflow (Tail index) stop) }

-- the reduced basis, or why there is none
abbrev pub Reduces : BasisView → Book → Result BasisView RunStop → Book → Type 0
Reduces saturated before (Ok basis) after = IsReducedOf saturated basis × (after ≡ before)
Reduces saturated before (Err Memory) after = after ≡ before
Reduces saturated before (Err Stopped) after = KeepsTailStop saturated before after

-- the essential moves, up to the bound, of what the reduced basis spans
pub record IsMinimalOf (basis : BasisView) (upto : Option ℕ) (list : MoveListView) : Type 0 where
  pub columns : list.columns ≡ length basis.grading
  pub graded : All (IsGraded basis.grading) list.moves
  pub answer : IsAnswer (lattice_spanned basis) upto (vectors_of list.moves)

-- a stop at a weight of the reduced basis, and this basis, which the book keeps
pub record KeepsWeightStop (basis : BasisView) (before after : Book) : Type 0 where
  pub stop : OverflowStop
  pub of_weight : IsPairOfWeight basis.grading (vectors_of basis.moves) (stop_of stop).pair
  pub genuine : IsGenuineOverflow (vectors_of basis.moves) (stop_of stop)
  pub kept : after ≡ record before { reduced = Some basis; stop = Some (Overflow Degree stop) }

-- the essential moves, or why there are none; the book keeps the reduced basis
abbrev pub Minimises : BasisView → Option ℕ → Book → Result MoveListView RunStop → Book → Type 0
Minimises basis upto before (Ok list) after = IsMinimalOf basis upto list × (after ≡ record before { reduced = Some basis })
Minimises basis upto before (Err Memory) after = after ≡ record before { reduced = Some basis }
Minimises basis upto before (Err Stopped) after = KeepsWeightStop basis before after
