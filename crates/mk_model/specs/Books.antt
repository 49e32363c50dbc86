-- What the book of a run says of a lattice, as plain data: its phases, one after another, the reduced basis, and why it
-- stopped. (Sturmfels, chapters 1, 5 and 12: saturation; Hemmecke and Malkin 2009. The book is this project's own.)
use Rattle.std.specs.Prelude.{◌≡◌, ◌⊎◌, ℕ, ◌+◌, ◌<◌, List, [], ◌∷◌, ◌++◌, length, Option, None, Some, ℤ}
use Rattle.std.specs.List.{AllZip}
use Rattle.mk_model.specs.CoreStates.{Pair, Settle, CoreState, OverflowStop, phase_state, start_of, IsFree}
use Rattle.mk_model.specs.Events.{IsFull, IsPairOverflow}
use Rattle.mk_model.specs.FreeColumns.{bound_columns}
use Rattle.mk_model.specs.Lattices.{Lattice, nonzero_rows}
use Rattle.mk_model.specs.Legal.{IsLegal, IsEnded}
use Rattle.mk_model.specs.Orders.{standard, list_of_column, IsRowTurned}
use Rattle.mk_model.specs.Overflows.{IsGenuineOverflow, IsTailOverflow, IsPairOfWeight}
use Rattle.mk_model.specs.ReducedBases.{IsReducedBasis}
use Rattle.mk_model.specs.Saturation.{drop_redundant}

-- a completion as it was left: its priority list, how many moves it began with, its moves, and its journal
pub record PlainPhase : Type 0 where
  pub priority : List ℕ
  pub start_length : ℕ
  pub basis : List (List ℤ)
  pub journal : List Settle

-- the phases in their order, and the reduced basis once it is made
pub record PlainBook : Type 0 where
  pub phases : List PlainPhase
  pub reduced : Option (List (List ℤ))

-- Where an entry left the range: at a pair of the phase of a number, in a step on the tail of the move of an index, or at a
-- weight.
pub data PlainPlace : Type 0 where
  AtPair : ℕ → PlainPlace
  AtTail : ℕ → PlainPlace
  AtWeight : PlainPlace

-- Why a run stopped: an entry left the range; so many pairs are settled, and one is left; or the basis of the phase of a number
-- has its limit of moves, and a pair needs another.
pub data PlainStop : Type 0 where
  Overflow : PlainPlace → OverflowStop → PlainStop
  Budget : ℕ → PlainStop
  Full : ℕ → Pair → PlainStop

-- how many pairs the phases settled together
unfoldable pub settled_in : List PlainPhase → ℕ
settled_in [] = 0
settled_in (phase ∷ phases) = length phase.journal + settled_in phases

-- the phase as a state without workers, with the limit of 65,536 moves and as many pairs as its journal has for its budget
abbrev pub state_in : PlainPhase → CoreState
state_in phase = phase_state phase.start_length phase.basis phase.journal (length phase.journal) 65536

-- ---- phases, one after another
-- the lists of the phases: for each of these columns the one that names it first, and then the standard list
abbrev pub lists_for : ℕ → List ℕ → List (List ℕ)
lists_for n [] = standard n ∷ []
lists_for n (column ∷ columns) = list_of_column n column ∷ lists_for n columns

-- a phase along a list, which begins with these moves, each turned by the list, and is legal
pub record IsPhaseAlong (n : ℕ) (moves : List (List ℤ)) (list : List ℕ) (phase : PlainPhase) : Type 0 where
  pub priority : phase.priority ≡ list
  pub begun : AllZip (IsRowTurned list) moves (start_of (state_in phase))
  pub legal : IsLegal n list (state_in phase)

-- every pair of its basis is settled
abbrev pub IsPhaseEnded : PlainPhase → Type 0
IsPhaseEnded phase = IsEnded (state_in phase)

-- Phases that are ended lead from the moves and the lists to what is left of both: each begins with the moves so far, along
-- the next list, and leaves those of its moves that are not redundant.
abbrev pub Saturate : ℕ → List (List ℤ) → List (List ℕ) → List PlainPhase → List (List ℤ) → List (List ℕ) → Type 0
Saturate n moves lists [] rest left = (rest ≡ moves) × (left ≡ lists)
Saturate n moves [] (phase ∷ phases) rest left = ⊥
Saturate n moves (list ∷ lists) (phase ∷ phases) rest left =
    IsPhaseAlong n moves list phase × IsPhaseEnded phase × Saturate n (drop_redundant phase.basis) lists phases rest left

-- the phases of a lattice, as far as they are ended: for each column that isn't free, and then the last
abbrev pub SaturateLattice : Lattice → List PlainPhase → List (List ℤ) → List (List ℕ) → Type 0
SaturateLattice lattice phases rest left =
    Saturate lattice.columns (nonzero_rows lattice.rows) (lists_for lattice.columns (bound_columns lattice.columns lattice.rows))
    phases rest left

-- Every phase is ended, and the reduced basis of the lattice is made.
pub record BookIsComplete (lattice : Lattice) (book : PlainBook) : Type 0 where
  pub rest : List (List ℤ)
  pub phases : SaturateLattice lattice book.phases rest []
  pub basis : List (List ℤ)
  pub made : book.reduced ≡ Some basis
  pub reduced : IsReducedBasis lattice basis

-- The phases that stand there are ended, and the reduced basis is made only where they are all.
pub record BookIsUnderWay (lattice : Lattice) (book : PlainBook) : Type 0 where
  pub rest : List (List ℤ)
  pub left : List (List ℕ)
  pub phases : SaturateLattice lattice book.phases rest left
  pub reduced : (book.reduced ≡ None) ⊎ BookIsComplete lattice book

-- ---- why a run stopped
-- Each phase before this one, which is the last and has this number, is ended.
pub record StandsAt (lattice : Lattice) (book : PlainBook) (number : ℕ) (phase : PlainPhase) : Type 0 where
  pub earlier : List PlainPhase
  pub all : book.phases ≡ earlier ++ phase ∷ []
  pub counted : number ≡ length earlier
  pub moves : List (List ℤ)
  pub list : List ℕ
  pub left : List (List ℕ)
  pub before : SaturateLattice lattice earlier moves (list ∷ left)
  pub along : IsPhaseAlong lattice.columns moves list phase
  pub not_reduced : book.reduced ≡ None

-- Every phase is ended, and an entry left the range in a step on the tail of a move that is left.
pub record StopsAtTail (lattice : Lattice) (book : PlainBook) (index : ℕ) (stop : OverflowStop) : Type 0 where
  pub rest : List (List ℤ)
  pub phases : SaturateLattice lattice book.phases rest []
  pub genuine : IsTailOverflow rest index stop
  pub not_reduced : book.reduced ≡ None

-- Every phase is ended, and the reduced basis is made. An entry left the range at a pair of it whose weight is that of a move.
pub record StopsAtWeight (lattice : Lattice) (book : PlainBook) (stop : OverflowStop) : Type 0 where
  pub done : BookIsComplete lattice book
  pub of_weight : IsPairOfWeight lattice.grading done.basis stop.pair
  pub genuine : IsGenuineOverflow done.basis stop

-- The cause of each stop, by what the book keeps: with a stop at a pair, by the budget or by a full basis a pair of the last
-- phase is not settled, and it is by the budget exactly where as many pairs are settled as that has.
abbrev pub HasStopped : Lattice → ℕ → PlainBook → PlainStop → Type 0
HasStopped lattice budget book (Overflow (AtPair number) stop) =
    (phase : PlainPhase) × StandsAt lattice book number phase × IsFree (state_in phase) stop.pair × IsPairOverflow phase.basis stop
    × (settled_in book.phases < budget)
HasStopped lattice budget book (Overflow (AtTail index) stop) = StopsAtTail lattice book index stop
HasStopped lattice budget book (Overflow AtWeight stop) = StopsAtWeight lattice book stop
HasStopped lattice budget book (Budget settled) =
    (settled ≡ settled_in book.phases) × (settled ≡ budget)
    × ((number : ℕ) × (phase : PlainPhase) × StandsAt lattice book number phase × ((pair : Pair) × IsFree (state_in phase) pair))
HasStopped lattice budget book (Full number pair) =
    (phase : PlainPhase) × StandsAt lattice book number phase × IsFull (state_in phase) pair × IsFree (state_in phase) pair
    × (settled_in book.phases < budget)

-- the phases settled as many pairs as the budget has, and a pair of the last one is not settled
pub record IsBudgetUsed (budget : ℕ) (book : PlainBook) : Type 0 where
  pub used : settled_in book.phases ≡ budget
  pub earlier : List PlainPhase
  pub phase : PlainPhase
  pub last : book.phases ≡ earlier ++ phase ∷ []
  pub pair : Pair
  pub left : IsFree (state_in phase) pair

-- no stop, or one by the budget: none by an entry out of range or a full basis
abbrev pub IsNoOtherStop : Option PlainStop → Type 0
IsNoOtherStop None = Unit {0}
IsNoOtherStop (Some (Overflow place stop)) = ⊥
IsNoOtherStop (Some (Budget settled)) = Unit {0}
IsNoOtherStop (Some (Full number pair)) = ⊥
