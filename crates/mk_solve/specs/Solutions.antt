-- How solving a lattice ends, by what the book of the run keeps. (Sturmfels, chapters 1, 5 and 12; Hemmecke and Malkin 2009)
use Rattle.std.specs.Prelude.{◌≡◌, ℕ, ◌≤◌, List, All, Option, None, Some, Result, Ok, Err, IfSome, ℤ}
use Rattle.std.specs.Option.{option_map}
use Rattle.mk_model.specs.Bases.{IsMinimalMarkovBasis}
use Rattle.mk_model.specs.Books.{BookIsComplete, BookIsUnderWay, HasStopped, IsBudgetUsed, IsNoOtherStop}
use Rattle.mk_model.specs.Lattices.{Lattice}
use Rattle.mk_move.specs.Moves.{IsGraded}
use Rattle.mk_move.specs.MoveLists.{MoveListView, IsBasis, vectors_of}
use Rattle.mk_core.specs.declared.phase.Phase.{Phase}
use Rattle.mk_inter.specs.Tails.{IsReducedList}
use Rattle.mk_solve.specs.Books.{Book, book_as, stop_as, settled_of}
use Rattle.mk_solve.specs.declared.book.BookStop.{BookStop}
use Rattle.mk_solve.specs.declared.book.BookStop.TheVariants.{Budget}
use Rattle.mk_solve.specs.declared.solving.RunStop.{RunStop}
use Rattle.mk_solve.specs.declared.solving.RunStop.TheVariants.{Memory, Stopped}

-- the basis of the phase is kept as one with this grading
pub record IsPhaseKept (w : List ℤ) (phase : Phase) : Type 0 where
  pub basis : IsBasis phase.basis
  pub grading : phase.basis.grading ≡ w

-- The bases of the phases have this grading, and so has the reduced basis.
pub record KeepsBases (w : List ℤ) (book : Book) : Type 0 where
  pub phases : All (IsPhaseKept w) book.phases
  pub reduced : IfSome book.reduced (λ basis. IsReducedList basis × (basis.grading ≡ w))

-- ---- what the book says of a lattice
-- every phase is ended, and the reduced basis is made
pub record BookCompletes (book : Book) (lattice : Lattice) : Type 0 where
  pub bases : KeepsBases lattice.grading book
  pub complete : BookIsComplete lattice (book_as book)

-- the phases that stand in it are ended
pub record BookBegins (book : Book) (lattice : Lattice) : Type 0 where
  pub bases : KeepsBases lattice.grading book
  pub under_way : BookIsUnderWay lattice (book_as book)

-- the stop has its cause in the phases or in the reduced basis, within the budget
pub record BookStops (budget : ℕ) (book : Book) (stop : BookStop) (lattice : Lattice) : Type 0 where
  pub bases : KeepsBases lattice.grading book
  pub cause : HasStopped lattice budget (book_as book) (stop_as stop)

-- The list is the one answer up to the bound that the lattice has, each move with its weight, and the book is done with it.
pub record IsSolved (lattice : Lattice) (upto : Option ℕ) (book : Book) (list : MoveListView) : Type 0 where
  pub done : BookIsComplete lattice (book_as book)
  pub columns : list.columns ≡ lattice.columns
  pub graded : All (IsGraded lattice.grading) list.moves
  pub answer : IsMinimalMarkovBasis lattice upto (vectors_of list.moves)

-- At the end the book has no stop; where it stopped the book has the stop, with its cause; where memory ran out it has no stop, and
-- what stands in it was done. No cause is given for want of memory.
abbrev pub EndsWith : Lattice → ℕ → Option ℕ → Result MoveListView RunStop → Book → Type 0
EndsWith lattice budget upto (Ok list) book = (book.stop ≡ None) × IsSolved lattice upto book list
EndsWith lattice budget upto (Err Stopped) book =
    (stop : BookStop) × (book.stop ≡ Some stop) × HasStopped lattice budget (book_as book) (stop_as stop)
EndsWith lattice budget upto (Err Memory) book = (book.stop ≡ None) × BookIsUnderWay lattice (book_as book)

-- Solving a lattice up to a bound: the input has no fault, no more pairs are settled than the budget has, and the end has its cause in the
-- book.
pub record Solves (lattice : Lattice) (budget : ℕ) (upto : Option ℕ) (result : Result MoveListView RunStop) (book : Book) : Type 0 where
  pub input : book.input ≡ None
  pub settled : settled_of book.phases ≤ budget
  pub bases : KeepsBases lattice.grading book
  pub ends : EndsWith lattice budget upto result book

-- Where the phases settled as many pairs as the budget has, and the last has one that is left, then it was the budget that stopped
-- the run, unless it stopped by an entry out of range or a full basis.
abbrev pub StopsByBudget : ℕ → Result MoveListView RunStop → Book → Type 0
StopsByBudget budget result book =
    IsBudgetUsed budget (book_as book) → IsNoOtherStop (option_map stop_as book.stop)
    → (result ≡ Err Stopped) × (book.stop ≡ Some (Budget budget))
