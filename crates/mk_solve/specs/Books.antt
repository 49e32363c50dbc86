-- What a run's book is seen as, and what it says as plain data.
use Rattle.std.specs.Prelude.{◌≡◌, ℕ, ◌<◌, ◌^◌, List, [], length, map, Option, None}
use Rattle.std.specs.Option.{option_map}
use Rattle.mk_model.specs.Books.{PlainPhase, PlainBook, PlainPlace, PlainStop, settled_in}
use Rattle.mk_model.specs.Books.PlainPlace.{AtPair, AtTail, AtWeight}
use Rattle.mk_model.specs.Books.PlainStop.{Overflow as PlainOverflow, Budget as PlainBudget, Full as PlainFull}
use Rattle.mk_model.specs.CoreStates.{pair_of}
use Rattle.mk_move.specs.MoveLists.{BasisView, vectors_of}
use Rattle.mk_journal.specs.Entries.{settles_of}
use Rattle.mk_ledger.specs.Halts.{stop_of}
use Rattle.mk_core.specs.declared.phase.Phase.{Phase}
use Rattle.mk_project.specs.declared.fault.InputFault.{InputFault}
use Rattle.mk_solve.specs.declared.book.BookStop.{BookStop}
use Rattle.mk_solve.specs.declared.book.BookStop.TheVariants.{Overflow, Budget, BasisFull}
use Rattle.mk_solve.specs.declared.book.OverflowPlace.{OverflowPlace}
use Rattle.mk_solve.specs.declared.book.OverflowPlace.TheVariants.{Pair, Tail, Degree}

-- the fault of the input, the phases in their order, the reduced basis once it is made, and why the run stopped
pub record Book : Type 0 where
  pub input : Option InputFault
  pub phases : List Phase
  pub reduced : Option BasisView
  pub stop : Option BookStop

abbrev pub empty_book : Book
empty_book = record { input = None; phases = []; reduced = None; stop = None }

-- ---- as plain data
abbrev pub phase_as : Phase → PlainPhase
phase_as phase = record {
  priority = phase.basis.priority;
  start_length = phase.start_len;
  basis = vectors_of phase.basis.moves;
  journal = settles_of phase.journal;
}

abbrev pub phases_as : List Phase → List PlainPhase
phases_as phases = map phase_as phases

abbrev pub book_as : Book → PlainBook
book_as book = record { phases = phases_as book.phases; reduced = option_map (λ basis. vectors_of basis.moves) book.reduced }

abbrev pub place_as : OverflowPlace → PlainPlace
place_as (Pair phase) = AtPair phase
place_as (Tail index) = AtTail index
place_as Degree = AtWeight

abbrev pub stop_as : BookStop → PlainStop
stop_as (Overflow place stop) = PlainOverflow (place_as place) (stop_of stop)
stop_as (Budget settled) = PlainBudget settled
stop_as (BasisFull phase i j) = PlainFull phase (pair_of i j)

-- how many pairs the phases settled together
abbrev pub settled_of : List Phase → ℕ
settled_of phases = settled_in (phases_as phases)

-- the count of settled pairs is the sum over fewer than 2^32 phases
pub record IsBookKept (settled : ℕ) (phases : List Phase) : Type 0 where
  pub sum : settled ≡ settled_of phases
  pub few : length phases < 2 ^ 32
