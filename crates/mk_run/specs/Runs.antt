-- How a run ends. The headline is `GivesMarkovBasis`.
use Rattle.std.specs.Prelude.{◌≡◌, ◌⊎◌, ℕ, ◌+◌, ◌≤◌, List, ◌++◌, length, take, Option, Some, None, IfSome, ℤ, codes}
use Rattle.std.specs.FinMap.{insert}
use Rattle.std.specs.Option.{option_map}
use Rattle.mk_model.specs.Bases.{IsMinimalMarkovBasis}
use Rattle.mk_model.specs.Books.{IsBudgetUsed, IsNoOtherStop}
use Rattle.mk_model.specs.Lattices.{nonzero_rows}
use Rattle.mk_model.specs.Tables.{lattice_of_table, Grid, rows_of}
use Rattle.mk_model.specs.Texts.{move_text}
use Rattle.mk_desk.specs.Folders.{Desk, Files, State, OnlyFaultsRose, Rose}
use Rattle.mk_desk.specs.declared.folder.Found.TheVariants.{Absent}
use Rattle.mk_project.specs.declared.file.InputFile.{InputFile}
use Rattle.mk_project.specs.declared.file.TheConstants.{FILE_LIMIT}
use Rattle.mk_project.specs.declared.fault.InputFault.{InputFault}
use Rattle.mk_project.specs.declared.fault.InputFault.TheVariants.{FileSize}
use Rattle.mk_input.specs.Projects.{project_files, IsProblem}
use Rattle.mk_input.specs.Readings.{IsShownBy}
use Rattle.mk_solve.specs.Books.{Book, empty_book, book_as, stop_as}
use Rattle.mk_solve.specs.Solutions.{BookCompletes, BookBegins, BookStops}
use Rattle.mk_solve.specs.declared.book.BookStop.{BookStop}
use Rattle.mk_words.specs.declared.request.Request.{Request}
use Rattle.mk_words.specs.declared.request.Task.{Task}
use Rattle.mk_words.specs.declared.request.Task.TheVariants.{Project, Model}
use Rattle.mk_run.specs.Asked.{IsOfProject, IsAsked, HasInputFault, ForLatticeOf, ForSomeLattice, model_lattice, model_summary}
use Rattle.mk_run.specs.Lines.{IsInputLine, IsLine, usage_line, folder_line, memory_line, stop_line}
use Rattle.mk_run.specs.Statuses.{status_of}
use Rattle.mk_run.specs.declared.status.Status.{Status}
use Rattle.mk_run.specs.declared.status.Status.TheVariants.{Done, Usage, Input, Folder, Overflow, Budget, Memory, Full}

-- the name of the answer's file
abbrev pub mar_name : List ℕ → List ℕ
mar_name project = project ++ codes ".mar"

-- ---- the answer
-- The files are the table of a lattice, and of a matrix and a grade where these are there, each read to its end, with the grading that
-- is chosen for them. Afterwards the files are those from before with the text of the lattice's minimal Markov basis up to the bound
-- as the project's `.mar`, and nothing was said on either channel.
pub record WritesMarkovBasis (project : List ℕ) (upto : Option ℕ) (before after : Desk) : Type 0 where
  pub lat : Grid
  pub grading : List ℤ
  pub problem : IsProblem (project_files before.files project) lat grading
  pub moves : List (List ℤ)
  pub basis : IsMinimalMarkovBasis (lattice_of_table lat grading) upto moves
  pub files : after.files ≡ insert before.files (mar_name project) (move_text lat.columns moves)
  pub out : after.out ≡ before.out
  pub errors : after.errors ≡ before.errors

-- The summary of the minimal Markov basis of the made table, up to the bound, was said on the out channel. Nothing else was said,
-- and no file was changed or begun.
pub record SaysMarkovBasis (sizes : List ℕ) (upto : Option ℕ) (before after : Desk) : Type 0 where
  pub moves : List (List ℤ)
  pub basis : IsMinimalMarkovBasis (model_lattice sizes) upto moves
  pub change : after ≡ record before { rest = after.rest; out = before.out ++ model_summary sizes moves }

-- The headline: the minimal Markov basis of what is asked for, up to a bound, is written or said.
abbrev pub GivesMarkovBasis : Task → Option ℕ → Desk → Desk → Type 0
GivesMarkovBasis (Project name) upto before after = WritesMarkovBasis name upto before after
GivesMarkovBasis (Model sizes) upto before after = SaysMarkovBasis sizes upto before after

-- ---- what the book says of the lattice
-- the book is complete for the lattice that is asked for
abbrev pub BooksProblem : Task → Files → Book → Type 0
BooksProblem task files book = ForLatticeOf task files (BookCompletes book)

-- ---- what each status is caused by, in what the book has and in what every folder has
-- the empty book with a fault of the input
abbrev pub refused_book : InputFault → Book
refused_book fault = record empty_book { input = Some fault }

-- neither a fault nor a stop
abbrev pub HasNeither : Book → Type 0
HasNeither book = (book.input ≡ None) × (book.stop ≡ None)

-- no fault and no stop, and the book is complete
abbrev pub HasCompleteBook : Task → Book → Type 0
HasCompleteBook task book = HasNeither book × ForSomeLattice task (BookCompletes book)

-- no fault and no stop, and the phases that stand in the book are ended
abbrev pub IsUnderWay : Task → Book → Type 0
IsUnderWay task book = HasNeither book × ForSomeLattice task (BookBegins book)

-- no fault, and a stop with its cause
abbrev pub HasItsStop : Request → Book → BookStop → Type 0
HasItsStop request book stop =
    (book.input ≡ None) × (book.stop ≡ Some stop) × ForSomeLattice request.task (BookStops request.budget book stop)

-- a stop of this status
abbrev pub HasStopOf : Request → Status → Book → Type 0
HasStopOf request status book = (stop : BookStop) × HasItsStop request book stop × (status_of stop ≡ status)

-- a fault of a project's input, and nothing else
abbrev pub HasFaultAlone : Task → Book → Type 0
HasFaultAlone task book = IsOfProject task × ((fault : InputFault) × (book ≡ refused_book fault))

-- The folder failed while the project was read, and the last `start_read` was not answered Absent; or it failed once the book was
-- complete.
abbrev pub HasFailedBook : Task → Book → State → Type 0
HasFailedBook task book after = (IsOfProject task × (book ≡ empty_book) × ¬ (after.found ≡ Some Absent)) ⊎ HasCompleteBook task book

-- Nothing, or a fault alone, or phases that are ended and neither a fault nor a stop, or a stop with its cause.
abbrev pub HasLeftBook : Request → Book → Type 0
HasLeftBook request book =
    (book ≡ empty_book) ⊎ HasFaultAlone request.task book
    ⊎ IsUnderWay request.task book ⊎ ((stop : BookStop) × HasItsStop request book stop)

-- Each status of a run on a request with its cause. Want of memory is free, but what the book then has has its cause. No file is left
-- being made, but where the folder failed or memory ran out. A made table has no fault.
abbrev pub HasCauseOf : Request → Book → State → State → Status → Type 0
HasCauseOf request book before after Done =
    HasCompleteBook request.task book × (after.making ≡ before.making) × (after.faults ≡ before.faults)
HasCauseOf request book before after Usage = ⊥
HasCauseOf request book before after Input = HasFaultAlone request.task book × (after.making ≡ before.making)
HasCauseOf request book before after Folder = HasFailedBook request.task book after × Rose before.faults after.faults
HasCauseOf request book before after Overflow = HasStopOf request Overflow book × (after.making ≡ before.making)
HasCauseOf request book before after Budget = HasStopOf request Budget book × (after.making ≡ before.making)
HasCauseOf request book before after Memory = HasLeftBook request book
HasCauseOf request book before after Full = HasStopOf request Full book × (after.making ≡ before.making)

-- Where the budget was used and a pair of the last phase is left, the status says so, unless the run stopped by an entry out of range or a
-- full basis, or memory ran out.
abbrev pub EndsByBudget : ℕ → Book → Status → Type 0
EndsByBudget budget book status =
    IsBudgetUsed budget (book_as book) → IsNoOtherStop (option_map stop_as book.stop) → (status ≡ Budget) ⊎ (status ≡ Memory)

-- The book's fault is as the folder showed it, and one byte more than a file may have was given only where a file is too long,
-- unless memory ran out.
pub record InputIsShown (input : Option InputFault) (after : State) (status : Status) : Type 0 where
  pub faulty : (fault : InputFault) → input ≡ Some fault → IsShownBy after fault
  pub too_long : after.given ≡ FILE_LIMIT + 1 → ((file : InputFile) × (input ≡ Some (FileSize file (FILE_LIMIT + 1)))) ⊎ (status ≡ Memory)

-- For a project the input is so shown; for a made table no file was touched.
abbrev pub IsShownFor : Task → Option InputFault → State → State → Status → Type 0
IsShownFor (Project name) input before after status = InputIsShown input after status
IsShownFor (Model sizes) input before after status = OnlyFaultsRose before after

-- The words are not read as a request: they aren't one, or memory ran out. The book stays empty, and no file was touched.
pub record IsUnread (book : Book) (before after : State) (status : Status) : Type 0 where
  pub empty : book ≡ empty_book
  pub untouched : OnlyFaultsRose before after
  pub ended : (status ≡ Usage) ⊎ (status ≡ Memory)

-- ---- what a refusal says and leaves, in a folder that tells
-- Only the line was said, on the error channel: all of it, or a front of it where the folder's faults rose. No file was
-- begun.
pub record SaysLine (line : List ℕ) (rose : Type 0) (before after : Desk) : Type 0 where
  pub count : ℕ
  pub whole : (length line ≤ count) ⊎ rose
  pub change : after ≡ record before { rest = after.rest; errors = before.errors ++ take count line }

-- the book's fault is one that the project's files have, and only its line was said
pub record RefusesInput (task : Task) (book : Book) (rose : Type 0) (before after : Desk) : Type 0 where
  pub fault : InputFault
  pub kept : book.input ≡ Some fault
  pub faulty : HasInputFault task before.files fault
  pub line : List ℕ
  pub named : IsInputLine task fault line
  pub said : SaysLine line rose before after

-- the book's stop has its cause in the lattice that is asked for, within the budget
abbrev pub HasStop : Request → Files → Book → BookStop → Type 0
HasStop request files book stop = ForLatticeOf request.task files (BookStops request.budget book stop)

-- the book's stop is one of this status and has its cause, and only its line was said
pub record IsStopped (request : Request) (book : Book) (status : Status) (rose : Type 0) (before after : Desk) : Type 0 where
  pub stop : BookStop
  pub kept : book.stop ≡ Some stop
  pub named : status_of stop ≡ status
  pub cause : HasStop request before.files book stop
  pub line : SaysLine (stop_line stop) rose before after

-- The project's `.mar` was begun: its bytes so far are a front of the answer's text.
pub record IsBegun (project : List ℕ) (upto : Option ℕ) (book : Book) (before after : Desk) : Type 0 where
  pub lat : Grid
  pub grading : List ℤ
  pub problem : IsProblem (project_files before.files project) lat grading
  pub complete : BookCompletes book (lattice_of_table lat grading)
  pub moves : List (List ℤ)
  pub basis : IsMinimalMarkovBasis (lattice_of_table lat grading) upto moves
  pub name : after.made_name ≡ mar_name project
  pub count : ℕ
  pub made : after.made ≡ take count (move_text lat.columns moves)

-- a front of the summary was said
pub record IsHalfSaid (sizes : List ℕ) (upto : Option ℕ) (book : Book) (before after : Desk) : Type 0 where
  pub complete : BookCompletes book (model_lattice sizes)
  pub moves : List (List ℤ)
  pub basis : IsMinimalMarkovBasis (model_lattice sizes) upto moves
  pub count : ℕ
  pub out : after.out ≡ before.out ++ take count (model_summary sizes moves)

-- the file being made is the one from before
abbrev pub IsMadeAsBefore : Desk → Desk → Type 0
IsMadeAsBefore before after = (after.made_name ≡ before.made_name) × (after.made ≡ before.made)

-- What is left of the answer. Of a project: a file that was begun is the answer's, and nothing was said on the out channel. Of a made
-- table: a front of its summary was said, or nothing, and no file was begun.
abbrev pub LeavesAnswer : Task → Option ℕ → Book → Desk → Desk → Type 0
LeavesAnswer (Project name) upto book before after =
    (after.out ≡ before.out) × (IsMadeAsBefore before after ⊎ IsBegun name upto book before after)
LeavesAnswer (Model sizes) upto book before after =
    IsMadeAsBefore before after × ((after.out ≡ before.out) ⊎ IsHalfSaid sizes upto book before after)

-- No file changed, and nothing was said on the error channel but a front of one of those lines.
pub record Leaves (request : Request) (book : Book) (IsOne : List ℕ → Type 0) (before after : Desk) : Type 0 where
  pub files : after.files ≡ before.files
  pub answer : LeavesAnswer request.task request.upto book before after
  pub line : List ℕ
  pub one : IsOne line
  pub count : ℕ
  pub errors : after.errors ≡ before.errors ++ take count line

-- Memory ran out. No file changed, and a fault or a stop that the book has is one that what is asked for has.
pub record RunsOut (request : Request) (book : Book) (before after : Desk) : Type 0 where
  pub faulty : IfSome book.input (HasInputFault request.task before.files)
  pub stopped : IfSome book.stop (HasStop request before.files book)
  pub left : Leaves request book (IsLine request.task book) before after

-- how a run on a request ends
abbrev pub Ends : Request → Book → Type 0 → Status → Desk → Desk → Type 0
Ends request book rose Done before after =
    GivesMarkovBasis request.task request.upto before after × BooksProblem request.task before.files book
Ends request book rose Usage before after = ⊥
Ends request book rose Input before after = RefusesInput request.task book rose before after
Ends request book rose Folder before after = Leaves request book (λ line. line ≡ folder_line) before after
Ends request book rose Overflow before after = IsStopped request book Overflow rose before after
Ends request book rose Budget before after = IsStopped request book Budget rose before after
Ends request book rose Memory before after = RunsOut request book before after
Ends request book rose Full before after = IsStopped request book Full rose before after

-- How a run ends whose words are not in the language: the usage line was said. Where memory ran out, a front of it, or of that line.
abbrev pub EndsUnasked : Type 0 → Status → Desk → Desk → Type 0
EndsUnasked rose Usage before after = SaysLine usage_line rose before after
EndsUnasked rose Memory before after = SaysLine usage_line (Unit {0}) before after ⊎ SaysLine memory_line (Unit {0}) before after
EndsUnasked rose Done before after = ⊥
EndsUnasked rose Input before after = ⊥
EndsUnasked rose Folder before after = ⊥
EndsUnasked rose Overflow before after = ⊥
EndsUnasked rose Budget before after = ⊥
EndsUnasked rose Full before after = ⊥

-- ---- what is decided by what is asked for
-- the run ended so, unless the folder's count of faults rose or memory ran out
abbrev pub Unless : Type 0 → Status → Type 0 → Type 0
Unless rose status ending = ending ⊎ rose ⊎ (status ≡ Memory)

-- A fault that the files have is answered, and kept. A lattice with its grading is answered, or the run stops, which it never does
-- where the lattice has at most one row that isn't zero.
pub record IsDecided (request : Request) (book : Book) (rose : Type 0) (status : Status) (before after : Desk) : Type 0 where
  pub faulty : (fault : InputFault) → HasInputFault request.task before.files fault
      → Unless rose status ((status ≡ Input) × (book.input ≡ Some fault))
  pub solvable : (lat : Grid) (grading : List ℤ) → IsAsked request.task before.files lat grading
      → Unless rose status ((status ≡ Done) ⊎ HasStopOf request status book)
  pub one_row : (lat : Grid) (grading : List ℤ) → IsAsked request.task before.files lat grading
      → length (nonzero_rows (rows_of lat)) ≤ 1 → Unless rose status (status ≡ Done)
