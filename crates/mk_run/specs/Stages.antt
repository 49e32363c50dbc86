-- What the stages of a run do, one after another.
use Rattle.std.specs.Prelude.{◌≡◌, ◌⊎◌, ◌+◌, ℕ, List, take, map, false, Some, Result, Ok, Err, IsErrOf, OnOk}
use Rattle.std.specs.FinMap.{insert}
use Rattle.std.specs.Option.{option_map}
use Rattle.mk_model.specs.Books.{IsBudgetUsed, IsNoOtherStop}
use Rattle.mk_model.specs.Tables.{Grid}
use Rattle.mk_move.specs.MoveLists.{MoveListView}
use Rattle.mk_desk.specs.Folders.{Desk, State, OnlyFaultsRose, OnlyReadingMoved}
use Rattle.mk_desk.specs.Transfers.{SaysAll}
use Rattle.mk_desk.specs.declared.folder.Channel.TheVariants.{Out}
use Rattle.mk_desk.specs.declared.folder.DeskFault.{DeskFault}
use Rattle.mk_desk.specs.declared.folder.DeskFault.TheVariants as desk
use Rattle.mk_gen.specs.Summaries.{summary_text}
use Rattle.mk_project.specs.declared.file.InputFile.{InputFile}
use Rattle.mk_project.specs.declared.file.TheConstants.{FILE_LIMIT}
use Rattle.mk_project.specs.declared.fault.InputFault.{InputFault}
use Rattle.mk_project.specs.declared.fault.InputFault.TheVariants.{FileSize}
use Rattle.mk_input.specs.Readings.{OnlyRead, IsShown, IsShownBy}
use Rattle.mk_input.specs.declared.fault.ReadFault.{ReadFault}
use Rattle.mk_input.specs.declared.fault.ReadFault.TheVariants as read
use Rattle.mk_input.specs.declared.problem.Problem.{Problem}
use Rattle.mk_writer.specs.Writing.{text_of}
use Rattle.mk_solve.specs.Books.{Book, empty_book, book_as, stop_as}
use Rattle.mk_solve.specs.declared.book.BookStop.{BookStop}
use Rattle.mk_solve.specs.declared.book.BookStop.TheVariants.{Budget}
use Rattle.mk_solve.specs.declared.solving.RunStop.{RunStop}
use Rattle.mk_solve.specs.declared.solving.RunStop.TheVariants as solve
use Rattle.mk_words.specs.declared.request.Request.{Request}
use Rattle.mk_words.specs.declared.request.Task.{Task}
use Rattle.mk_words.specs.declared.request.Task.TheVariants.{Project, Model}
use Rattle.mk_run.specs.Asked.{IsOfProject, IsAsked, HasInputFault}
use Rattle.mk_run.specs.Lines.{IsInputLine, folder_line, memory_line, stop_line, text_of_line}
use Rattle.mk_run.specs.Runs.{mar_name, GivesMarkovBasis, BooksProblem, HasCompleteBook, IsUnderWay, HasItsStop, HasFailedBook, HasStop, LeavesAnswer}
use Rattle.mk_run.specs.Statuses.{status_of}
use Rattle.mk_run.specs.declared.fault.RunFault.{RunFault}
use Rattle.mk_run.specs.declared.fault.RunFault.TheVariants.{Memory, Failed, Input, Stopped}
use Rattle.mk_run.specs.declared.refusal.Refused.{Refused}
use Rattle.mk_run.specs.declared.status.Status.TheVariants as ended

-- why a project isn't read, a lattice isn't solved, or an answer isn't given, as a run passes it on
abbrev pub read_refused : ReadFault → RunFault
read_refused read.Memory = Memory
read_refused read.Failed = Failed
read_refused (read.Input fault) = Input fault

abbrev pub stop_refused : RunStop → RunFault
stop_refused solve.Memory = Memory
stop_refused solve.Stopped = Stopped

abbrev pub write_refused : DeskFault → RunFault
write_refused desk.Memory = Memory
write_refused desk.Failed = Failed

-- ---- what is asked for
-- For a project reading moves on and shows its faults; for a made table nothing is touched, and only memory can be wanting.
abbrev pub IsFoundFor : Task → State → State → Result Problem ReadFault → Type 0
IsFoundFor (Project name) before after result = OnlyReadingMoved before after × IsShown after result
IsFoundFor (Model sizes) before after result = (after ≡ before) × ((fault : ReadFault) → result ≡ Err fault → fault ≡ read.Memory)

-- The lattice with its grading, or the fault that the project's files have. No cause is given for the others.
abbrev pub FindsProblem : Task → Result Problem ReadFault → Desk → Desk → Type 0
FindsProblem task (Ok problem) before after = IsAsked task before.files problem.lat problem.grading × OnlyRead before after
FindsProblem task (Err (read.Input fault)) before after = HasInputFault task before.files fault × OnlyRead before after
FindsProblem task (Err read.Memory) before after = OnlyRead before after
FindsProblem task (Err read.Failed) before after = OnlyRead before after

-- ---- the answer
-- The project's `.mar` has the text of the list. After a refusal it was begun with a front of the text, or nothing changed.
abbrev pub WritesAnswer : List ℕ → MoveListView → Result Unit DeskFault → Desk → Desk → Type 0
WritesAnswer project list (Ok done) before after =
    after ≡ record before { files = insert before.files (mar_name project) (text_of list); made_name = after.made_name; made = after.made }
WritesAnswer project list (Err fault) before after =
    (after ≡ before) ⊎ ((count : ℕ) × (after ≡ record before { made_name = mar_name project; made = take count (text_of list) }))

-- the summary of a table with this list, by the weights that its moves have
abbrev pub summary_of : List ℕ → Grid → MoveListView → List ℕ
summary_of sizes lat list = summary_text sizes lat.rows lat.columns (map (λ m. m.weight) list.moves)

-- The answer is written for a project. For a made table its summary is said on the out channel, or a front of it.
abbrev pub GivesAnswer : Task → Grid → MoveListView → Result Unit DeskFault → Desk → Desk → Type 0
GivesAnswer (Project name) lat list result before after = WritesAnswer name list result before after
GivesAnswer (Model sizes) lat list result before after = SaysAll Out (summary_of sizes lat list) result before after

-- No file is left being made after an answer; and for a made table none is begun.
abbrev pub GivesState : Task → State → State → Result Unit DeskFault → Type 0
GivesState (Project name) before after result =
    (after ≡ record before { making = after.making; faults = after.faults }) × OnOk result (after.making ≡ false)
GivesState (Model sizes) before after result = OnlyFaultsRose before after

-- ---- the whole of a run, before a refusal is said
-- What the book has where a run got so far, before a fault of the input is kept.
abbrev pub HasBook : Request → Book → State → Result Unit RunFault → Type 0
HasBook request book after (Ok done) = HasCompleteBook request.task book
HasBook request book after (Err (Input fault)) = IsOfProject request.task × (book ≡ empty_book)
HasBook request book after (Err Failed) = HasFailedBook request.task book after
HasBook request book after (Err Stopped) = (stop : BookStop) × HasItsStop request book stop
HasBook request book after (Err Memory) = (book ≡ empty_book) ⊎ IsUnderWay request.task book

-- Where the budget was used and a pair is left, that stopped the run, unless an entry out of range or a full basis did.
abbrev pub IsStoppedByBudget : ℕ → Book → Result Unit RunFault → Type 0
IsStoppedByBudget budget book result =
    IsBudgetUsed budget (book_as book) → IsNoOtherStop (option_map stop_as book.stop)
    → (result ≡ Err Stopped) × (book.stop ≡ Some (Budget budget))

-- the book with the fault of the input kept
abbrev pub book_with : Book → RunFault → Book
book_with book (Input fault) = record book { input = Some fault }
book_with book Failed = book
book_with book Stopped = book
book_with book Memory = book

-- the status and the line for why a run has no answer
abbrev pub IsRunRefusal : Task → Book → RunFault → Refused → Type 0
IsRunRefusal task book Memory refusal = (refusal.status ≡ ended.Memory) × (text_of_line refusal.line ≡ memory_line)
IsRunRefusal task book Failed refusal = (refusal.status ≡ ended.Folder) × (text_of_line refusal.line ≡ folder_line)
IsRunRefusal task book (Input fault) refusal = (refusal.status ≡ ended.Input) × IsInputLine task fault (text_of_line refusal.line)
IsRunRefusal task book Stopped refusal =
    (stop : BookStop) × (book.stop ≡ Some stop) × (refusal.status ≡ status_of stop) × (text_of_line refusal.line ≡ stop_line stop)

-- nothing changed but what was read, or the answer was begun
pub record LeavesBegun (request : Request) (book : Book) (before after : Desk) : Type 0 where
  pub files : after.files ≡ before.files
  pub errors : after.errors ≡ before.errors
  pub answer : LeavesAnswer request.task request.upto book before after

-- the whole of a run on a request, before a refusal is said
abbrev pub Answers : Request → Book → Result Unit RunFault → Desk → Desk → Type 0
Answers request book (Ok done) before after =
    GivesMarkovBasis request.task request.upto before after × BooksProblem request.task before.files book
Answers request book (Err (Input fault)) before after = HasInputFault request.task before.files fault × OnlyRead before after
Answers request book (Err Stopped) before after =
    ((stop : BookStop) × (book.stop ≡ Some stop) × HasStop request before.files book stop) × OnlyRead before after
Answers request book (Err Memory) before after = LeavesBegun request book before after
Answers request book (Err Failed) before after = LeavesBegun request book before after

-- Each fault of the input is as the folder showed it, and one byte more than a file may have was given only where a file is too
-- long, unless memory ran out.
pub record IsRunShown {T : Type 0} (after : State) (result : Result T RunFault) : Type 0 where
  pub faulty : (fault : InputFault) → IsErrOf result (Input fault) → IsShownBy after fault
  pub too_long : after.given ≡ FILE_LIMIT + 1
      → ((file : InputFile) × IsErrOf result (Input (FileSize file (FILE_LIMIT + 1)))) ⊎ IsErrOf result Memory

-- for a project the input is so shown; for a made table no file was touched
abbrev pub IsRunShownFor : Task → State → State → Result Unit RunFault → Type 0
IsRunShownFor (Project name) before after result = IsRunShown after result
IsRunShownFor (Model sizes) before after result = OnlyFaultsRose before after

-- no file is being made after an answer, nor after a fault of the input or a stop
abbrev pub IsNotMaking : State → Result Unit RunFault → Type 0
IsNotMaking after (Ok done) = after.making ≡ false
IsNotMaking after (Err (Input fault)) = after.making ≡ false
IsNotMaking after (Err Stopped) = after.making ≡ false
IsNotMaking after (Err Memory) = Unit {0}
IsNotMaking after (Err Failed) = Unit {0}
