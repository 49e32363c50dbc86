-- The one line on the error channel for each refusal that isn't of the input.
use Rattle.std.specs.Prelude.{◌≡◌, ◌⊎◌, ℕ, List, Some, codes, string_bytes}
use Rattle.mk_project.specs.Lines.{input_line}
use Rattle.mk_project.specs.Stops.{overflow_line, budget_line}
use Rattle.mk_project.specs.declared.fault.InputFault.{InputFault}
use Rattle.mk_solve.specs.Books.{Book}
use Rattle.mk_solve.specs.declared.book.BookStop.{BookStop}
use Rattle.mk_solve.specs.declared.book.BookStop.TheVariants as why
use Rattle.mk_words.specs.declared.request.Task.{Task}
use Rattle.mk_words.specs.declared.request.Task.TheVariants.{Project, Model}
use Rattle.mk_run.specs.declared.lines.Line.{Line}
use Rattle.mk_run.specs.declared.lines.Line.TheVariants.{Folder, Memory, Made}

-- the program's name, with which its lines begin
abbrev pub program_name : List ℕ
program_name = codes "markov"

abbrev pub usage_line : List ℕ
usage_line =
    codes "usage: markov [--workers N] [--budget N] [--upto W] PROJECT or markov [--workers N] [--budget N] [--upto W] --model RxC[xD]\n"

abbrev pub folder_line : List ℕ
folder_line = codes "markov: a file or stream failed\n"

abbrev pub memory_line : List ℕ
memory_line = codes "markov: out of memory\n"

abbrev pub full_line : List ℕ
full_line = codes "markov: basis holds 65536 moves and needs another\n"

-- the line for why a run stopped
abbrev pub stop_line : BookStop → List ℕ
stop_line (why.Overflow place stop) = overflow_line program_name stop.at
stop_line (why.Budget settled) = budget_line program_name settled
stop_line (why.BasisFull phase i j) = full_line

-- the line for a fault of the project's files
abbrev pub IsInputLine : Task → InputFault → List ℕ → Type 0
IsInputLine (Project name) fault line = line ≡ input_line program_name name fault
IsInputLine (Model sizes) fault line = ⊥

-- the lines that a run may say for what it is asked for: those of its book's fault and stop, and two more
abbrev pub IsLine : Task → Book → List ℕ → Type 0
IsLine task book line =
    (line ≡ folder_line) ⊎ (line ≡ memory_line)
    ⊎ ((fault : InputFault) × (book.input ≡ Some fault) × IsInputLine task fault line)
    ⊎ ((stop : BookStop) × (book.stop ≡ Some stop) × (line ≡ stop_line stop))

-- the text of a line
abbrev pub text_of_line : Line → List ℕ
text_of_line Folder = folder_line
text_of_line Memory = memory_line
text_of_line (Made line) = string_bytes line
