-- What the parser of command lines is told, and what it hands back.
use Rattle.std.specs.Prelude.{◌≡◌, ◌⊎◌, ◌≤◌, true, List, [], Some, codes, length}
use Rattle.clap.specs.Words.{App, Rule, new_rule, with_rule, found_of, first_value}
use Rattle.clap.specs.Simple.{new_shape}
use Rattle.clap.specs.declared.parser.matches.ArgMatches.{ArgMatches}
use Rattle.mk_words.specs.declared.options.Setting.{Setting}
use Rattle.mk_words.specs.declared.options.Setting.TheVariants.{Workers, Budget, Upto, Model}
use Rattle.mk_words.specs.declared.request.Request.{Request}
use Rattle.mk_words.specs.Words.{Word, Piece, IsCommandLine}
use Rattle.mk_words.specs.Found.{one_or_none}
use Rattle.mk_words.specs.Requests.{values_of, plains_of, IsChosen, IsBound, IsTask}

-- the option's name without its hyphens
abbrev pub label : Setting → Word
label Workers = codes "workers"
label Budget = codes "budget"
label Upto = codes "upto"
label Model = codes "model"

-- how the plain word is read back
abbrev pub project : Word
project = codes "project"

-- an option, and the plain word: each sets a text
abbrev pub option_rule : Word → Rule
option_rule name = record (new_rule name) { long = Some name }

abbrev pub project_rule : Rule
project_rule = new_rule project

-- the command without its options: it has no flag for help or a version, and its words are all of them
abbrev pub bare_app : App
bare_app = record {
  top = record (new_shape (codes "markov")) { no_binary_name = true; disable_help_flag = true; disable_version_flag = true };
  subs = [];
}

abbrev pub command_app : App
command_app =
    with_rule (with_rule (with_rule (with_rule (with_rule bare_app (option_rule (label Workers))) (option_rule (label Budget))) (option_rule (label Upto))) (option_rule (label Model))) project_rule

-- what the parser found for the option, and for the plain word
abbrev pub given : Setting → ArgMatches → List Word
given s found = one_or_none (first_value (found_of found) (label s))

abbrev pub plains_given : ArgMatches → List Word
plains_given found = one_or_none (first_value (found_of found) project)

-- the values of the options and the plain words ask for this
pub record AskFor (values : Setting → List Word) (plains : List Word) (request : Request) : Type 0 where
  pub workers : IsChosen 1 64 4 (values Workers) request.workers
  pub budget : IsChosen 0 100000000 20000000 (values Budget) request.budget
  pub upto : IsBound 18446744073709551615 (values Upto) request.upto
  pub task : IsTask (values Model) plains request.task

-- the words are a line of these pieces and of no others
pub record IsOnlyLine (words : List Word) (pieces : List Piece) : Type 0 where
  pub line : IsCommandLine words pieces
  pub alone : (other : List Piece) → IsCommandLine words other → other ≡ pieces

-- the words are a line that gives what the parser found, and each option and a plain word at most once
pub record AreGiven (words : List Word) (found : ArgMatches) : Type 0 where
  pub pieces : List Piece
  pub line : IsOnlyLine words pieces
  pub values : (s : Setting) → values_of s pieces ≡ given s found
  pub plains : plains_of pieces ≡ plains_given found

-- an option is given more than once, or there is more than one plain word
abbrev pub AreRepeated : List Piece → Type 0
AreRepeated pieces = ((s : Setting) × (2 ≤ length (values_of s pieces))) ⊎ (2 ≤ length (plains_of pieces))

-- the words are no line, or one with something more than once
abbrev pub AreNotGiven : List Word → Type 0
AreNotGiven words = (pieces : List Piece) → IsCommandLine words pieces → AreRepeated pieces
