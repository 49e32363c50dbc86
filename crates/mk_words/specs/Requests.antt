-- What the words of the command line ask for.
use Rattle.std.specs.Prelude.{◌≡◌, ◌≢◌, ◌⊎◌, ℕ, ◌<◌, ◌≤◌, Bool, true, false, if◌then◌else◌, List, [], ◌∷◌, ◌++◌, length, slice_index, Option, Some, None}
use Rattle.std.specs.List.{AllZip, flat_map}
use Rattle.std.specs.Str.Parse.{digits_value}
use Rattle.mk_model.specs.Tables.{AreDigits}
use Rattle.mk_words.specs.declared.options.Setting.{Setting}
use Rattle.mk_words.specs.declared.options.Setting.TheVariants.{Workers, Budget, Upto, Model}
use Rattle.mk_words.specs.declared.request.Request.{Request}
use Rattle.mk_words.specs.declared.request.Task.{Task}
use Rattle.mk_words.specs.declared.request.Task.TheVariants as task
use Rattle.mk_words.specs.SmallSizes.{product}
use Rattle.mk_words.specs.Words.{Word, Piece, option, plain, IsCommandLine}

-- is it the same option
abbrev pub same : Setting → Setting → Bool
same Workers Workers = true
same Budget Budget = true
same Upto Upto = true
same Model Model = true
same _ _ = false

-- the values that a piece, and that pieces, give the option
abbrev pub value_of : Setting → Piece → List Word
value_of s (option t v) = if same s t then v ∷ [] else []
value_of s (plain w) = []

abbrev pub values_of : Setting → List Piece → List Word
values_of s pieces = flat_map (value_of s) pieces

-- the plain words
abbrev pub plain_of : Piece → List Word
plain_of (option s v) = []
plain_of (plain w) = w ∷ []

abbrev pub plains_of : List Piece → List Word
plains_of pieces = flat_map plain_of pieces

-- the word writes this number, which is in the range: digits, with any zeros in front
pub record IsNumberIn (least most : ℕ) (word : Word) (n : ℕ) : Type 0 where
  pub digits : AreDigits word
  pub value : n ≡ digits_value 10 word
  pub above : least ≤ n
  pub below : n ≤ most

-- the number of an option that is given at most once: its value, and else the default
abbrev pub IsChosen : ℕ → ℕ → ℕ → List Word → ℕ → Type 0
IsChosen least most default [] n = n ≡ default
IsChosen least most default (v ∷ []) n = IsNumberIn least most v n
IsChosen least most default (v ∷ u ∷ more) n = ⊥

-- the number of an option that is given at most once, and none where it is not given
abbrev pub IsBound : ℕ → List Word → Option ℕ → Type 0
IsBound most [] bound = bound ≡ None
IsBound most (v ∷ []) bound = (n : ℕ) × (bound ≡ Some n) × IsNumberIn 0 most v n
IsBound most (v ∷ u ∷ more) bound = ⊥

-- the words one after another with `x` between them
abbrev pub with_crosses : List Word → Word
with_crosses [] = []
with_crosses (word ∷ []) = word
with_crosses (word ∷ next ∷ words) = word ++ 120 ∷ with_crosses (next ∷ words)

-- the words write two or three numbers from 2 to 16, of a product of at most 512
pub record WriteSizes (words : List Word) (numbers : List ℕ) : Type 0 where
  pub each : AllZip (IsNumberIn 2 16) words numbers
  pub some : 2 ≤ length numbers
  pub few : length numbers ≤ 3
  pub small : product numbers ≤ 512

-- the word writes such numbers with `x` between them
pub record AreSizes (word : Word) (numbers : List ℕ) : Type 0 where
  pub words : List Word
  pub crossed : word ≡ with_crosses words
  pub sizes : WriteSizes words numbers

-- the word is these two, with its first `x` between them
pub record IsCutAtCross (word front behind : Word) : Type 0 where
  pub whole : word ≡ front ++ 120 ∷ behind
  pub none_before : (k : ℕ) → k < length front → slice_index front k ≢ 120

-- the task: the one plain word is a project, and is not empty; or there are the sizes of a model and no plain word
abbrev pub IsTask : List Word → List Word → Task → Type 0
IsTask [] (w ∷ []) (task.Project name) = (name ≡ w) × (0 < length w)
IsTask (v ∷ []) [] (task.Model sizes) = AreSizes v sizes
IsTask _ _ _ = ⊥

-- the pieces ask for this
pub record Asks (pieces : List Piece) (request : Request) : Type 0 where
  pub workers : IsChosen 1 64 4 (values_of Workers pieces) request.workers
  pub budget : IsChosen 0 100000000 20000000 (values_of Budget pieces) request.budget
  pub upto : IsBound 18446744073709551615 (values_of Upto pieces) request.upto
  pub task : IsTask (values_of Model pieces) (plains_of pieces) request.task

-- The words ask for this. Where they ask for nothing, they are not in the language.
pub record IsRequest (words : List Word) (request : Request) : Type 0 where
  pub pieces : List Piece
  pub line : IsCommandLine words pieces
  pub asked : Asks pieces request

-- the words ask for nothing else
abbrev pub IsOnlyRequest : List Word → Request → Type 0
IsOnlyRequest words request = (other : Request) → IsRequest words other → other ≡ request

-- the words ask for nothing: they are not in the language
abbrev pub AreWrong : List Word → Type 0
AreWrong words = (request : Request) → IsRequest words request → ⊥

-- the words are not in the language, or ask for one worker
abbrev pub WantOne : List Word → Type 0
WantOne words = AreWrong words ⊎ ((request : Request) × IsRequest words request × (request.workers ≡ 1))
