-- The words of the command line, as lists of bytes, and the pieces that they are: options with their values, and plain
-- words.
use Rattle.std.specs.Prelude.{◌≡◌, ◌⊎◌, ℕ, ◌≤◌, List, [], ◌∷◌, ◌++◌, length, map, Option, Some, None, slice_get, codes}
use Rattle.mk_words.specs.declared.options.Setting.{Setting}
use Rattle.mk_words.specs.declared.options.Setting.TheVariants.{Workers, Budget, Upto, Model}

abbrev pub Word : Type 0
Word = List ℕ

-- the word that names the option
abbrev pub option_name : Setting → Word
option_name Workers = codes "--workers"
option_name Budget = codes "--budget"
option_name Upto = codes "--upto"
option_name Model = codes "--model"

-- the option and its value as one word, with `=` between them
abbrev pub with_value : Setting → Word → Word
with_value s v = option_name s ++ 61 ∷ v

-- the word `--`, which ends the options
abbrev pub end_of_options : Word
end_of_options = 45 ∷ 45 ∷ []

-- two bytes or more, of which the first is `-`
abbrev pub IsOptionWord : Word → Type 0
IsOptionWord word = (2 ≤ length word) × (slice_get word 0 ≡ Some 45)

-- a piece of the command line: an option with its value, or a plain word
pub data Piece : Type 0 where
  option : Setting → Word → Piece
  plain : Word → Piece

-- The words that a piece is written as, before `--`: an option and its value as two words, of which the value is no
-- option word, or as one; a plain word as itself, where it is no option word.
abbrev pub IsWritten : Piece → List Word → Type 0
IsWritten (option s v) words =
    ((words ≡ option_name s ∷ v ∷ []) × ¬ (IsOptionWord v)) ⊎ (words ≡ with_value s v ∷ [])
IsWritten (plain w) words = (words ≡ w ∷ []) × ¬ (IsOptionWord w)

-- the first of the words are those of the piece, and of the others this holds
pub record AreWrittenFirst (piece : Piece) (words : List Word) (Others : List Word → Type 0) : Type 0 where
  pub first : List Word
  pub rest : List Word
  pub whole : words ≡ first ++ rest
  pub written : IsWritten piece first
  pub others : Others rest

-- the words are those of the pieces, one after another
unfoldable pub AreWritten : List Piece → List Word → Type 0
AreWritten [] words = words ≡ []
AreWritten (piece ∷ pieces) words = AreWrittenFirst piece words (λ rest. AreWritten pieces rest)

-- what stands behind the options: nothing, or `--` and further words
abbrev pub behind : Option (List Word) → List Word
behind None = []
behind (Some later) = end_of_options ∷ later

-- those further words are plain, whatever they begin with
abbrev pub plain_behind : Option (List Word) → List Piece
plain_behind None = []
plain_behind (Some later) = map plain later

-- the words are a line of these pieces: pieces that are written before `--`, and plain words behind it
pub record IsCommandLine (words : List Word) (pieces : List Piece) : Type 0 where
  pub front : List Word
  pub before : List Piece
  pub later : Option (List Word)
  pub written : AreWritten before front
  pub whole : words ≡ front ++ behind later
  pub all : pieces ≡ before ++ plain_behind later
