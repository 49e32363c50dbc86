-- Reading the words from the left.
use Rattle.std.proofs.Common.{◌≡◌, ◌⊎◌, List, [], ◌∷◌, ◌++◌}
use Rattle.mk_words.specs.declared.options.Setting.{Setting}
use Rattle.mk_words.specs.Words.{Word, Piece, option, plain, option_name, with_value, end_of_options, IsOptionWord, IsCommandLine}

-- what the next word may be: an option, a plain word or the end of the options; the value of the option; a plain word
-- whatever it begins with
pub data Next : Type 0 where
  Any : Next
  Value : Setting → Next
  Plain : Next

-- the piece is the first, and of the others this holds
pub record GoesFrom (piece : Piece) (pieces : List Piece) (Goes : List Piece → Type 0) : Type 0 where
  pub more : List Piece
  pub are : pieces ≡ piece ∷ more
  pub rest : Goes more

-- what the next word may be: the end of the options; the name of one, whose value is behind it; an option with its value; a
-- word that is none
pub record EndsOptions (w : Word) (Goes : Type 0) : Type 0 where
  pub is : w ≡ end_of_options
  pub rest : Goes

pub record NamesOption (w : Word) (Goes : Setting → Type 0) : Type 0 where
  pub setting : Setting
  pub is : w ≡ option_name setting
  pub rest : Goes setting

pub record GivesOption (w : Word) (pieces : List Piece) (Goes : List Piece → Type 0) : Type 0 where
  pub setting : Setting
  pub value : Word
  pub is : w ≡ with_value setting value
  pub first : GoesFrom (option setting value) pieces Goes

pub record GivesWord (w : Word) (piece : Piece) (pieces : List Piece) (Goes : List Piece → Type 0) : Type 0 where
  pub isnt : ¬ (IsOptionWord w)
  pub first : GoesFrom piece pieces Goes

-- the words may go on as these pieces, where the next word may be what `next` says
unfoldable pub GoesOn : List Word → Next → List Piece → Type 0
GoesOn [] Any pieces = pieces ≡ []
GoesOn [] (Value s) pieces = ⊥
GoesOn [] Plain pieces = pieces ≡ []
GoesOn (w ∷ words) Any pieces =
    EndsOptions w (GoesOn words Plain pieces) ⊎ NamesOption w (λ s. GoesOn words (Value s) pieces)
    ⊎ GivesOption w pieces (λ more. GoesOn words Any more) ⊎ GivesWord w (plain w) pieces (λ more. GoesOn words Any more)
GoesOn (w ∷ words) (Value s) pieces = GivesWord w (option s w) pieces (λ more. GoesOn words Any more)
GoesOn (w ∷ words) Plain pieces = GoesFrom (plain w) pieces (λ more. GoesOn words Plain more)

-- all are these pieces, and then others, as which the words may go on
pub record GoesBehind (pieces all : List Piece) (words : List Word) (behind : Next) : Type 0 where
  pub more : List Piece
  pub are : all ≡ pieces ++ more
  pub rest : GoesOn words behind more

pub behind_first : (piece : Piece) (all : List Piece) (words : List Word) (behind : Next) → GoesFrom piece all (λ more. GoesOn words behind more) → GoesBehind (piece ∷ []) all words behind
behind_first piece all words behind h = record { more = h.more; are = h.are; rest = h.rest }

-- the word gives these pieces, and the words behind it go on
pub record Takes (before : Next) (w : Word) (pieces : List Piece) (behind : Next) : Type 0 where
  pub sound : (words : List Word) (more : List Piece) → GoesOn words behind more → GoesOn (w ∷ words) before (pieces ++ more)
  pub whole : (words : List Word) (all : List Piece) → GoesOn (w ∷ words) before all → GoesBehind pieces all words behind

-- the words so far gave these pieces, and the rest may go on
pub record HasRead (words : List Word) (done : List Piece) (rest : List Word) (behind : Next) : Type 0 where
  pub sound : (more : List Piece) → GoesOn rest behind more → GoesOn words Any (done ++ more)
  pub whole : (all : List Piece) → GoesOn words Any all → GoesBehind done all rest behind

-- the words are a line of no pieces
abbrev pub IsNoLine : List Word → Type 0
IsNoLine words = (pieces : List Piece) → IsCommandLine words pieces → ⊥
