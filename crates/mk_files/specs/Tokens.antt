-- How a text is cut into tokens.
use Rattle.std.specs.Prelude.{◌≡◌, ◌≢◌, ℕ, ◌<◌, ◌≤◌, Bool, List, [], ◌∷◌, ◌++◌, length, take, drop, All, slice_index, slice_range}
use Rattle.mk_model.specs.Tables.{is_space, tokens}
use Rattle.mk_model.specs.TableFaults.{TokenAt}
use Rattle.mk_files.specs.declared.tokens.Token.{Token}

-- so many bytes at the front are white space, or are not, and the byte behind them differs
pub record IsStretch (bytes : List ℕ) (white : Bool) (len : ℕ) : Type 0 where
  pub within : len ≤ length bytes
  pub same : All (λ b. is_space b ≡ white) (take len bytes)
  pub longest : len < length bytes → is_space (slice_index bytes len) ≢ white

-- no token goes on over the byte
pub record IsTokenCut (bytes : List ℕ) (byte : ℕ) : Type 0 where
  pub within : byte ≤ length bytes
  pub whole : tokens bytes ≡ tokens (take byte bytes) ++ tokens (drop byte bytes)

abbrev pub token_bytes : List ℕ → Token → List ℕ
token_bytes bytes token = slice_range bytes token.start token.end

-- the next token behind a byte where the text is cut, which is cut again behind the token
pub record IsNextToken (bytes : List ℕ) (from : ℕ) (token : Token) : Type 0 where
  pub ordered : token.start ≤ token.end
  pub token_at : TokenAt bytes token.start (tokens (take from bytes)) (token_bytes bytes token)
  pub cut : IsTokenCut bytes token.end
  pub front : tokens (take token.end bytes) ≡ tokens (take from bytes) ++ token_bytes bytes token ∷ []
