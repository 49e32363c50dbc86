-- Tables of integers as text: the files of the 4ti2 manual, "the number of rows, the number of columns, and the
-- entries row by row". The grammar speaks of the text's tokens, and of no way to read them.
use Rattle.std.specs.Prelude.{◌≡◌, ◌⊎◌, ℕ, zero, suc, ◌*◌, ◌<◌, ◌≤◌, Bool, true, ◌||◌, ◌&&◌, ◌==◌, nat_le, if◌then◌else◌, List, [], ◌∷◌}
use Rattle.std.specs.Prelude.{length, take, drop, All, ℤ, pos, neg_ℤ, ◌≤ℤ◌}
use Rattle.std.specs.List.{AllPass, AllZip}
use Rattle.std.specs.Char.{is_ascii_digit}
use Rattle.std.specs.Str.Parse.{digits_value}
use Rattle.mk_model.specs.Lattices.{Lattice, lattice_of}

-- white space: the bytes 9 to 13, and 32
abbrev pub is_space : ℕ → Bool
is_space b = (nat_le 9 b && nat_le b 13) || (b == 32)

-- does a token end before this text: at its end, or at white space
abbrev pub begins_with_space : List ℕ → Bool
begins_with_space [] = true
begins_with_space (b ∷ bytes) = is_space b

-- a byte put in front of the first token
abbrev pub with_first : ℕ → List (List ℕ) → List (List ℕ)
with_first b [] = (b ∷ []) ∷ []
with_first b (token ∷ tokens) = (b ∷ token) ∷ tokens

-- The tokens of a text: its longest runs of bytes that are not white space. Such a byte is a token of its own where
-- white space or the end follows it, and else belongs to the token that begins behind it.
unfoldable pub tokens : List ℕ → List (List ℕ)
tokens [] = []
tokens (b ∷ bytes) =
    if is_space b then tokens bytes
    else (if begins_with_space bytes then (b ∷ []) ∷ tokens bytes else with_first b (tokens bytes))

-- one or more digits
pub record AreDigits (digits : List ℕ) : Type 0 where
  pub some : 0 < length digits
  pub each : AllPass is_ascii_digit digits

-- a token that writes a natural number: digits, and maybe a plus before them
abbrev pub IsCount : List ℕ → ℕ → Type 0
IsCount token n = (digits : List ℕ) × AreDigits digits × (n ≡ digits_value 10 digits) × ((token ≡ digits) ⊎ (token ≡ 43 ∷ digits))

-- a token that writes a number: as before, or digits with a minus before them
abbrev pub IsNumber : List ℕ → ℤ → Type 0
IsNumber token z =
    ((n : ℕ) × (z ≡ pos n) × IsCount token n)
    ⊎ ((digits : List ℕ) × AreDigits digits × (z ≡ neg_ℤ (pos (digits_value 10 digits))) × (token ≡ 45 ∷ digits))

-- a table: so many rows of so many columns, with the entries row by row
pub record Grid : Type 0 where
  pub rows : ℕ
  pub columns : ℕ
  pub entries : List ℤ

-- the rows as vectors
abbrev pub cut : ℕ → ℕ → List ℤ → List (List ℤ)
cut zero columns entries = []
cut (suc rows) columns entries = take columns entries ∷ cut rows columns (drop columns entries)

abbrev pub rows_of : Grid → List (List ℤ)
rows_of grid = cut grid.rows grid.columns grid.entries

-- the lattice that the rows span, with a grading
abbrev pub lattice_of_table : Grid → List ℤ → Lattice
lattice_of_table grid w = lattice_of grid.columns (rows_of grid) w

-- what a table may have at most, and its entries at least and at most
pub record Limits : Type 0 where
  pub rows : ℕ
  pub columns : ℕ
  pub least : ℤ
  pub most : ℤ

-- The text is a table within the limits: its tokens are the number of rows, the number of columns, and the entries,
-- as many as rows times columns, and nothing else.
pub record ReadsTable (bytes : List ℕ) (limits : Limits) (grid : Grid) : Type 0 where
  pub rows_token : List ℕ
  pub columns_token : List ℕ
  pub entry_tokens : List (List ℕ)
  pub whole : tokens bytes ≡ rows_token ∷ columns_token ∷ entry_tokens
  pub rows : IsCount rows_token grid.rows
  pub columns : IsCount columns_token grid.columns
  pub entries : AllZip IsNumber entry_tokens grid.entries
  pub filled : length grid.entries ≡ grid.rows * grid.columns
  pub rows_within : grid.rows ≤ limits.rows
  pub columns_within : grid.columns ≤ limits.columns
  pub entries_within : All (λ z. (limits.least ≤ℤ z) × (z ≤ℤ limits.most)) grid.entries
