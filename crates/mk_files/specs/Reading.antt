-- What reading a table gives, and how far it has come.
use Rattle.std.specs.Prelude.{◌≡◌, ◌⊎◌, ℕ, List, [], ◌∷◌, ◌≤◌, take, All, Result, Ok, Err}
use Rattle.std.specs.List.{AllZip}
use Rattle.mk_model.specs.Tables.{Grid, Limits, tokens, IsCount, IsNumber}
use Rattle.mk_model.specs.TableFaults as text
use Rattle.mk_model.specs.TableFaults.{Fault, HasFault, line_of, NoNumber, EntryBeyond}
use Rattle.mk_files.specs.declared.bounds.Bounds.{Bounds}
use Rattle.mk_files.specs.declared.fault.Place.{Place}
use Rattle.mk_files.specs.declared.fault.TableFault.{TableFault}
use Rattle.mk_files.specs.declared.fault.TableFault.TheVariants.{Memory, NoHeader, BadNumber, Rows, Columns, EntryRange, Missing, Trailing}
use Rattle.mk_files.specs.declared.tokens.Token.{Token}
use Rattle.mk_files.specs.Bounds.{IsWithin, limits_of}
use Rattle.mk_files.specs.Places.{place_at}
use Rattle.mk_files.specs.Tokens.{IsTokenCut, token_bytes}

-- the result is this very grid, unless memory ran out
abbrev pub GivesGrid : Grid → Result Grid TableFault → Type 0
GivesGrid grid (Ok table) = table ≡ grid
GivesGrid grid (Err fault) = fault ≡ Memory

-- the text has the fault at the place, and the place has its line
abbrev pub HasFaultAt : List ℕ → Limits → Fault → Place → Type 0
HasFaultAt bytes limits fault place =
    HasFault bytes limits fault place.byte × (place.line ≡ line_of bytes place.byte)

-- the fault is one that the text has, at its place
abbrev pub IsFaultOf : List ℕ → Limits → TableFault → Type 0
IsFaultOf bytes limits Memory = ⊥
IsFaultOf bytes limits (NoHeader place found) = HasFaultAt bytes limits (text.NoHeader found) place
IsFaultOf bytes limits (BadNumber place) = HasFaultAt bytes limits text.BadNumber place
IsFaultOf bytes limits (Rows place) = HasFaultAt bytes limits text.Rows place
IsFaultOf bytes limits (Columns place) = HasFaultAt bytes limits text.Columns place
IsFaultOf bytes limits (EntryRange place) = HasFaultAt bytes limits text.EntryRange place
IsFaultOf bytes limits (Missing place found wanted) = HasFaultAt bytes limits (text.Missing found wanted) place
IsFaultOf bytes limits (Trailing place) = HasFaultAt bytes limits text.Trailing place

-- the fault of a token where an entry is wanted
abbrev pub IsEntryFault : List ℕ → Bounds → Token → TableFault → Type 0
IsEntryFault bytes bounds token fault =
    (NoNumber (token_bytes bytes token) × (fault ≡ BadNumber (place_at bytes token.start)))
    ⊎ (EntryBeyond (limits_of bounds) (token_bytes bytes token) × (fault ≡ EntryRange (place_at bytes token.start)))

-- the text up to a byte is a number of rows
pub record RowsRead (bytes : List ℕ) (bounds : Bounds) (rows end : ℕ) : Type 0 where
  pub cut : IsTokenCut bytes end
  pub rows_token : List ℕ
  pub front : tokens (take end bytes) ≡ rows_token ∷ []
  pub count : IsCount rows_token rows
  pub within : rows ≤ bounds.rows

-- the text up to a byte is a number of rows, a number of columns, and entries, all of them the grid's
pub record EntriesRead (bytes : List ℕ) (bounds : Bounds) (grid : Grid) (end : ℕ) : Type 0 where
  pub cut : IsTokenCut bytes end
  pub rows_token : List ℕ
  pub columns_token : List ℕ
  pub entry_tokens : List (List ℕ)
  pub front : tokens (take end bytes) ≡ rows_token ∷ columns_token ∷ entry_tokens
  pub rows : IsCount rows_token grid.rows
  pub columns : IsCount columns_token grid.columns
  pub entries : AllZip IsNumber entry_tokens grid.entries
  pub rows_within : grid.rows ≤ bounds.rows
  pub columns_within : grid.columns ≤ bounds.columns
  pub entries_within : All (IsWithin bounds) grid.entries
