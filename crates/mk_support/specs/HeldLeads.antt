-- A lead by its mask and by the entries that the mask doesn't give.
use Rattle.std.specs.Prelude.{◌≡◌, ◌⊎◌, ℕ, ◌<◌, ◌≤◌, ◌==◌, if◌then◌else◌, List, [], ◌∷◌, map, length, All, ℤ, pos, ◌≤ℤ◌, ◌<ℤ◌}
use Rattle.mk_model.specs.Vectors.{entry, IsEntry}
use Rattle.mk_model.specs.FreeColumns.{all_columns}
use Rattle.mk_move.specs.Masks.{IsMask, entry_by_mask}
use Rattle.mk_support.specs.declared.held.ColumnEntry.{ColumnEntry}

-- the entry that is listed for a column, and the other one where there is none
abbrev pub listed_or : List ColumnEntry → ℕ → ℤ → ℤ
listed_or [] c other = other
listed_or (e ∷ listed) c other = if e.column == c then e.entry else listed_or listed c other

-- the lead: the entries that are listed, and those that the mask gives
unfoldable pub lead_of : ℕ → ℕ → List ColumnEntry → List ℤ
lead_of columns mask listed = map (λ c. listed_or listed c (entry_by_mask columns mask c)) (all_columns columns)

-- it is an entry of the vector, and positive
pub record IsEntryOf (x : List ℤ) (e : ColumnEntry) : Type 0 where
  pub column : e.column < length x
  pub value : e.entry ≡ entry x e.column
  pub positive : pos 0 <ℤ e.entry
  pub range : IsEntry e.entry

-- the mask is that of the lead, and the listed entries are its own
pub record IsHeld (bits : ℕ) (entries : List ColumnEntry) (lead : List ℤ) : Type 0 where
  pub mask : IsMask lead bits
  pub listed : All (IsEntryOf lead) entries

-- Of the first columns of a row the entries from the least on are listed, and no others.
pub record ListsFrom (row : List ℤ) (least : ℤ) (columns : ℕ) (listed : List ColumnEntry) : Type 0 where
  pub own : All (λ e. (e.column < length row) × (e.entry ≡ entry row e.column) × (least ≤ℤ e.entry)) listed
  pub larger : (c : ℕ) → c < columns → least ≤ℤ entry row c → (other : ℤ) → listed_or listed c other ≡ entry row c
  pub others : (c : ℕ) → (columns ≤ c) ⊎ (entry row c <ℤ least) → (other : ℤ) → listed_or listed c other ≡ other

-- it isn't above the entry of the vector
abbrev pub Fits : List ℤ → ColumnEntry → Type 0
Fits x e = e.entry ≤ℤ entry x e.column
