-- The fault of a text, where its tokens are read in turn.
use Rattle.std.proofs.Common.{◌≡◌, ◌⊎◌, ℕ, ◌*◌, ◌<◌, ◌≤◌, List, [], ◌∷◌, ◌++◌, length, take, ℤ, Result, Ok, Err, inl, inr, refl, sym, ap, subst, ◌∙◌}
use Rattle.std.specs.List.{AllZip}
use Rattle.std.proofs.lemmas.List.Elements.{All-nil, All-push}
use Rattle.std.specs.Result.{IfOk, IfErr, IsErrAnd, IsErrOf}
use Rattle.mk_model.specs.Tables.{Grid, Limits, IsCount, IsNumber, ReadsTable, tokens}
use Rattle.mk_model.specs.TableFaults as text
use Rattle.mk_model.specs.TableFaults.{Fault, CountAbove, NoCount, HasRows, HasEntries, IsTokenFault, IsEndFault, HasFault}
use Rattle.mk_model.proofs.TableFaultLaws.{one_fault, no_fault, one_table, same_length, all_within}
use Rattle.mk_files.specs.declared.bounds.Bounds.{Bounds}
use Rattle.mk_files.specs.declared.fault.Place.{Place}
use Rattle.mk_files.specs.declared.fault.TableFault.{TableFault}
use Rattle.mk_files.specs.declared.fault.TableFault.TheVariants.{Memory, NoHeader, BadNumber, Rows, Columns, EntryRange, Missing, Trailing}
use Rattle.mk_files.specs.declared.tokens.Token.{Token}
use Rattle.mk_files.specs.Bounds.{IsWithin, limits_of}
use Rattle.mk_files.specs.Places.{place_at}
use Rattle.mk_files.specs.Reading.{GivesGrid, HasFaultAt, IsFaultOf, IsEntryFault, RowsRead, EntriesRead}
use Rattle.mk_files.specs.Tokens.{IsNextToken, token_bytes}

at_place : (bytes : List ℕ) (limits : Limits) (fault : Fault) (byte : ℕ) (place : Place) → place ≡ place_at bytes byte → HasFault bytes limits fault byte → HasFaultAt bytes limits fault place
at_place bytes limits fault byte place e has = subst (HasFaultAt bytes limits fault) (sym e) (has, refl)

-- the fault of a token, and the fault of the end
of_token : (bytes : List ℕ) (limits : Limits) (fault : Fault) (from : ℕ) (token : Token) (place : Place) → IsNextToken bytes from token → place ≡ place_at bytes token.start → IsTokenFault limits (tokens (take from bytes)) (token_bytes bytes token) fault → HasFaultAt bytes limits fault place
of_token bytes limits fault from token place next e is =
    at_place bytes limits fault token.start place e (inl (tokens (take from bytes), token_bytes bytes token, next.token_at, is))

of_end : (bytes : List ℕ) (limits : Limits) (fault : Fault) (place : Place) → place ≡ place_at bytes (length bytes) → IsEndFault limits (tokens bytes) fault → HasFaultAt bytes limits fault place
of_end bytes limits fault place e is = at_place bytes limits fault (length bytes) place e (inr (refl, is))

-- ---- where the number of rows comes first
module _ (bytes : List ℕ) (bounds : Bounds) where
  pub rows_read : (token : Token) (rows : ℕ) → IsNextToken bytes 0 token → IsCount (token_bytes bytes token) rows → rows ≤ bounds.rows → RowsRead bytes bounds rows token.end
  unfolding tokens
  rows_read token rows next count within =
      record { cut = next.cut; rows_token = token_bytes bytes token; front = next.front; count = count; within = within }

  pub no_rows : (place : Place) → place ≡ place_at bytes (length bytes) → tokens bytes ≡ tokens (take 0 bytes) → IsFaultOf bytes (limits_of bounds) (NoHeader place 0)
  unfolding tokens
  no_rows place e none = of_end bytes (limits_of bounds) (text.NoHeader 0) place e (inl none, ap length (sym none))

  pub bad_rows : (token : Token) (place : Place) → IsNextToken bytes 0 token → place ≡ place_at bytes token.start → NoCount (token_bytes bytes token) → IsFaultOf bytes (limits_of bounds) (BadNumber place)
  unfolding tokens
  bad_rows token place next e never = of_token bytes (limits_of bounds) text.BadNumber 0 token place next e (inl (inl refl, never))

  pub many_rows : (token : Token) (place : Place) → IsNextToken bytes 0 token → place ≡ place_at bytes token.start → CountAbove bounds.rows (token_bytes bytes token) → IsFaultOf bytes (limits_of bounds) (Rows place)
  unfolding tokens
  many_rows token place next e many = of_token bytes (limits_of bounds) text.Rows 0 token place next e (refl, many)

-- ---- where the number of columns comes next
module _ (bytes : List ℕ) (bounds : Bounds) (rows end : ℕ) (read : RowsRead bytes bounds rows end) where
  has_rows : HasRows (limits_of bounds) (tokens (take end bytes))
  has_rows = (read.rows_token, read.front, (rows, read.count, read.within))

  pub columns_read : (token : Token) (columns : ℕ) → IsNextToken bytes end token → IsCount (token_bytes bytes token) columns → columns ≤ bounds.columns → EntriesRead bytes bounds (record { rows = rows; columns = columns; entries = [] }) token.end
  columns_read token columns next count within = record {
    cut = next.cut;
    rows_token = read.rows_token;
    columns_token = token_bytes bytes token;
    entry_tokens = [];
    front = next.front ∙ ap (λ ts. ts ++ token_bytes bytes token ∷ []) read.front;
    rows = read.count;
    columns = count;
    entries = tt;
    rows_within = read.within;
    columns_within = within;
    entries_within = All-nil (IsWithin bounds);
  }

  pub no_columns : (place : Place) → place ≡ place_at bytes (length bytes) → tokens bytes ≡ tokens (take end bytes) → IsFaultOf bytes (limits_of bounds) (NoHeader place 1)
  no_columns place e none =
      of_end bytes (limits_of bounds) (text.NoHeader 1) place e (inr (subst (HasRows (limits_of bounds)) (sym none) has_rows), sym (ap length (none ∙ read.front)))

  pub bad_columns : (token : Token) (place : Place) → IsNextToken bytes end token → place ≡ place_at bytes token.start → NoCount (token_bytes bytes token) → IsFaultOf bytes (limits_of bounds) (BadNumber place)
  bad_columns token place next e never = of_token bytes (limits_of bounds) text.BadNumber end token place next e (inl (inr (has_rows), never))

  pub many_columns : (token : Token) (place : Place) → IsNextToken bytes end token → place ≡ place_at bytes token.start → CountAbove bounds.columns (token_bytes bytes token) → IsFaultOf bytes (limits_of bounds) (Columns place)
  many_columns token place next e many = of_token bytes (limits_of bounds) text.Columns end token place next e (has_rows, many)

-- ---- where an entry comes next
all_zip_push : (words : List (List ℕ)) (entries : List ℤ) (word : List ℕ) (z : ℤ) → AllZip IsNumber words entries → IsNumber word z → AllZip IsNumber (words ++ word ∷ []) (entries ++ z ∷ [])
all_zip_push [] [] word z numbers number = (number, tt)
all_zip_push [] (y ∷ entries) word z numbers number = absurd numbers
all_zip_push (w ∷ words) [] word z numbers number = absurd numbers
all_zip_push (w ∷ words) (y ∷ entries) word z numbers number =
    (numbers.0, all_zip_push words entries word z numbers.1 number)

pub entry_read : (bytes : List ℕ) (bounds : Bounds) (rows columns end : ℕ) (entries : List ℤ) (token : Token) (z : ℤ) → EntriesRead bytes bounds (record { rows = rows; columns = columns; entries = entries }) end → IsNextToken bytes end token → IsWithin bounds z → IsNumber (token_bytes bytes token) z → EntriesRead bytes bounds (record { rows = rows; columns = columns; entries = entries ++ z ∷ [] }) token.end
entry_read bytes bounds rows columns end entries token z read next within number = record {
  cut = next.cut;
  rows_token = read.rows_token;
  columns_token = read.columns_token;
  entry_tokens = read.entry_tokens ++ token_bytes bytes token ∷ [];
  front = next.front ∙ ap (λ ts. ts ++ token_bytes bytes token ∷ []) read.front;
  rows = read.rows;
  columns = read.columns;
  entries = all_zip_push read.entry_tokens entries (token_bytes bytes token) z read.entries number;
  rows_within = read.rows_within;
  columns_within = read.columns_within;
  entries_within = All-push (IsWithin bounds) entries z read.entries_within within;
}

module _ (bytes : List ℕ) (bounds : Bounds) (grid : Grid) (end : ℕ) (read : EntriesRead bytes bounds grid end) where
  has_entries : (found wanted : ℕ) → length grid.entries ≡ found → wanted ≡ grid.rows * grid.columns → HasEntries (limits_of bounds) found wanted (tokens (take end bytes))
  has_entries found wanted are is = record {
    rows_token = read.rows_token;
    columns_token = read.columns_token;
    entry_tokens = read.entry_tokens;
    whole = read.front;
    rows = grid.rows;
    columns = grid.columns;
    rows_count = read.rows;
    columns_count = read.columns;
    rows_within = read.rows_within;
    columns_within = read.columns_within;
    entries_within = all_within (limits_of bounds) read.entry_tokens grid.entries read.entries read.entries_within;
    found_is = sym are ∙ same_length read.entry_tokens grid.entries read.entries;
    wanted_is = is;
  }

  pub missing : (found wanted : ℕ) (place : Place) → length grid.entries ≡ found → wanted ≡ grid.rows * grid.columns → found < wanted → place ≡ place_at bytes (length bytes) → tokens bytes ≡ tokens (take end bytes) → IsFaultOf bytes (limits_of bounds) (Missing place found wanted)
  missing found wanted place are is less e none =
      of_end bytes (limits_of bounds) (text.Missing found wanted) place e (subst (HasEntries (limits_of bounds) found wanted) (sym none) (has_entries found wanted are is), less)

  pub bad_entry : (found wanted : ℕ) (token : Token) (fault : TableFault) → length grid.entries ≡ found → wanted ≡ grid.rows * grid.columns → found < wanted → IsNextToken bytes end token → IsEntryFault bytes bounds token fault → IsFaultOf bytes (limits_of bounds) fault
  bad_entry found wanted token fault are is less next (inl (never, e)) =
      subst (IsFaultOf bytes (limits_of bounds)) (sym e)
      (of_token bytes (limits_of bounds) text.BadNumber end token (place_at bytes token.start) next refl (inr ((found, wanted, has_entries found wanted are is, less), never)))
  bad_entry found wanted token fault are is less next (inr (out, e)) =
      subst (IsFaultOf bytes (limits_of bounds)) (sym e)
      (of_token bytes (limits_of bounds) text.EntryRange end token (place_at bytes token.start) next refl ((found, wanted, has_entries found wanted are is, less), out))

  pub one_more : (count : ℕ) (token : Token) (place : Place) → length grid.entries ≡ count → count ≡ grid.rows * grid.columns → IsNextToken bytes end token → place ≡ place_at bytes token.start → IsFaultOf bytes (limits_of bounds) (Trailing place)
  one_more count token place are is next e = of_token bytes (limits_of bounds) text.Trailing end token place next e (count, has_entries count count are is)

  pub all_read : length grid.entries ≡ grid.rows * grid.columns → tokens bytes ≡ tokens (take end bytes) → ReadsTable bytes (limits_of bounds) grid
  all_read filled none = record {
    rows_token = read.rows_token;
    columns_token = read.columns_token;
    entry_tokens = read.entry_tokens;
    whole = none ∙ read.front;
    rows = read.rows;
    columns = read.columns;
    entries = read.entries;
    filled = filled;
    rows_within = read.rows_within;
    columns_within = read.columns_within;
    entries_within = read.entries_within;
  }

-- ---- what is answered
-- the fault that the text has at a place, as it is answered
answer : Fault → Place → TableFault
answer (text.NoHeader found) place = NoHeader place found
answer text.BadNumber place = BadNumber place
answer text.Rows place = Rows place
answer text.Columns place = Columns place
answer text.EntryRange place = EntryRange place
answer (text.Missing found wanted) place = Missing place found wanted
answer text.Trailing place = Trailing place

answered : (bytes : List ℕ) (limits : Limits) (fault : TableFault) → IsFaultOf bytes limits fault → (f : Fault) × (byte : ℕ) × HasFault bytes limits f byte × (fault ≡ answer f (place_at bytes byte))
unfolding answer
answered bytes limits Memory h = absurd h
answered bytes limits (NoHeader place found) (has, line) = (text.NoHeader found, place.byte, has, λ i. NoHeader (record { line = line i; byte = place.byte }) found)
answered bytes limits (BadNumber place) (has, line) = (text.BadNumber, place.byte, has, λ i. BadNumber (record { line = line i; byte = place.byte }))
answered bytes limits (Rows place) (has, line) = (text.Rows, place.byte, has, λ i. Rows (record { line = line i; byte = place.byte }))
answered bytes limits (Columns place) (has, line) = (text.Columns, place.byte, has, λ i. Columns (record { line = line i; byte = place.byte }))
answered bytes limits (EntryRange place) (has, line) = (text.EntryRange, place.byte, has, λ i. EntryRange (record { line = line i; byte = place.byte }))
answered bytes limits (Missing place found wanted) (has, line) = (text.Missing found wanted, place.byte, has, λ i. Missing (record { line = line i; byte = place.byte }) found wanted)
answered bytes limits (Trailing place) (has, line) = (text.Trailing, place.byte, has, λ i. Trailing (record { line = line i; byte = place.byte }))

same_answer : (bytes : List ℕ) (limits : Limits) (e f : TableFault) → IsFaultOf bytes limits e → IsFaultOf bytes limits f → e ≡ f
same_answer bytes limits e f is so =
    let a = answered bytes limits e is in
    let b = answered bytes limits f so in
    let same = one_fault bytes limits a.0 b.0 a.1 b.1 a.2 b.2 in
    a.3 ∙ ap (λ k. answer k (place_at bytes a.1)) same.0 ∙ ap (λ j. answer b.0 (place_at bytes j)) same.1 ∙ sym b.3

-- the answer is the table of the text, or its fault, unless memory ran out
module _ (bytes : List ℕ) (limits : Limits) where
  pub gives_grid : (result : Result Grid TableFault) → IfOk result (ReadsTable bytes limits) → IfErr result (λ fault. (fault ≡ Memory) ⊎ IsFaultOf bytes limits fault) → (grid : Grid) → ReadsTable bytes limits grid → GivesGrid grid result
  gives_grid (Ok table) ok fault grid read = one_table bytes limits table grid ok read
  gives_grid (Err e) ok (inl none) grid read = none
  gives_grid (Err e) ok (inr is) grid read =
      let a = answered bytes limits e is in
      absurd (no_fault bytes limits grid a.0 a.1 read a.2)

  pub gives_fault : (result : Result Grid TableFault) → IfOk result (ReadsTable bytes limits) → IfErr result (λ fault. (fault ≡ Memory) ⊎ IsFaultOf bytes limits fault) → (fault : TableFault) → IsFaultOf bytes limits fault → IsErrOf result fault ⊎ IsErrOf result Memory
  gives_fault (Ok table) ok fault f is =
      let a = answered bytes limits f is in
      absurd (no_fault bytes limits table a.0 a.1 ok a.2)
  gives_fault (Err e) ok (inl none) f is = inr (ap Err none)
  gives_fault (Err e) ok (inr so) f is = inl (ap Err (same_answer bytes limits e f so is))

  -- a fault that is passed on
  pub refused : (result : Result Grid TableFault) (e : TableFault) → IsErrAnd result (λ y. y ≡ e) → (e ≡ Memory) ⊎ IsFaultOf bytes limits e →
      ((grid : Grid) → ReadsTable bytes limits grid → GivesGrid grid result) × ((fault : TableFault) → IsFaultOf bytes limits fault → IsErrOf result fault ⊎ IsErrOf result Memory)
  refused (Ok table) e same is = absurd same
  refused (Err y) e same is =
      let so : (y ≡ Memory) ⊎ IsFaultOf bytes limits y = subst (λ (k : TableFault). (k ≡ Memory) ⊎ IsFaultOf bytes limits k) (sym same) is in
      (gives_grid (Err y) tt so, gives_fault (Err y) tt so)
