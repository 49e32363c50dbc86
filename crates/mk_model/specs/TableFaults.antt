-- Faults of a table's text. Its tokens are read from the left, and the first fault counts: in front of it each token is as
-- it ought to be. It is the fault of the token that begins at a byte, or of the text's end.
use Rattle.std.specs.Prelude.{◌≡◌, ◌⊎◌, ℕ, ◌+◌, ◌*◌, ◌<◌, ◌≤◌, ◌==◌, false, List, [], ◌∷◌, ◌++◌, length, take, count_by, slice_index, All}
use Rattle.std.specs.Prelude.{ℤ, ◌≤ℤ◌, ◌<ℤ◌}
use Rattle.mk_model.specs.Tables.{is_space, tokens, IsCount, IsNumber, Limits}

-- the line of a byte: one more than the number of line ends in front of it
abbrev pub line_of : List ℕ → ℕ → ℕ
line_of bytes byte = count_by (λ b. b == 10) (take byte bytes) + 1

-- the token begins at the byte, and these tokens stand in front of it
pub record TokenAt (bytes : List ℕ) (byte : ℕ) (front : List (List ℕ)) (token : List ℕ) : Type 0 where
  pub rest : List (List ℕ)
  pub whole : tokens bytes ≡ front ++ token ∷ rest
  pub in_front : tokens (take byte bytes) ≡ front
  pub begins : is_space (slice_index bytes byte) ≡ false

-- ---- one token
-- a natural number of at most so many, one of more, and none
abbrev pub CountUpTo : ℕ → List ℕ → Type 0
CountUpTo most token = (n : ℕ) × IsCount token n × (n ≤ most)

abbrev pub CountAbove : ℕ → List ℕ → Type 0
CountAbove most token = (n : ℕ) × IsCount token n × (most < n)

abbrev pub NoCount : List ℕ → Type 0
NoCount token = (n : ℕ) → ¬ (IsCount token n)

-- a number within the limits of entries, one beyond them, and none
abbrev pub EntryWithin : Limits → List ℕ → Type 0
EntryWithin limits token = (z : ℤ) × IsNumber token z × (limits.least ≤ℤ z) × (z ≤ℤ limits.most)

abbrev pub EntryBeyond : Limits → List ℕ → Type 0
EntryBeyond limits token = (z : ℤ) × IsNumber token z × ((z <ℤ limits.least) ⊎ (limits.most <ℤ z))

abbrev pub NoNumber : List ℕ → Type 0
NoNumber token = (z : ℤ) → ¬ (IsNumber token z)

-- ---- the tokens in front
-- a number of rows within its limit, and nothing else
abbrev pub HasRows : Limits → List (List ℕ) → Type 0
HasRows limits front = (token : List ℕ) × (front ≡ token ∷ []) × CountUpTo limits.rows token

-- a number of rows, a number of columns, and so many of the entries that are wanted, each within its limit
pub record HasEntries (limits : Limits) (found wanted : ℕ) (front : List (List ℕ)) : Type 0 where
  pub rows_token : List ℕ
  pub columns_token : List ℕ
  pub entry_tokens : List (List ℕ)
  pub whole : front ≡ rows_token ∷ columns_token ∷ entry_tokens
  pub rows : ℕ
  pub columns : ℕ
  pub rows_count : IsCount rows_token rows
  pub columns_count : IsCount columns_token columns
  pub rows_within : rows ≤ limits.rows
  pub columns_within : columns ≤ limits.columns
  pub entries_within : All (EntryWithin limits) entry_tokens
  pub found_is : found ≡ length entry_tokens
  pub wanted_is : wanted ≡ rows * columns

-- the number of rows or of columns comes next; an entry does; or nothing more
abbrev pub WantsCount : Limits → List (List ℕ) → Type 0
WantsCount limits front = (front ≡ []) ⊎ HasRows limits front

abbrev pub WantsEntry : Limits → List (List ℕ) → Type 0
WantsEntry limits front = (found wanted : ℕ) × HasEntries limits found wanted front × (found < wanted)

abbrev pub WantsNothing : Limits → List (List ℕ) → Type 0
WantsNothing limits front = (count : ℕ) × HasEntries limits count count front

-- ---- faults
-- What is wrong: the text ends before it has both numbers of the header, with so many; a token is no number; there are
-- too many rows or columns; an entry is out of range; the text ends before it has all entries, with so many of so many; or
-- a token follows the last entry.
pub data Fault : Type 0 where
  NoHeader : ℕ → Fault
  BadNumber : Fault
  Rows : Fault
  Columns : Fault
  EntryRange : Fault
  Missing : ℕ → ℕ → Fault
  Trailing : Fault

-- the fault of a token behind those in front
abbrev pub IsTokenFault : Limits → List (List ℕ) → List ℕ → Fault → Type 0
IsTokenFault limits front token (NoHeader found) = ⊥
IsTokenFault limits front token BadNumber =
    (WantsCount limits front × NoCount token) ⊎ (WantsEntry limits front × NoNumber token)
IsTokenFault limits front token Rows = (front ≡ []) × CountAbove limits.rows token
IsTokenFault limits front token Columns = HasRows limits front × CountAbove limits.columns token
IsTokenFault limits front token EntryRange = WantsEntry limits front × EntryBeyond limits token
IsTokenFault limits front token (Missing found wanted) = ⊥
IsTokenFault limits front token Trailing = WantsNothing limits front

-- the fault of a text that ends behind those in front
abbrev pub IsEndFault : Limits → List (List ℕ) → Fault → Type 0
IsEndFault limits front (NoHeader found) = WantsCount limits front × (found ≡ length front)
IsEndFault limits front BadNumber = ⊥
IsEndFault limits front Rows = ⊥
IsEndFault limits front Columns = ⊥
IsEndFault limits front EntryRange = ⊥
IsEndFault limits front (Missing found wanted) = HasEntries limits found wanted front × (found < wanted)
IsEndFault limits front Trailing = ⊥

-- the text has the fault at the byte: that of a token that begins there, or that of its end
abbrev pub HasFault : List ℕ → Limits → Fault → ℕ → Type 0
HasFault bytes limits fault byte =
    ((front : List (List ℕ)) × (token : List ℕ) × TokenAt bytes byte front token × IsTokenFault limits front token fault)
    ⊎ ((byte ≡ length bytes) × IsEndFault limits (tokens bytes) fault)
