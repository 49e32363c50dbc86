-- Masks of vectors: a bit of a word for each block of columns, in their order.
use Rattle.std.specs.Prelude.{◌≡◌, ℕ, ◌+◌, ◌/◌, ◌≤◌, max, nat_lt, if◌then◌else◌, List, length, ℤ, pos, ◌<ℤ◌, ◌≤ℤ◌}
use Rattle.std.specs.Int.{bit_at}
use Rattle.mk_model.specs.Vectors.{entry, positive_part, negative_part}

-- how many columns a block has, so that 64 blocks have all: one, for up to 64 columns
abbrev pub block_width : ℕ → ℕ
block_width columns = max 1 ((columns + 63) / 64)

-- the block of a column of a vector
abbrev pub block_of : List ℤ → ℕ → ℕ
block_of x c = c / block_width (length x)

-- a column of the block has a positive entry
pub record HasPositive (x : List ℤ) (block : ℕ) : Type 0 where
  pub column : ℕ
  pub there : block_of x column ≡ block
  pub positive : pos 0 <ℤ entry x column

-- the bits that are set are those of the blocks with a positive entry
pub record IsMask (x : List ℤ) (mask : ℕ) : Type 0 where
  pub covers : (c : ℕ) → pos 0 <ℤ entry x c → bit_at mask (block_of x c) ≡ 1
  pub covered : (block : ℕ) → bit_at mask block ≡ 1 → HasPositive x block

-- the masks of both parts of a vector
pub record AreMasks (x : List ℤ) (plus minus : ℕ) : Type 0 where
  pub positive : IsMask (positive_part x) plus
  pub negative : IsMask (negative_part x) minus

-- the entry of a column that a mask gives, where each column has a bit
abbrev pub entry_by_mask : ℕ → ℕ → ℕ → ℤ
entry_by_mask columns mask c = if nat_lt 64 columns then pos 0 else pos (bit_at mask c)

-- the least entry that a mask of so many columns doesn't give
abbrev pub least_unmasked : ℕ → ℤ
least_unmasked columns = if nat_lt 64 columns then pos 1 else pos 2

-- an entry of a squarefree vector
abbrev pub IsAtMostOne : ℤ → Type 0
IsAtMostOne a = a ≤ℤ pos 1

-- the mask of a nonnegative vector is exact, and gives each entry: a block is one column, and no entry is above 1
pub record HasExactMask (x : List ℤ) : Type 0 where
  pub few : length x ≤ 64
  pub squarefree : (c : ℕ) → IsAtMostOne (entry x c)
