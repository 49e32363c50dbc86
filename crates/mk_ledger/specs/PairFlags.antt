-- The pairs of moves by their numbers, and which of them are settled: a bit for each, 64 in a word.
use Rattle.std.specs.Prelude.{◌≡◌, ℕ, ◌+◌, ◌-◌, ◌*◌, ◌/◌, ◌%◌, ◌<◌, ◌≤◌, ◌==◌, Bool, false, List, map, length, get_or}
use Rattle.std.specs.List.{range_with_len}
use Rattle.std.specs.Int.{bit_at}

-- how many pairs so many moves have
unfoldable pub pairs_of : ℕ → ℕ
pairs_of moves = moves * (moves - 1) / 2

-- the number of the pair of places i and j, where i is less: pairs are ordered by their second place, then by their first
abbrev pub pair_number : ℕ → ℕ → ℕ
pair_number i j = pairs_of j + i

-- how many moves there are, and a flag for each of their pairs
pub record PairFlags : Type 0 where
  pub moves : ℕ
  pub flags : List Bool

-- the bit of a number among words of 64 bits
unfoldable pub flag_at : List ℕ → ℕ → Bool
flag_at words number = bit_at (get_or words (number / 64) 0) (number % 64) == 1

-- the bits of the numbers below a count
abbrev pub flags_of : List ℕ → ℕ → List Bool
flags_of words count = map (flag_at words) (range_with_len 0 count)

-- Words for the pairs of at most 65,536 moves: no bit is set from their count on.
pub record AreWords (words : List ℕ) (moves : ℕ) : Type 0 where
  pub few : moves ≤ 65536
  pub room : pairs_of moves ≤ length words * 64
  pub clear : (number : ℕ) → pairs_of moves ≤ number → flag_at words number ≡ false

-- two places of at most 65,537 moves, the lesser first
pub record IsPlace (i j : ℕ) : Type 0 where
  pub ordered : i < j
  pub within : j ≤ 65536
