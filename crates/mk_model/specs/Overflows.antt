-- Overflows that are genuine: the first column where the result of a subtraction leaves the range of entries.
use Rattle.std.specs.Prelude.{◌≡◌, ◌⊎◌, ℕ, ◌≤◌, ◌<◌, List, length, Contains, None, Some, ℤ, pos, neg_ℤ, ◌-ℤ◌, ◌*ℤ◌, ◌<ℤ◌}
use Rattle.mk_model.specs.declared.TheConstants.{ENTRY_MAX}
use Rattle.mk_model.specs.Vectors.{entry, scale, positive_part, negative_part, weight, IsEntry}
use Rattle.mk_model.specs.Orders.{lead}
use Rattle.mk_model.specs.Pairs.{AreDisjoint}
use Rattle.mk_model.specs.Reductions.{lcm, Divides, Reduct, TailReduct}
use Rattle.mk_model.specs.CoreStates.{Pair, pair_of, IsPairOf, OverflowStop, move_at, difference}

-- greater in absolute value than an entry may be
abbrev pub IsBeyond : ℤ → Type 0
IsBeyond z = (z <ℤ neg_ℤ ENTRY_MAX) ⊎ (ENTRY_MAX <ℤ z)

-- the first column where x minus so many times y leaves the range, with its numbers
pub record IsFirstBeyond (x y : List ℤ) (stop : OverflowStop) : Type 0 where
  pub left : stop.left ≡ entry x stop.column
  pub right : stop.right ≡ entry y stop.column
  pub beyond : IsBeyond (stop.left -ℤ (stop.times *ℤ stop.right))
  pub lesser : (c : ℕ) → c < stop.column → IsEntry (entry x c -ℤ (stop.times *ℤ entry y c))

-- So many times the lead of a move divides the positive part of r, or the negative part where the number is negative.
pub record IsTimesDividing (move r : List ℤ) (times : ℤ) : Type 0 where
  pub count : ℕ
  pub some : 1 ≤ count
  pub divides : ((times ≡ pos count) × Divides (scale (pos count) (lead move)) (positive_part r))
      ⊎ ((times ≡ neg_ℤ (pos count)) × Divides (scale (pos count) (lead move)) (negative_part r))

-- a step of reduction by the move of a place, from a reduct of the pair's difference
pub record IsStepOverflow (moves : List (List ℤ)) (stop : OverflowStop) (place : ℕ) : Type 0 where
  pub within : place < length moves
  pub from : List ℤ
  pub operand : stop.operand ≡ Some from
  pub reduct : Reduct moves (difference moves stop.pair) from
  pub step : IsTimesDividing (move_at moves place) from stop.times
  pub beyond : IsFirstBeyond from (move_at moves place) stop

-- the difference of the pair itself
pub record IsDifferenceOverflow (moves : List (List ℤ)) (stop : OverflowStop) : Type 0 where
  pub operand : stop.operand ≡ None
  pub once : stop.times ≡ pos 1
  pub beyond : IsFirstBeyond (move_at moves stop.pair.second) (move_at moves stop.pair.first) stop

-- the stop's numbers are those of the difference or of a step by a move of the list
abbrev pub IsGenuineOverflow : List (List ℤ) → OverflowStop → Type 0
IsGenuineOverflow moves stop =
    ((stop.by ≡ None) × IsDifferenceOverflow moves stop) ⊎ ((place : ℕ) × (stop.by ≡ Some place) × IsStepOverflow moves stop place)

-- a step of reduction by the move of a place, on the negative part of a vector that such steps reach from the move of an index,
-- which stands for both places of the stop's pair
pub record IsTailOverflow (moves : List (List ℤ)) (index : ℕ) (stop : OverflowStop) : Type 0 where
  pub of_list : index < length moves
  pub pair : stop.pair ≡ pair_of index index
  pub place : ℕ
  pub by : stop.by ≡ Some place
  pub within : place < length moves
  pub from : List ℤ
  pub operand : stop.operand ≡ Some from
  pub reached : TailReduct moves (move_at moves index) from
  pub count : ℕ
  pub some : 1 ≤ count
  pub times : stop.times ≡ neg_ℤ (pos count)
  pub divides : Divides (scale (pos count) (lead (move_at moves place))) (negative_part from)
  pub beyond : IsFirstBeyond from (move_at moves place) stop

-- The two leads overlap, and the weight of their least common multiple is that of a move of the list.
pub record IsPairOfWeight (w : List ℤ) (moves : List (List ℤ)) (pair : Pair) : Type 0 where
  pub of_list : IsPairOf moves pair
  pub overlap : ¬ (AreDisjoint (lead (move_at moves pair.first)) (lead (move_at moves pair.second)))
  pub move : List ℤ
  pub member : Contains moves move
  pub same : weight w (lcm (lead (move_at moves pair.first)) (lead (move_at moves pair.second))) ≡ weight w (lead move)
