-- A step in place: what becomes of a move when a multiple of another is taken off it.
use Rattle.std.specs.Prelude.{◌≡◌, ◌≢◌, ◌↔◌, ◌<◌, ◌≤◌, ◌^◌, ℕ, Bool, true, false, IsTrue, unsigned_abs, List, length, All, Result, Ok, Err, ℤ, pos, ◌<ℤ◌}
use Rattle.std.specs.Int.{bit_at}
use Rattle.mk_model.specs.Vectors.{entry, zeros, IsEntry}
use Rattle.mk_move.specs.Moves.{Weighed}
use Rattle.mk_move.specs.Steps.{minus_times, IsOverflow}
use Rattle.mk_move.specs.declared.in_place.Taken.{Taken}
use Rattle.mk_move.specs.declared.steps.OverflowAt.{OverflowAt}

-- Taking a multiple of y off a move: its entries become the difference, and its weight stays. It is as before where the
-- difference is zero, and where an entry leaves the range.
abbrev pub TakesOffInPlace : Weighed → ℤ → List ℤ → Result Bool OverflowAt → Weighed → Type 0
TakesOffInPlace m times y (Ok true) after = after ≡ record m { entries = minus_times m.entries times y }
TakesOffInPlace m times y (Ok false) after = (after ≡ m) × (minus_times m.entries times y ≡ zeros (length m.entries))
TakesOffInPlace m times y (Err at) after = (after ≡ m) × IsOverflow m.entries y times at

-- an entry of a row from which a multiple may be taken off twice, within 128 bits
abbrev pub IsWide : ℤ → Type 0
IsWide z = unsigned_abs z ≤ 2 ^ 126

-- a bit for each column of y with an entry that isn't 0, and for no column behind the last
pub record AreBits (y : List ℤ) (bits : ℕ) : Type 0 where
  pub within : (c : ℕ) → bit_at bits c ≡ 1 → c < length y
  pub covers : (c : ℕ) → bit_at bits c ≡ 0 → entry y c ≡ pos 0

-- rows of as many columns, the same but in the columns of the bits
pub record AreSameBut (x y : List ℤ) (bits : ℕ) : Type 0 where
  pub columns : length x ≡ length y
  pub within : (c : ℕ) → bit_at bits c ≡ 1 → c < length x
  pub same : (c : ℕ) → bit_at bits c ≡ 0 → entry x c ≡ entry y c

-- What is known of a row in which an entry of a column changes, before and after: the bits of the column are those of the
-- entry, and the others stay. Its entries are in range only if they were, and the new one is.
pub record IsWithEntry (before : Taken) (column : ℕ) (value : ℤ) (after : Taken) : Type 0 where
  pub positive : (bit_at after.plus column ≡ 1) ↔ (pos 0 <ℤ value)
  pub negative : (bit_at after.minus column ≡ 1) ↔ (value <ℤ pos 0)
  pub others_plus : (c : ℕ) → c ≢ column → bit_at after.plus c ≡ bit_at before.plus c
  pub others_minus : (c : ℕ) → c ≢ column → bit_at after.minus c ≡ bit_at before.minus c
  pub range : IsTrue after.in_range → IsTrue before.in_range × IsEntry value

-- Whether x minus so many times y has an entry that isn't 0, all of them in range; or where one leaves it.
abbrev pub LeavesSome : List ℤ → ℤ → List ℤ → Result Bool OverflowAt → Type 0
LeavesSome x times y (Ok true) = (minus_times x times y ≢ zeros (length x)) × All IsEntry (minus_times x times y)
LeavesSome x times y (Ok false) = minus_times x times y ≡ zeros (length x)
LeavesSome x times y (Err at) = IsOverflow x y times at
