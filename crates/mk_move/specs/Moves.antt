-- What a move is seen as, and what reading one from a row gives.
use Rattle.std.specs.Prelude.{◌≡◌, ◌≢◌, ◌⊎◌, ◌≤◌, ℕ, List, length, All, Option, Some, None, Result, Ok, Err, ℤ, pos, ◌<ℤ◌}
use Rattle.mk_model.specs.Vectors.{zeros, weight, positive_part, IsEntry}
use Rattle.mk_model.specs.Orders.{IsRowTurned, IsBelow, standard, lead, tail}
use Rattle.mk_move.specs.declared.moves.MoveFault.{MoveFault}
use Rattle.mk_move.specs.declared.moves.MoveFault.TheVariants.{Memory, NotGraded}

-- a move: its entries, and the weight of its lead
pub record Weighed : Type 0 where
  pub entries : List ℤ
  pub weight : ℤ

-- at most 512 columns, not zero, and entries in range
pub record IsMoveKept (m : Weighed) : Type 0 where
  pub columns : length m.entries ≤ 512
  pub not_zero : m.entries ≢ zeros (length m.entries)
  pub entries : All IsEntry m.entries

-- a row that isn't zero, or its negative, oriented by the list
pub record IsRowOriented (row : List ℤ) (p : List ℕ) (entries : List ℤ) : Type 0 where
  pub turned : IsRowTurned p row entries
  pub not_zero : row ≢ zeros (length row)

-- the row or its negative, oriented by the list, with the weight that the grading gives
pub record IsMoveOfRow (row w : List ℤ) (p : List ℕ) (m : Weighed) : Type 0 where
  pub entries : IsRowOriented row p m.entries
  pub weight : m.weight ≡ weight w (positive_part m.entries)

-- Reading a move from a row: none exactly for the zero row, refused exactly where the product with the grading isn't 0.
abbrev pub ReadsRow : List ℤ → List ℤ → List ℕ → Result (Option Weighed) MoveFault → Type 0
ReadsRow row w p (Ok None) = row ≡ zeros (length row)
ReadsRow row w p (Ok (Some m)) = (weight w row ≡ pos 0) × IsMoveOfRow row w p m
ReadsRow row w p (Err Memory) = Unit {0}
ReadsRow row w p (Err (NotGraded value)) = (value ≡ weight w row) × (value ≢ pos 0)

-- the product with the grading is 0, and the weight is that of the lead
pub record IsGraded (w : List ℤ) (m : Weighed) : Type 0 where
  pub product : weight w m.entries ≡ pos 0
  pub weight : m.weight ≡ weight w (positive_part m.entries)

-- the moves in their order, by the weights that they have
abbrev pub IsBefore : ℕ → Weighed → Weighed → Type 0
IsBefore n a b =
    (a.weight <ℤ b.weight)
    ⊎ ((a.weight ≡ b.weight) × (IsBelow (standard n) (lead a.entries) (lead b.entries)
    ⊎ ((lead a.entries ≡ lead b.entries) × IsBelow (standard n) (tail a.entries) (tail b.entries))))
