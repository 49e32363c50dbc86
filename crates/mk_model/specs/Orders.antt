-- The orders of vectors and of moves. (Sturmfels, chapters 4 and 5: a term order, leading and trailing terms)
use Rattle.std.specs.Prelude.{◌≡◌, ◌⊎◌, ℕ, zero, suc, ◌==◌, not, if◌then◌else◌, List, [], ◌∷◌, filter, ℤ, pos, ◌<ℤ◌, int_le}
use Rattle.std.specs.Ordering.{int_eq}
use Rattle.mk_model.specs.Vectors.{entry, negate, positive_part, negative_part, weight}

-- Along a priority list of columns: at the first column of it where they differ, x has the larger entry.
abbrev pub IsBelow : List ℕ → List ℤ → List ℤ → Type 0
IsBelow [] x y = ⊥
IsBelow (c ∷ p) x y = (entry y c <ℤ entry x c) ⊎ ((entry x c ≡ entry y c) × IsBelow p x y)

-- the columns from the last to the first
abbrev pub standard : ℕ → List ℕ
standard zero = []
standard (suc n) = n ∷ standard n

-- the list of a column: that column, and then the others from the last to the first
abbrev pub list_of_column : ℕ → ℕ → List ℕ
list_of_column n column = column ∷ filter (λ c. not (c == column)) (standard n)

-- the negative part is below the positive part: the first nonzero entry along p is negative
abbrev pub IsOriented : List ℕ → List ℤ → Type 0
IsOriented p v = IsBelow p (negative_part v) (positive_part v)

-- the row or its negative, oriented by the list
pub record IsRowTurned (p : List ℕ) (row move : List ℤ) : Type 0 where
  pub either : (move ≡ row) ⊎ (move ≡ negate row)
  pub oriented : IsOriented p move

-- the first entry along a list of columns that isn't 0, or 0
abbrev pub first_along : List ℕ → List ℤ → ℤ
first_along [] row = pos 0
first_along (c ∷ columns) row = if int_eq (entry row c) (pos 0) then first_along columns row else entry row c

-- the row, or its negative where the first nonzero entry along the list is positive
abbrev pub oriented_by : List ℕ → List ℤ → List ℤ
oriented_by p row = if int_le (first_along p row) (pos 0) then row else negate row

-- the end of an oriented move that isn't below the other, and the other end
abbrev pub lead : List ℤ → List ℤ
lead m = positive_part m

abbrev pub tail : List ℤ → List ℤ
tail m = negative_part m

-- by weight; then the lead that is below the other; then, for one lead, the tail that is below the other
abbrev pub ComesBefore : ℕ → List ℤ → List ℤ → List ℤ → Type 0
ComesBefore n w m other =
    (weight w (lead m) <ℤ weight w (lead other))
    ⊎ ((weight w (lead m) ≡ weight w (lead other)) × (IsBelow (standard n) (lead m) (lead other)
    ⊎ ((lead m ≡ lead other) × IsBelow (standard n) (tail m) (tail other))))
