-- What the rows of made tables are, by the numbers of rows and columns.
use Rattle.std.specs.Prelude.{◌≡◌, ℕ, ◌+◌, ◌-◌, ◌*◌, ◌<◌, [], ◌∷◌, length, get_or, ◌*ℤ◌}
use Rattle.mk_model.specs.Vectors.{entry}
use Rattle.mk_gen.specs.Models.{neighbour_entry, model_rows}

-- there is a row for each s and t
abbrev pub RowsOfTwo : Type 0
RowsOfTwo = (a b : ℕ) → length (model_rows (a ∷ b ∷ [])) ≡ (a - 1) * (b - 1)

abbrev pub RowsOfThree : Type 0
RowsOfThree = (a b c : ℕ) → length (model_rows (a ∷ b ∷ c ∷ [])) ≡ (a - 1) * ((b - 1) * (c - 1))

-- Two sizes: the entry of the row of s and t at the cell (p, q) is the product of their entries.
abbrev pub EntriesOfTwo : Type 0
EntriesOfTwo =
    (a b s t p q : ℕ) → s + 1 < a → t + 1 < b → p < a → q < b
    → entry (get_or (model_rows (a ∷ b ∷ [])) (s * (b - 1) + t) []) (p * b + q) ≡ neighbour_entry s p *ℤ neighbour_entry t q

-- Three sizes: the same with a third factor.
abbrev pub EntriesOfThree : Type 0
EntriesOfThree =
    (a b c s t u p q r : ℕ) → s + 1 < a → t + 1 < b → u + 1 < c → p < a → q < b → r < c
    → entry (get_or (model_rows (a ∷ b ∷ c ∷ [])) (s * ((b - 1) * (c - 1)) + (t * (c - 1) + u)) []) (p * (b * c) + (q * c + r))
    ≡ neighbour_entry s p *ℤ (neighbour_entry t q *ℤ neighbour_entry u r)
