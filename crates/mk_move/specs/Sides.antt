-- The two parts of a vector, and how often one vector divides another. (Sturmfels, chapters 1 and 5: division by leading
-- terms)
use Rattle.std.specs.Prelude.{◌≡◌, ◌⊎◌, ℕ, ◌≤◌, List, Some, slice_get, ℤ, pos, neg_ℤ}
use Rattle.std.specs.Int.{int_max}
use Rattle.mk_model.specs.Vectors.{positive_part, negative_part, scale}
use Rattle.mk_model.specs.Reductions.{Divides}
use Rattle.mk_move.specs.declared.side.Side.{Side}
use Rattle.mk_move.specs.declared.side.Side.TheVariants.{Plus, Minus}

-- the part of a vector on a side
abbrev pub part_of : Side → List ℤ → List ℤ
part_of Plus r = positive_part r
part_of Minus r = negative_part r

-- the entry of that part, by the entry of the vector
abbrev pub entry_on : Side → ℤ → ℤ
entry_on Plus a = int_max a (pos 0)
entry_on Minus a = int_max (neg_ℤ a) (pos 0)

-- the two sides, in either order
abbrev pub AreBothSides : Side → Side → Type 0
AreBothSides first second = ((first ≡ Plus) × (second ≡ Minus)) ⊎ ((first ≡ Minus) × (second ≡ Plus))

-- the greatest number of times that x divides y, and at least once
pub record IsMostTimes (x y : List ℤ) (times : ℤ) : Type 0 where
  pub count : ℕ
  pub value : times ≡ pos count
  pub some : 1 ≤ count
  pub divides : Divides (scale (pos count) x) y
  pub greatest : (q : ℕ) → Divides (scale (pos q) x) y → q ≤ count

-- the vector at this place of the list divides x
pub record DividesAt (leads : List (List ℤ)) (x : List ℤ) (place : ℕ) : Type 0 where
  pub lead : List ℤ
  pub at : slice_get leads place ≡ Some lead
  pub divides : Divides lead x
