-- Walks in a fibre. (Sturmfels, chapter 5)
use Rattle.std.specs.Prelude.{◌≡◌, ◌⊎◌, ℕ, List, Contains, ℤ}
use Rattle.mk_model.specs.Vectors.{add, subtract, IsPoint}

-- y is x plus a move or x minus a move
abbrev pub IsStep : (List ℤ → Type 0) → List ℤ → List ℤ → Type 0
IsStep moves x y = (m : List ℤ) × moves m × ((y ≡ add x m) ⊎ (y ≡ subtract x m))

-- steps by the moves lead from x to y, and every vertex, x and y too, is in the place
pub data Walk (moves place : List ℤ → Type 0) : List ℤ → List ℤ → Type 0 where
  stay : {x : List ℤ} → place x → Walk moves place x x
  step : {x y z : List ℤ} → place x → IsStep moves x y → Walk moves place y z → Walk moves place x z

-- a walk by the moves leads from x to y through nonnegative vectors of n columns
abbrev pub Joined : ℕ → (List ℤ → Type 0) → List ℤ → List ℤ → Type 0
Joined n moves x y = Walk moves (IsPoint n) x y

-- the moves that stand in a list
abbrev pub Members : List (List ℤ) → List ℤ → Type 0
Members list m = Contains list m
