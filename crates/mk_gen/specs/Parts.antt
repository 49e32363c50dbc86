-- The parts of a model's sizes.
use Rattle.std.specs.Prelude.{ℕ, zero, suc, List, [], ◌∷◌}

-- `x`, but not before the first size
abbrev pub x_before : ℕ → List ℕ
x_before zero = []
x_before (suc place) = 120 ∷ []
