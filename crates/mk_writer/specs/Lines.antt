-- The spaces of a move's line.
use Rattle.std.specs.Prelude.{ℕ, zero, suc, List, [], ◌∷◌}

-- a space, but not before the first column
abbrev pub space_before : ℕ → List ℕ
space_before zero = []
space_before (suc column) = 32 ∷ []
