-- The redundant moves of a list, by their places. (Sturmfels, chapter 1: a minimal basis of leading terms)
use Rattle.std.specs.Prelude.{ℕ, ◌+◌, Bool, not, ◌&&◌, ◌||◌, nat_lt, List, take, drop, ℤ}
use Rattle.mk_model.specs.CoreStates.{move_at}
use Rattle.mk_model.specs.Saturation.{has_divisor, is_redundant}

-- is the move of a place redundant
abbrev pub is_redundant_at : List (List ℤ) → ℕ → Bool
is_redundant_at moves place = is_redundant (take place moves) (move_at moves place) (drop (place + 1) moves)

-- Does the move of the other place make that of the place redundant: does its lead divide, and does it stand before, or
-- have a lead that isn't divided in turn?
abbrev pub makes_redundant : List (List ℤ) → ℕ → ℕ → Bool
makes_redundant moves other place =
    has_divisor (move_at moves place) (move_at moves other)
    && (nat_lt other place || not (has_divisor (move_at moves other) (move_at moves place)))
