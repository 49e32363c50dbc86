-- The chain of two moves through a third one. (Sturmfels, chapter 1: the pairs that Buchberger's algorithm needn't reduce)
use Rattle.std.specs.Prelude.{ℕ, List, ℤ, pos}
use Rattle.std.specs.Int.{int_max}
use Rattle.mk_model.specs.CoreStates.{move_at}
use Rattle.mk_model.specs.Orders.{lead}
use Rattle.mk_model.specs.Reductions.{lcm, Divides}

-- the lead of the third move divides the least common multiple of the leads of the first and the second
abbrev pub DividesBetween : List (List ℤ) → ℕ → ℕ → ℕ → Type 0
DividesBetween moves first second third =
    Divides (lead (move_at moves third)) (lcm (lead (move_at moves first)) (lead (move_at moves second)))

-- the entry of the least common multiple of two leads, where these are the entries of the moves
abbrev pub lcm_on : ℤ → ℤ → ℤ
lcm_on a b = int_max (int_max a b) (pos 0)
