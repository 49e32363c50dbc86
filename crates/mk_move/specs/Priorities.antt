-- What a priority list keeps. (Sturmfels, chapters 1 and 4: the order of the variables of a term order)
use Rattle.std.specs.Prelude.{ℕ, ◌<◌, ◌^◌, ◌==◌, not, List, length, filter, All, Contains}
use Rattle.mk_model.specs.Orders.{standard}

-- every column below the length stands in the list, and nothing else: so each stands there once
pub record IsPriority (columns : List ℕ) : Type 0 where
  pub few : length columns < 2 ^ 32
  pub within : All (λ c. c < length columns) columns
  pub every : (c : ℕ) → c < length columns → Contains columns c

-- the columns other than one, from the last to the first
abbrev pub others : ℕ → ℕ → List ℕ
others column n = filter (λ c. not (c == column)) (standard n)
