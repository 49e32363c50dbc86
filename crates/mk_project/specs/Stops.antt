-- The one line on the error channel for why a search among moves stopped.
use Rattle.std.specs.Prelude.{ℕ, ◌+◌, List, ◌++◌, codes, decimal}
use Rattle.std.specs.Fmt.{signed_decimal}
use Rattle.mk_move.specs.declared.steps.OverflowAt.{OverflowAt}

-- the column, counted from 1, where `left - times * right` left the range, and the three numbers
abbrev pub overflow_line : List ℕ → OverflowAt → List ℕ
overflow_line program at =
    program ++ codes ": overflow in column " ++ decimal (at.column + 1) ++ codes ": " ++ signed_decimal at.left ++ codes " - ("
    ++ signed_decimal at.times ++ codes ") * (" ++ signed_decimal at.right ++ codes ")\n"

abbrev pub budget_line : List ℕ → ℕ → List ℕ
budget_line program settled = program ++ codes ": budget of " ++ decimal settled ++ codes " pairs used and a pair is left\n"
