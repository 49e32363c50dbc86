-- What is said of a model: its sizes, its table, and how many moves of each weight it has.
use Rattle.std.specs.Prelude.{ℕ, List, ◌++◌, length, map, codes, decimal, ℤ}
use Rattle.std.specs.Fmt.{signed_decimal}
use Rattle.std.specs.List.{flat_map, join_with_byte, count_by, dedup}
use Rattle.std.specs.Ordering.{int_eq}

-- the sizes, with `x` between them
abbrev pub model_line : List ℕ → List ℕ
model_line sizes = codes "model " ++ join_with_byte 120 (map decimal sizes) ++ codes "\n"

abbrev pub table_line : ℕ → ℕ → List ℕ
table_line rows columns = codes "rows " ++ decimal rows ++ codes " columns " ++ decimal columns ++ codes "\n"

abbrev pub moves_line : ℕ → List ℕ
moves_line count = codes "moves " ++ decimal count ++ codes "\n"

-- a weight, and how often it stands among the weights
abbrev pub weight_line : ℤ → ℕ → List ℕ
weight_line weight count = codes "weight " ++ signed_decimal weight ++ codes " moves " ++ decimal count ++ codes "\n"

abbrev pub times_in : List ℤ → ℤ → ℕ
times_in weights weight = count_by (λ w. int_eq w weight) weights

-- of ascending weights: a line for each weight that stands there, each once
unfoldable pub weight_lines : List ℤ → List ℕ
weight_lines weights = flat_map (λ weight. weight_line weight (times_in weights weight)) (dedup int_eq weights)

-- the summary of a model, from the sizes, the numbers of rows and columns, and the weights of the moves, ascending
abbrev pub summary_text : List ℕ → ℕ → ℕ → List ℤ → List ℕ
summary_text sizes rows columns weights =
    model_line sizes ++ table_line rows columns ++ moves_line (length weights) ++ weight_lines weights
