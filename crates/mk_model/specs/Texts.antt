-- The text of a list of moves: the file `.mar` of the 4ti2 manual, in this project's printed form.
use Rattle.std.specs.Prelude.{ℕ, List, [], ◌∷◌, ◌++◌, length, map, ℤ, decimal}
use Rattle.std.specs.Fmt.{signed_decimal}
use Rattle.std.specs.List.{flat_map, join_with_byte}

-- the two numbers of the first line, a space between them and byte 10 behind them
abbrev pub header_line : ℕ → ℕ → List ℕ
header_line count columns = decimal count ++ 32 ∷ decimal columns ++ 10 ∷ []

-- the entries in decimal, single spaces between them, and byte 10
abbrev pub move_line : List ℤ → List ℕ
move_line m = join_with_byte 32 (map signed_decimal m) ++ 10 ∷ []

-- the number of moves and of columns, and then a line for each move
abbrev pub move_text : ℕ → List (List ℤ) → List ℕ
move_text columns moves = header_line (length moves) columns ++ flat_map move_line moves
