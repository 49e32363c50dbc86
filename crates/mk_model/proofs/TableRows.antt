-- The rows of a table.
use Rattle.std.proofs.Common.{◌≡◌, ℕ, zero, suc, ◌+◌, ◌*◌, List, length, take, drop, All, refl, ap, arith, ℤ}
use Rattle.std.proofs.lemmas.List.{length-take-le, length-drop}
use Rattle.std.proofs.lemmas.List.Elements.{All-nil, All-cons, All-take, All-drop}
use Rattle.mk_model.specs.Tables.{Grid, cut, rows_of}

pub length-cut : (rows columns : ℕ) (entries : List ℤ) → length (cut rows columns entries) ≡ rows
length-cut zero columns entries = refl
length-cut (suc rows) columns entries = ap suc (length-cut rows columns (drop columns entries))

pub length-rows_of : (grid : Grid) → length (rows_of grid) ≡ grid.rows
length-rows_of grid = length-cut grid.rows grid.columns grid.entries

-- each row of a table has as many columns
cut_columns : (rows columns : ℕ) (entries : List ℤ) → length entries ≡ rows * columns →
    All (λ row. length row ≡ columns) (cut rows columns entries)
cut_columns zero columns entries e = All-nil (λ row. length row ≡ columns)
cut_columns (suc rows) columns entries e =
    let long : length entries ≡ columns + rows * columns = omega (arith, e) in
    let rest : length (drop columns entries) ≡ rows * columns = omega (arith, length-drop columns entries) in
    All-cons (λ row. length row ≡ columns) (take columns entries) (cut rows columns (drop columns entries))
    (length-take-le columns entries (omega arith)) (cut_columns rows columns (drop columns entries) rest)

pub rows_columns : (grid : Grid) → length grid.entries ≡ grid.rows * grid.columns → All (λ row. length row ≡ grid.columns) (rows_of grid)
rows_columns grid filled = cut_columns grid.rows grid.columns grid.entries filled

-- what holds of each entry holds of each entry of each row
cut_entries : (P : ℤ → Type 0) (rows columns : ℕ) (entries : List ℤ) → All P entries → All (All P) (cut rows columns entries)
cut_entries P zero columns entries h = All-nil (All P)
cut_entries P (suc rows) columns entries h =
    All-cons (All P) (take columns entries) (cut rows columns (drop columns entries)) (All-take P columns entries h)
    (cut_entries P rows columns (drop columns entries) (All-drop P columns entries h))

pub rows_entries : (P : ℤ → Type 0) (grid : Grid) → All P grid.entries → All (All P) (rows_of grid)
rows_entries P grid h = cut_entries P grid.rows grid.columns grid.entries h
