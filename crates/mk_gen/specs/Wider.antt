-- A table with one size more.
use Rattle.std.specs.Prelude.{ℕ, ◌-◌, ◌*◌}
use Rattle.std.specs.List.{flat_map, range_with_len}
use Rattle.mk_model.specs.Tables.{Grid, rows_of}
use Rattle.mk_gen.specs.Models.{times_difference}

-- the rows of each of n neighbours over all rows of the table
abbrev pub wider : ℕ → Grid → Grid
wider n grid = record {
  rows = (n - 1) * grid.rows;
  columns = n * grid.columns;
  entries = flat_map (λ s. flat_map (times_difference n s) (rows_of grid)) (range_with_len 0 (n - 1));
}
