-- What a table may have, in the words of the grammar.
use Rattle.std.specs.Prelude.{ℤ, ◌≤ℤ◌}
use Rattle.mk_model.specs.Tables.{Limits}
use Rattle.mk_files.specs.declared.bounds.Bounds.{Bounds}

abbrev pub limits_of : Bounds → Limits
limits_of bounds = record {
  rows = bounds.rows;
  columns = bounds.columns;
  least = bounds.least;
  most = bounds.most;
}

-- an entry is neither too small nor too large
abbrev pub IsWithin : Bounds → ℤ → Type 0
IsWithin bounds z = (bounds.least ≤ℤ z) × (z ≤ℤ bounds.most)
