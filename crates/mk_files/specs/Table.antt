-- What each table keeps.
use Rattle.std.specs.Prelude.{◌≡◌, ◌*◌, ◌≤◌, length, All}
use Rattle.mk_model.specs.Tables.{Grid}
use Rattle.mk_model.specs.Vectors.{IsEntry}
use Rattle.mk_files.specs.declared.bounds.TheConstants.{MAX_ROWS, MAX_COLUMNS}

pub record IsTable (grid : Grid) : Type 0 where
  pub rows : grid.rows ≤ MAX_ROWS
  pub columns : grid.columns ≤ MAX_COLUMNS
  pub filled : length grid.entries ≡ grid.rows * grid.columns
  pub entries : All IsEntry grid.entries
