use Rattle.std.proofs.Common.{◌≡◌, ℕ, ◌-◌, ◌*◌, ap, sym, ◌∙◌, subst, arith, List, ℤ, []}
use Rattle.std.specs.List.{flat_map, range_with_len}
use Rattle.mk_model.specs.Tables.{Grid, rows_of}
use Rattle.mk_files.specs.Table.{IsTable}
use Rattle.mk_gen.specs.Models.{times_difference}
use Rattle.mk_gen.specs.Wider.{wider}
use Rattle.mk_gen.proofs.Pieces.{range_piece}
use Rattle.mk_gen.proofs.Rows.{wider_is_table}
use Rattle.mk_gen.proofs.model.with_size.Goals as goal

pub loop-s-init : goal.loop-s-init
loop-s-init c = c.new-entries.ensures.items

-- the rows of the difference at s
abbrev piece : ℕ → Grid → ℕ → List ℤ
piece size grid s = flat_map (times_difference size s) (rows_of grid)

pub loop-s-preserved : goal.loop-s-preserved
loop-s-preserved c =
    range_piece (piece c.args.size c.args.table.now) [] c.loop-s.entries.items _ c.loop-s.s c.loop-s.invariant c.in_ok-push_rows.ensures

-- the grid that is handed over
the_grid : (size : ℕ) (grid : Grid) (s rows columns : ℕ) (entries : List ℤ) → s ≡ size - 1 → entries ≡ flat_map (piece size grid) (range_with_len 0 s) → rows ≡ grid.rows → columns ≡ grid.columns
    → record { rows = (size - 1) * rows; columns = size * columns; entries = entries } ≡ wider size grid
the_grid size grid s rows columns entries all e many wide =
    ap (λ es. record { rows = (size - 1) * rows; columns = size * columns; entries = es }) (e ∙ ap (λ n. flat_map (piece size grid) (range_with_len 0 n)) all)
    ∙ ap (λ n. record { rows = (size - 1) * n; columns = size * columns; entries = flat_map (piece size grid) (range_with_len 0 (size - 1)) }) many
    ∙ ap (λ n. record { rows = (size - 1) * grid.rows; columns = size * n; entries = flat_map (piece size grid) (range_with_len 0 (size - 1)) }) wide

pub from_entries-requires : goal.from_entries-requires
from_entries-requires c =
    let same = the_grid c.args.size c.args.table.now c.loop-s.s c.rows.result c.columns.result c.loop-s.entries.items (omega arith) c.loop-s.invariant c.rows.ensures.value c.columns.ensures.value in
    subst IsTable (sym same) (wider_is_table c.args.size c.args.table.now c.rows.ensures.kept c.requires.rows c.requires.columns)

pub returns : goal.returns
returns c =
    c.from_entries.ensures.grid
    ∙ the_grid c.args.size c.args.table.now c.loop-s.s c.rows.result c.columns.result c.loop-s.entries.items (omega arith) c.loop-s.invariant c.rows.ensures.value c.columns.ensures.value
