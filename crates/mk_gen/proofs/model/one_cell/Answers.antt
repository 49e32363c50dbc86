use Rattle.std.proofs.Common.{ap, ◌∙◌}
use Rattle.mk_gen.specs.Models.{model_rows, cells}
use Rattle.mk_gen.proofs.Rows.{grid_of}
use Rattle.mk_gen.proofs.model.one_cell.Goals as goal

pub returns : goal.returns
unfolding model_rows cells
returns c = c.from_entries.ensures.grid ∙ ap (grid_of 1 1) c.in_ok-vec.ensures.items
