use Rattle.mk_model.proofs.FreeColumns.{moves_freed}
use Rattle.mk_model.proofs.laws.free_columns_leave.Goals as goal

pub returns : goal.returns
returns c lattice priority moves left g in_lattice connected = moves_freed g moves in_lattice priority left connected
