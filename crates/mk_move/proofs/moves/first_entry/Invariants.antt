use Rattle.std.proofs.Common.{◌≡◌, drop}
use Rattle.mk_model.specs.Orders.{first_along}
use Rattle.mk_move.proofs.moves.first_entry.Given as goal

abbrev pub invariant-loop-column : goal.invariant-loop-column
invariant-loop-column l = first_along (drop l.column-index l.columns) l.row ≡ first_along l.columns l.row
