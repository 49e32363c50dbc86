use Rattle.std.proofs.Common.{◌↔◌, drop}
use Rattle.mk_model.specs.Orders.{IsBelow}
use Rattle.mk_model.proofs.plain.is_below.Given as goal

abbrev pub invariant-loop-column : goal.invariant-loop-column
invariant-loop-column l = IsBelow l.columns l.x l.y ↔ IsBelow (drop l.column-index l.columns) l.x l.y
