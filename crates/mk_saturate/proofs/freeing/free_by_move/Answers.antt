use Rattle.std.proofs.Common.{length, arith, ap, ◌∙◌}
use Rattle.mk_model.specs.Orders.{standard}
use Rattle.mk_move.specs.declared.side.Side.{Side}
use Rattle.mk_saturate.specs.Freed.{freed_on}
use Rattle.mk_saturate.proofs.ColumnsLeft.{left_short}
use Rattle.mk_saturate.proofs.FreedMoves.{freed_both}
use Rattle.mk_saturate.proofs.freeing.free_by_move.Goals as goal

pub overflow_add-result : goal.overflow_add-result
overflow_add-result c = omega (arith, c.free_by_side-first.ensures.count, c.free_by_side-second.ensures.count, left_short c.args.left.now, c.requires.few_columns)

pub returns-clause-left : goal.returns-clause-left
returns-clause-left c =
    let u = c.args.found.now.entries in
    freed_both (standard (length u)) u c.lead_side-lead.result c.args.left.now c.free_by_side-first.new.left c.free_by_side-second.new.left c.lead_side-lead.ensures c.free_by_side-first.ensures.left
    (c.free_by_side-second.ensures.left ∙ ap (λ (side : Side). freed_on side u c.free_by_side-first.new.left) c.other.ensures)
