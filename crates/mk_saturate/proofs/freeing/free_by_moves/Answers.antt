use Rattle.std.proofs.Common.{length, ℕ, arith, ap, ◌∙◌}
use Rattle.mk_model.specs.FreeColumns.{freed_by_row, freed_by_rows}
use Rattle.mk_model.specs.Orders.{standard}
use Rattle.mk_model.proofs.FreeColumns.{length-freed_by_row}
use Rattle.mk_move.specs.MoveLists.{vectors_of}
use Rattle.mk_saturate.proofs.ColumnsLeft.{left_short}
use Rattle.mk_saturate.proofs.FreedMoves.{freed_more}
use Rattle.mk_saturate.proofs.freeing.free_by_moves.Goals as goal

pub overflow_add-freed : goal.overflow_add-freed
overflow_add-freed c = omega (arith, c.loop-k.invariant.count, c.free_by_move-freed.ensures.count, left_short c.args.left.now, c.requires.few_columns)

pub loop-k-preserved : goal.loop-k-preserved
loop-k-preserved c =
    let m = c.move_at.result.now in
    let columns = c.move_at.ensures.belongs.columns ∙ c.len-k-end.ensures.kept.columns in
    let freed = c.free_by_move-freed.ensures.left ∙ ap (λ (n : ℕ). freed_by_row (standard n) m.entries c.loop-k.left) columns in record {
      columns = ap length freed ∙ length-freed_by_row (standard (length c.args.basis.now.grading)) m.entries c.loop-k.left ∙ c.loop-k.invariant.columns;
      ahead = freed_more (standard (length c.args.basis.now.grading)) c.args.basis.now.moves c.loop-k.k m c.loop-k.left c.free_by_move-freed.new.left _ c.move_at.ensures.value c.loop-k.invariant.ahead freed;
      count = omega (arith, c.loop-k.invariant.count, c.free_by_move-freed.ensures.count);
    }
