use Rattle.std.proofs.Common.{length, List, ℤ, pos, arith, sym, inl, inr}
use Rattle.std.specs.Ordering.{int_eq}
use Rattle.mk_model.specs.Vectors.{entry}
use Rattle.mk_move.specs.Sides.{part_of}
use Rattle.mk_saturate.proofs.ColumnsLeft.{column_fewer, left_short}
use Rattle.mk_saturate.proofs.FreedMoves.{on_false, on_true, taken_past, taken_out, taken_all}
use Rattle.mk_saturate.proofs.freeing.take_part_out.Goals as goal
use Rattle.mk_saturate.proofs.freeing.take_part_out.Goals.{then-left-column+then-part_has, else-left-column, else-left-column-via-then-left-column+else-part_has, else-left-column-via-else-left-column}

pub overflow_add-taken : goal.overflow_add-taken
overflow_add-taken c =
    omega (arith, c.loop-column.invariant.count, left_short c.args.left.now, column_fewer c.loop-column.left c.loop-column.column c.if-left-column.true, c.requires.few_columns)

pub loop-column-preserved : goal.loop-column-preserved
loop-column-preserved c =
    let x = part_of c.args.side c.args.found.now.entries in
    let column = c.loop-column.column in
    elim c.if-left-column.branch [
      | then-left-column+then-part_has w ↦
          rw (w.left-is, w.taken-is) (taken_out x c.args.left.now c.loop-column.left column c.loop-column.taken c.loop-column.invariant w.if-left-column.true
          (on_false w.part_has.result (int_eq (entry x column) (pos 0)) w.part_has.ensures w.if-part_has.true)
          (omega (arith, c.loop-column-test.true, c.columns-column-end.ensures.value, c.requires.columns, c.loop-column.invariant.columns)))
      | else-left-column w ↦
          rw (w.left-is, w.taken-is) (elim w.else-left-column.branch [
            | else-left-column-via-then-left-column+else-part_has w' ↦
                taken_past x c.args.left.now c.loop-column.left column c.loop-column.taken c.loop-column.invariant
                (inr (on_true w'.part_has.result (int_eq (entry x column) (pos 0)) w'.part_has.ensures w'.if-part_has.false))
            | else-left-column-via-else-left-column w' ↦
                taken_past x c.args.left.now c.loop-column.left column c.loop-column.taken c.loop-column.invariant (inl w'.if-left-column.false)
          ])
    ]

pub returns-clause-left : goal.returns-clause-left
returns-clause-left c =
    taken_all (part_of c.args.side c.args.found.now.entries) c.args.left.now c.loop-column.left c.loop-column.column c.loop-column.taken
    (omega (arith, c.loop-column-test.false, c.columns-column-end.ensures.value, c.requires.columns)) c.loop-column.invariant
