use Rattle.std.proofs.Common.{length, List, ℤ, pos, arith, sym, refl}
use Rattle.std.specs.Ordering.{int_eq}
use Rattle.std.proofs.lemmas.Bool.{or_right}
use Rattle.mk_model.specs.FreeColumns.{is_left}
use Rattle.mk_model.specs.Vectors.{entry}
use Rattle.mk_move.specs.Sides.{part_of}
use Rattle.mk_move.proofs.Divisions.{length-part_of}
use Rattle.mk_saturate.proofs.FreedMoves.{on_false, on_true, within_all, within_fails, left_more}
use Rattle.mk_saturate.proofs.freeing.is_part_left.Goals as goal
use Rattle.mk_saturate.proofs.freeing.is_part_left.Goals.{else-not-left-column-via-then-not-left-column+else-part_has, else-not-left-column-via-else-not-left-column}

pub returns-then-part_has : goal.returns-then-part_has
returns-then-part_has c =
    let x = part_of c.args.side c.args.found.now.entries in
    let column = c.loop-column.column in
    sym (within_fails x c.args.left.now column (omega (arith, c.loop-column-test.true, c.columns-column-end.ensures.value, length-part_of c.args.side c.args.found.now.entries))
    c.if-not-left-column.true (on_false c.part_has.result (int_eq (entry x column) (pos 0)) c.part_has.ensures c.if-part_has.true))

pub loop-column-preserved : goal.loop-column-preserved
loop-column-preserved c =
    let x = part_of c.args.side c.args.found.now.entries in
    let column = c.loop-column.column in
    elim c.else-not-left-column.branch [
      | else-not-left-column-via-then-not-left-column+else-part_has w ↦
          left_more c.args.left.now x column c.loop-column.invariant (or_right (is_left c.args.left.now column) _ (on_true w.part_has.result (int_eq (entry x column) (pos 0)) w.part_has.ensures w.if-part_has.false))
      | else-not-left-column-via-else-not-left-column w ↦
          left_more c.args.left.now x column c.loop-column.invariant (rw w.if-not-left-column.false refl)
    ]

pub returns : goal.returns
returns c =
    sym (within_all (part_of c.args.side c.args.found.now.entries) c.args.left.now c.loop-column.column
    (omega (arith, c.loop-column-test.false, c.columns-column-end.ensures.value, length-part_of c.args.side c.args.found.now.entries)) c.loop-column.invariant)
