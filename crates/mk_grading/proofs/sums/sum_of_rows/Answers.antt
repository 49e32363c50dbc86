use Rattle.std.proofs.Common.{◌≡◌, ◌+◌, All, List, length, ap, sym, ◌∙◌, subst, arith, ℤ}
use Rattle.mk_model.specs.Tables.{rows_of}
use Rattle.mk_model.specs.Vectors.{zeros, add}
use Rattle.mk_model.specs.ChosenGradings.{IsSmallEntry, nonnegative_rows, sum_of_rows}
use Rattle.mk_model.proofs.TableRows.{length-rows_of, rows_entries}
use Rattle.std.proofs.lemmas.List.{take_all, with_items_is}
use Rattle.mk_grading.proofs.RowsRead.{got_holds}
use Rattle.mk_grading.proofs.RowsSummed.{IsSumUpTo, none_summed, row_left, row_added}
use Rattle.mk_grading.proofs.sums.sum_of_rows.Goals as goal
use Rattle.mk_grading.proofs.sums.sum_of_rows.Goals.{then-is_nonnegative, else-is_nonnegative}

pub loop-r-init : goal.loop-r-init
loop-r-init c =
    let is_zeros : c.in_ok-sums.sums.items ≡ zeros c.args.matrix.now.columns = c.in_ok-sums.ensures.items_if_clones_equal (λ y e. e) ∙ ap zeros c.columns.ensures.value in
    subst (λ (x : List ℤ). IsSumUpTo c.args.matrix.now x 0) (sym is_zeros) (none_summed c.args.matrix.now)

pub add_row-requires-clause-small : goal.add_row-requires-clause-small
add_row-requires-clause-small c =
    got_holds (All IsSmallEntry) (rows_of c.args.matrix.now) c.loop-r.r c.row-row.result.now c.row-row.ensures.value (rows_entries IsSmallEntry c.args.matrix.now c.requires)

pub loop-r-preserved : goal.loop-r-preserved
loop-r-preserved c =
    let grid = c.args.matrix.now in
    let row = c.row-row.result.now in
    let before = c.loop-r.sums in
    elim c.if-is_nonnegative.branch [
      | then-is_nonnegative w ↦
          let added : w.add_row.new.sums ≡ add before.items row = w.add_row.ensures ∙ ap (λ x. add x row) w.deref_mut.ensures.value in
          let long : length w.add_row.new.sums ≡ before.len = omega (arith, before.ok.0, w.add_row.auto.sums, w.deref_mut.ensures.len) in
          let next = row_added grid before.items c.loop-r.r c.loop-r.invariant row c.row-row.ensures.value (sym w.if-is_nonnegative.ensures)
          (got_holds (All IsSmallEntry) (rows_of grid) c.loop-r.r row c.row-row.ensures.value (rows_entries IsSmallEntry grid c.requires)) c.row-row.ensures.len in
          subst (λ (x : List ℤ). IsSumUpTo grid x (c.loop-r.r + 1)) (sym (ap (λ v. v.items) w.sums-is ∙ with_items_is before w.add_row.new.sums long ∙ added)) next
      | else-is_nonnegative w ↦
          subst (λ (x : List ℤ). IsSumUpTo grid x (c.loop-r.r + 1)) (sym (ap (λ v. v.items) w.sums-is))
          (row_left grid before.items c.loop-r.r c.loop-r.invariant row c.row-row.ensures.value (sym w.if-is_nonnegative.ensures))
    ]

pub returns-clause-value : goal.returns-clause-value
returns-clause-value c =
    c.loop-r.invariant.value
    ∙ ap (λ rows. sum_of_rows c.args.matrix.now.columns (nonnegative_rows rows)) (take_all c.loop-r.r (rows_of c.args.matrix.now) (omega (arith, length-rows_of c.args.matrix.now)))
