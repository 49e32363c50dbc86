use Rattle.std.proofs.Common.{All, subst, sym, ◌∙◌, arith, rules}
use Rattle.mk_model.specs.Tables.{rows_of}
use Rattle.mk_model.specs.ChosenGradings.{IsSmallEntry, IsOrthogonal, FitsMatrix}
use Rattle.mk_model.proofs.TableRows.{length-rows_of, rows_entries}
use Rattle.mk_grading.proofs.RowsRead.{got_holds, all_more, all_taken}
use Rattle.mk_grading.proofs.given.check_matrix.Goals as goal

pub narrowed-requires : goal.narrowed-requires
narrowed-requires c =
    let matrix = c.in-Some.matrix.now in
    let small : All IsSmallEntry matrix.entries = search rules in
    got_holds (All IsSmallEntry) (rows_of matrix) c.loop-mat_row.mat_row c.row.result.now c.row.ensures.value (rows_entries IsSmallEntry matrix small)

pub first_product-requires-clause-small : goal.first_product-requires-clause-small
first_product-requires-clause-small c =
    let matrix = c.in-Some.matrix.now in
    let small : All IsSmallEntry matrix.entries = search rules in
    subst (All IsSmallEntry) (sym (c.deref.ensures.value ∙ c.in_ok-numbers.ensures))
    (got_holds (All IsSmallEntry) (rows_of matrix) c.loop-mat_row.mat_row c.row.result.now c.row.ensures.value (rows_entries IsSmallEntry matrix small))

pub loop-mat_row-preserved : goal.loop-mat_row-preserved
loop-mat_row-preserved c =
    all_more (IsOrthogonal c.args.lat.now) (rows_of c.in-Some.matrix.now) c.loop-mat_row.mat_row c.row.result.now c.row.ensures.value c.loop-mat_row.invariant
    (subst (IsOrthogonal c.args.lat.now) (c.deref.ensures.value ∙ c.in_ok-numbers.ensures) c.in_default-first_product.ensures.none)

pub returns-clause-fits : goal.returns-clause-fits
returns-clause-fits c =
    let matrix = c.in-Some.matrix.now in
    let fits : FitsMatrix c.args.lat.now matrix = record {
      columns = sym c.columns.ensures.value ∙ c.if-columns.false ∙ c.columns-2.ensures.value;
      products = all_taken (IsOrthogonal c.args.lat.now) (rows_of matrix) c.loop-mat_row.mat_row (omega (arith, length-rows_of matrix)) c.loop-mat_row.invariant;
    } in
    rw c.in-Some.is fits
