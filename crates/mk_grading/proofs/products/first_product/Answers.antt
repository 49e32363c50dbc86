use Rattle.std.proofs.Common.{◌≡◌, pos, List, ℤ, sym, ◌∙◌, arith}
use Rattle.std.proofs.lemmas.Int.{ints}
use Rattle.mk_model.specs.Vectors.{weight}
use Rattle.mk_model.specs.Tables.{rows_of}
use Rattle.mk_model.proofs.TableRows.{length-rows_of}
use Rattle.mk_grading.proofs.RowsRead.{all_more, all_taken}
use Rattle.mk_grading.proofs.products.first_product.Goals as goal

abbrev HasNoProduct : List ℤ → List ℤ → Type 0
HasNoProduct weights row = weight weights row ≡ pos 0

pub loop-lat_row-preserved : goal.loop-lat_row-preserved
loop-lat_row-preserved c =
    let none : c.product_of-value.result ≡ pos 0 = omega (arith, ints, c.if-value-ne0.false) in
    all_more (HasNoProduct c.args.weights.now) (rows_of c.args.lat.now) c.loop-lat_row.lat_row c.row.result.now c.row.ensures.value c.loop-lat_row.invariant
    (sym c.product_of-value.ensures ∙ none)

pub returns-clause-none : goal.returns-clause-none
returns-clause-none c =
    all_taken (HasNoProduct c.args.weights.now) (rows_of c.args.lat.now) c.loop-lat_row.lat_row (omega (arith, length-rows_of c.args.lat.now)) c.loop-lat_row.invariant
