use Rattle.std.proofs.Common.{pos, arith}
use Rattle.std.proofs.lemmas.List.Elements.{All-get_or}
use Rattle.mk_model.specs.Vectors.{entry}
use Rattle.mk_model.specs.ChosenGradings.{IsSmallEntry}
use Rattle.mk_grading.proofs.RowsAdded.{IsSumSoFar, one_added, all_added, sum_read}
use Rattle.mk_grading.proofs.sums.add_row.Goals as goal

pub loop-column-preserved : goal.loop-column-preserved
loop-column-preserved c =
    let before = c.args.sums.now in
    let row = c.args.row.now in
    let i = c.loop-column.column in
    let so_far : IsSumSoFar (entry before i) = All-get_or IsSumSoFar before i (pos 0) (omega arith) c.requires.sums in
    let small : IsSmallEntry (entry row i) = All-get_or IsSmallEntry row i (pos 0) (omega arith) c.requires.small in
    one_added before row c.loop-column.sums i _ (omega arith) c.loop-column.invariant
    (sum_read (entry before i) (entry c.loop-column.sums i) (entry row i) so_far small (c.loop-column.invariant.rest i (omega arith)))

pub returns : goal.returns
returns c =
    all_added c.args.sums.now c.args.row.now c.loop-column.sums c.loop-column.column c.requires.columns (omega arith) c.loop-column.invariant
