use Rattle.std.proofs.Common.{arith, pos, get_or, ◌*ℤ◌}
use mir.Syntax.{w128}
use mir.Val.{to_z, of_z}
use Rattle.std.proofs.lemmas.List.Elements.{All-get_or}
use Rattle.mk_model.specs.Vectors.{IsEntry}
use Rattle.mk_model.specs.ChosenGradings.{IsSmallEntry}
use Rattle.mk_move.proofs.Entries.{as_entry, entry_read}
use Rattle.mk_move.proofs.Weights.{IsTurn, turn_small, product_read_fits, no_total, whole_total}
use Rattle.mk_move.proofs.grading.product_of.Goals as goal
use Rattle.mk_move.proofs.grading.product_of.Goals.{After-from}

this_turn : (c : After-from) → IsTurn c.args.weights.now c.args.row.now c.loop-column.column (to_z w128 c.loop-column.total-bits) (to_z w128 (of_z w128 (to_z w128 (of_z w128 c.from.result) *ℤ as_entry (get_or c.args.row.now c.loop-column.column (pos 0)))))
this_turn c =
    let entry = get_or c.args.row.now c.loop-column.column (pos 0) in
    turn_small c.args.weights.now c.args.row.now c.loop-column.column (to_z w128 c.loop-column.total-bits) c.from.result entry c.requires.few c.requires.small c.requires.entries c.requires.columns (omega arith) c.loop-column.invariant c.from.ensures
    (entry_read entry (All-get_or IsEntry c.args.row.now c.loop-column.column (pos 0) (omega arith) c.requires.entries))

pub loop-column-init : goal.loop-column-init
loop-column-init c = no_total c.args.weights.now c.args.row.now

pub overflow_mul-total : goal.overflow_mul-total
overflow_mul-total c =
    let n = c.loop-column.column in
    let small = All-get_or IsSmallEntry c.args.weights.now n (pos 0) (omega arith) c.requires.small in
    let range = All-get_or IsEntry c.args.row.now n (pos 0) (omega arith) c.requires.entries in
    product_read_fits (get_or c.args.weights.now n (pos 0)) (get_or c.args.row.now n (pos 0)) c.from.result (get_or c.args.row.now n (pos 0)) small range c.from.ensures (entry_read _ range)

pub overflow_add-total : goal.overflow_add-total
overflow_add-total c = (this_turn (goal.at.overflow_add-total c).After-from).fits

pub loop-column-preserved : goal.loop-column-preserved
loop-column-preserved c = (this_turn (goal.at.loop-column-preserved c).After-from).next

pub returns : goal.returns
returns c =
    whole_total c.args.weights.now c.args.row.now c.loop-column.column (to_z w128 c.loop-column.total-bits) (omega arith) (omega arith) c.loop-column.invariant
