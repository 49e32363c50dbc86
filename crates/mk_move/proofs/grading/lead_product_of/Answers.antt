use Rattle.std.proofs.Common.{◌≡◌, sym, ◌∙◌, pos, get_or, arith, ◌*ℤ◌}
use mir.Syntax.{w128}
use mir.Val.{to_z, of_z}
use Rattle.std.proofs.lemmas.List.Elements.{All-get_or}
use Rattle.mk_model.specs.Vectors.{positive_part, IsEntry}
use Rattle.mk_model.proofs.VectorAlgebra.{entry-positive_part, length-positive_part}
use Rattle.mk_move.specs.Gradings.{IsWeight}
use Rattle.mk_move.proofs.Parts.{All-positive_part}
use Rattle.mk_move.proofs.Entries.{as_entry}
use Rattle.mk_move.proofs.Readings.{lead_read}
use Rattle.mk_move.proofs.Weights.{IsTurn, IsWeight-small, turn, product_read_fits, no_total, whole_total}
use Rattle.mk_move.proofs.grading.lead_product_of.Goals as goal
use Rattle.mk_move.proofs.grading.lead_product_of.Goals.{After-max}

-- the lead's entry, as the code has it
lead_entry : (c : After-max) → as_entry c.max.result ≡ get_or (positive_part c.args.row.now) c.loop-column.column (pos 0)
lead_entry c =
    let entry = get_or c.args.row.now c.loop-column.column (pos 0) in
    lead_read entry c.max.result (All-get_or IsEntry c.args.row.now c.loop-column.column (pos 0) (omega arith) c.requires.entries) c.max.ensures.value
    ∙ sym (entry-positive_part c.args.row.now c.loop-column.column)

this_turn : (c : After-max) → IsTurn c.args.weights.now (positive_part c.args.row.now) c.loop-column.column (to_z w128 c.loop-column.total-bits) (to_z w128 (of_z w128 (to_z w128 (of_z w128 c.from.result) *ℤ as_entry c.max.result)))
this_turn c =
    let same = length-positive_part c.args.row.now in
    turn c.args.weights.now (positive_part c.args.row.now) c.loop-column.column (to_z w128 c.loop-column.total-bits) c.from.result c.max.result c.requires.weights (All-positive_part c.args.row.now c.requires.entries) (same ∙ c.requires.columns) (omega (arith, same)) c.loop-column.invariant c.from.ensures (lead_entry c)

pub loop-column-init : goal.loop-column-init
loop-column-init c = no_total c.args.weights.now (positive_part c.args.row.now)

pub overflow_mul-total : goal.overflow_mul-total
overflow_mul-total c =
    let n = c.loop-column.column in
    let same = length-positive_part c.args.row.now in
    let small = IsWeight-small _ (All-get_or IsWeight c.args.weights.now n (pos 0) (omega arith) c.requires.weights.each) in
    let range = All-get_or IsEntry (positive_part c.args.row.now) n (pos 0) (omega (arith, same)) (All-positive_part c.args.row.now c.requires.entries) in
    product_read_fits (get_or c.args.weights.now n (pos 0)) (get_or (positive_part c.args.row.now) n (pos 0)) c.from.result c.max.result small range c.from.ensures (lead_entry c)

pub overflow_add-total : goal.overflow_add-total
overflow_add-total c = (this_turn c).fits

pub loop-column-preserved : goal.loop-column-preserved
loop-column-preserved c = (this_turn c).next

pub returns : goal.returns
returns c =
    let same = length-positive_part c.args.row.now in
    whole_total c.args.weights.now (positive_part c.args.row.now) c.loop-column.column (to_z w128 c.loop-column.total-bits) (omega arith) (omega (arith, same)) c.loop-column.invariant
