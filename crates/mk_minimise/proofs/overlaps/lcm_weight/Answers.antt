use Rattle.std.proofs.Common.{◌≡◌, length, arith, ap, ◌∙◌, sym, ◌*ℤ◌}
use mir.Syntax.{w64, w128}
use mir.Val.{to_z, of_z}
use Rattle.mk_model.specs.Vectors.{entry}
use Rattle.mk_model.specs.Orders.{lead}
use Rattle.mk_model.specs.Reductions.{lcm}
use Rattle.mk_move.proofs.Entries.{as_entry}
use Rattle.mk_move.proofs.Weights.{IsTurn, IsWeight-small, product_read_fits, turn, no_total, whole_total}
use Rattle.mk_minimise.proofs.LcmWeights.{lcm_entries, length-lcm_leads, larger_read}
use Rattle.mk_minimise.proofs.overlaps.lcm_weight.Goals as goal
use Rattle.mk_minimise.proofs.overlaps.lcm_weight.Goals.{After-from, After-columns-column-end}

whole : (c : After-columns-column-end) → length (lcm (lead c.args.a.now.entries) (lead c.args.b.now.entries)) ≡ length c.args.grading.now
whole c = length-lcm_leads c.args.a.now.entries c.args.b.now.entries (length c.args.grading.now) c.requires.columns c.requires.as_many

weight_read : (c : After-from) → c.from.result ≡ to_z w64 (of_z w64 (entry c.args.grading.now c.loop-column.column))
weight_read c = c.from.ensures ∙ ap (λ z. to_z w64 (of_z w64 z)) c.weight_at.ensures.value

entry_is : (c : After-from) → as_entry c.max-larger.result ≡ entry (lcm (lead c.args.a.now.entries) (lead c.args.b.now.entries)) c.loop-column.column
entry_is c =
    let column = c.loop-column.column in
    larger_read c.args.a.now.entries c.args.b.now.entries column c.entry.result c.entry-in-loop-column.result c.max.result c.max-larger.result
    (c.columns.ensures.kept.entries column _ (omega (arith, c.loop-column-test.true, c.columns-column-end.ensures.value, c.requires.columns)))
    (c.columns-3.ensures.kept.entries column _ (omega (arith, c.loop-column-test.true, c.columns-column-end.ensures.value, c.requires.as_many)))
    c.entry.ensures c.entry-in-loop-column.ensures c.max.ensures.value c.max-larger.ensures.value

this_turn : (c : After-from) → IsTurn c.args.grading.now (lcm (lead c.args.a.now.entries) (lead c.args.b.now.entries)) c.loop-column.column (to_z w128 c.loop-column.total-bits)
    (to_z w128 (of_z w128 (to_z w128 (of_z w128 c.from.result) *ℤ as_entry c.max-larger.result)))
this_turn c =
    let same = whole (goal.at.overflow_mul-total c).After-columns-column-end in
    turn c.args.grading.now (lcm (lead c.args.a.now.entries) (lead c.args.b.now.entries)) c.loop-column.column (to_z w128 c.loop-column.total-bits) c.from.result c.max-larger.result
    c.columns-2.ensures.kept (lcm_entries c.args.a.now.entries c.args.b.now.entries (c.requires.columns ∙ sym c.requires.as_many) c.columns.ensures.kept.entries c.columns-3.ensures.kept.entries)
    same (omega (arith, same, c.loop-column-test.true, c.columns-column-end.ensures.value)) c.loop-column.invariant (weight_read c) (entry_is c)

pub loop-column-init : goal.loop-column-init
loop-column-init c = no_total c.args.grading.now (lcm (lead c.args.a.now.entries) (lead c.args.b.now.entries))

pub overflow_mul-total : goal.overflow_mul-total
overflow_mul-total c =
    let column = c.loop-column.column in
    let same = whole (goal.at.overflow_mul-total c).After-columns-column-end in
    let entries = lcm_entries c.args.a.now.entries c.args.b.now.entries (c.requires.columns ∙ sym c.requires.as_many) c.columns.ensures.kept.entries c.columns-3.ensures.kept.entries in
    product_read_fits (entry c.args.grading.now column) (entry (lcm (lead c.args.a.now.entries) (lead c.args.b.now.entries)) column) c.from.result c.max-larger.result
    (IsWeight-small _ (c.columns-2.ensures.kept.each column _ (omega (arith, c.loop-column-test.true, c.columns-column-end.ensures.value))))
    (entries column _ (omega (arith, same, c.loop-column-test.true, c.columns-column-end.ensures.value))) (weight_read c) (entry_is c)

pub overflow_add-total : goal.overflow_add-total
overflow_add-total c = (this_turn c).fits

pub loop-column-preserved : goal.loop-column-preserved
loop-column-preserved c = (this_turn c).next

pub returns : goal.returns
returns c =
    let same = whole (goal.at.returns c).After-columns-column-end in
    whole_total c.args.grading.now (lcm (lead c.args.a.now.entries) (lead c.args.b.now.entries)) c.loop-column.column (to_z w128 c.loop-column.total-bits)
    (omega (arith, c.loop-column-test.false, c.columns-column-end.ensures.value)) (omega (arith, same, c.loop-column-test.false, c.columns-column-end.ensures.value)) c.loop-column.invariant
