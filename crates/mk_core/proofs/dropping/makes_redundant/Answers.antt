use Rattle.std.proofs.Common.{sym, ◌∙◌}
use Rattle.mk_core.proofs.NeededMoves.{divides_is, not_dividing, dividing_before, dividing_behind}
use Rattle.mk_core.proofs.dropping.makes_redundant.Goals as goal

pub returns-then-other-place : goal.returns-then-other-place
returns-then-other-place c =
    let v = c.move_at-v.result.now in
    let m = c.move_at-m.result.now in
    dividing_before c.args.basis.now.moves c.args.other c.args.place v m c.move_at-v.ensures.value c.move_at-m.ensures.value
    (sym (divides_is c.lead_divides.result v.entries m.entries c.lead_divides.ensures) ∙ c.if-lead_divides.true) c.if-other-place.true

pub returns-else-other-place : goal.returns-else-other-place
returns-else-other-place c =
    let v = c.move_at-v.result.now in
    let m = c.move_at-m.result.now in
    dividing_behind c.args.basis.now.moves c.args.other c.args.place v m c.move_at-v.ensures.value c.move_at-m.ensures.value
    (sym (divides_is c.lead_divides.result v.entries m.entries c.lead_divides.ensures) ∙ c.if-lead_divides.true) c.if-other-place.false
    c.lead_divides-else-other-place.result (divides_is c.lead_divides-else-other-place.result m.entries v.entries c.lead_divides-else-other-place.ensures)

pub returns-else-lead_divides : goal.returns-else-lead_divides
returns-else-lead_divides c =
    let v = c.move_at-v.result.now in
    let m = c.move_at-m.result.now in
    c.if-lead_divides.false
    ∙ not_dividing c.args.basis.now.moves c.args.other c.args.place v m c.move_at-v.ensures.value c.move_at-m.ensures.value
    (sym (divides_is c.lead_divides.result v.entries m.entries c.lead_divides.ensures) ∙ c.if-lead_divides.false)
