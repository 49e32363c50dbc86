use Rattle.std.proofs.Common.{length, ℕ, suc, ◌-◌, List, ℤ, pos, arith, subst}
use Rattle.std.specs.Ordering.{int_eq}
use Rattle.mk_model.specs.Vectors.{entry, positive_part, negative_part}
use Rattle.mk_saturate.proofs.FreedMoves.{NoneBehind, on_false, on_true, lead_plus, lead_minus, none_of_parts, none_more}
use Rattle.mk_saturate.proofs.freeing.lead_side.Goals as goal

pub returns-then-is_negative : goal.returns-then-is_negative
returns-then-is_negative c =
    let u = c.args.found.now.entries in
    let m = c.columns-columns.result - 1 - c.loop-behind.behind in
    lead_plus u m (subst (NoneBehind u) (omega (arith, c.columns-columns.ensures.value, c.loop-behind-test.true)) c.loop-behind.invariant)
    (on_false c.part_has-is_negative.result (int_eq (entry (negative_part u) m) (pos 0)) c.part_has-is_negative.ensures c.if-is_negative.true)

pub returns-then-is_positive : goal.returns-then-is_positive
returns-then-is_positive c =
    let u = c.args.found.now.entries in
    let m = c.columns-columns.result - 1 - c.loop-behind.behind in
    lead_minus u m (subst (NoneBehind u) (omega (arith, c.columns-columns.ensures.value, c.loop-behind-test.true)) c.loop-behind.invariant)
    (on_false c.part_has-is_positive.result (int_eq (entry (positive_part u) m) (pos 0)) c.part_has-is_positive.ensures c.if-is_positive.true)

pub loop-behind-preserved : goal.loop-behind-preserved
loop-behind-preserved c =
    let u = c.args.found.now.entries in
    let m = c.columns-columns.result - 1 - c.loop-behind.behind in
    subst (NoneBehind u) (omega (arith, c.columns-columns.ensures.value, c.loop-behind-test.true))
    (none_more u m (subst (NoneBehind u) (omega (arith, c.columns-columns.ensures.value, c.loop-behind-test.true)) c.loop-behind.invariant)
    (none_of_parts u m (on_true c.part_has-is_negative.result (int_eq (entry (negative_part u) m) (pos 0)) c.part_has-is_negative.ensures c.if-is_negative.false)
    (on_true c.part_has-is_positive.result (int_eq (entry (positive_part u) m) (pos 0)) c.part_has-is_positive.ensures c.if-is_positive.false)))
