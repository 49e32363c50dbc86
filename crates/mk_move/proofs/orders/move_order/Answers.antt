use Rattle.std.proofs.Common.{◌≡◌, arith, ◌∙◌, length, rules}
use mir.Syntax.{w128}
use mir.Val.{SFits}
use Rattle.std.proofs.lemmas.Int.{ints, to_z-of_z}
use Rattle.mk_model.specs.Orders.{lead}
use Rattle.mk_move.specs.Moves.{IsBefore}
use Rattle.mk_move.proofs.Readings.{not_less}
use Rattle.mk_move.proofs.Comparisons.{IsComparison, ordered_moves, by_leads, by_tails}
use Rattle.mk_move.proofs.orders.move_order.Goals as goal
use Rattle.mk_move.proofs.orders.move_order.Goals.{Else-weight-2, In_default, After-compare_parts-in-Equal}

same_weight : (c : Else-weight-2) → c.args.a.now.weight ≡ c.args.b.now.weight
same_weight c =
    let fits_a : SFits w128 c.weight.result = search rules in
    let fits_b : SFits w128 c.weight-2.result = search rules in
    let fits_c : SFits w128 c.weight-3.result = search rules in
    let fits_d : SFits w128 c.weight-4.result = search rules in
    let most = not_less _ _ _ _ (to_z-of_z w128 c.weight.result fits_a ∙ c.weight.ensures) (to_z-of_z w128 c.weight-2.result fits_b ∙ c.weight-2.ensures) c.if-weight.false in
    let least = not_less _ _ _ _ (to_z-of_z w128 c.weight-4.result fits_d ∙ c.weight-4.ensures) (to_z-of_z w128 c.weight-3.result fits_c ∙ c.weight-3.ensures) c.if-weight-2.false in
    omega (arith, ints, most, least)

leads : (c : In_default) → c.args.a.now.weight ≡ c.args.b.now.weight → IsComparison c.compare_parts.result (IsBefore (length c.args.a.now.entries) c.args.a.now c.args.b.now) (c.args.a.now ≡ c.args.b.now) (IsBefore (length c.args.a.now.entries) c.args.b.now c.args.a.now)
leads c e =
    ordered_moves (length c.args.a.now.entries) c.args.a.now c.args.b.now c.compare_parts.result
    (by_leads (length c.args.a.now.entries) c.args.a.now c.args.b.now c.compare_parts.result e c.in_default.not-Equal c.compare_parts.ensures)

pub returns-in_default : goal.returns-in_default
returns-in_default c =
    let a = leads (goal.at.returns-in_default c).In_default (same_weight (goal.at.returns-in_default c).Else-weight-2) in
    record { less = a.less; equal = a.equal; greater = a.greater }

tails : (c : After-compare_parts-in-Equal) → c.args.a.now.weight ≡ c.args.b.now.weight → IsComparison c.compare_parts-in-Equal.result (IsBefore (length c.args.a.now.entries) c.args.a.now c.args.b.now) (c.args.a.now ≡ c.args.b.now) (IsBefore (length c.args.a.now.entries) c.args.b.now c.args.a.now)
tails c e =
    let same : lead c.args.a.now.entries ≡ lead c.args.b.now.entries = rw c.in-Equal.is at c.compare_parts.ensures in
    ordered_moves (length c.args.a.now.entries) c.args.a.now c.args.b.now c.compare_parts-in-Equal.result
    (by_tails (length c.args.a.now.entries) c.args.a.now c.args.b.now c.compare_parts-in-Equal.result e same c.compare_parts-in-Equal.ensures)

pub returns-in-Equal-clause-less : goal.returns-in-Equal-clause-less
returns-in-Equal-clause-less c = (tails (goal.at.returns-in-Equal-clause-less c).After-compare_parts-in-Equal (same_weight (goal.at.returns-in-Equal-clause-less c).Else-weight-2)).less

pub returns-in-Equal-clause-equal : goal.returns-in-Equal-clause-equal
returns-in-Equal-clause-equal c = (tails (goal.at.returns-in-Equal-clause-equal c).After-compare_parts-in-Equal (same_weight (goal.at.returns-in-Equal-clause-equal c).Else-weight-2)).equal

pub returns-in-Equal-clause-greater : goal.returns-in-Equal-clause-greater
returns-in-Equal-clause-greater c = (tails (goal.at.returns-in-Equal-clause-greater c).After-compare_parts-in-Equal (same_weight (goal.at.returns-in-Equal-clause-greater c).Else-weight-2)).greater
