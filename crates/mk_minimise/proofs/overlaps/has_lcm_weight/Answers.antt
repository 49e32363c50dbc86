use Rattle.std.proofs.Common.{◌≡◌, ◌+ℤ◌, ◌≤ℤ◌, arith, ap, sym, ◌∙◌, subst}
use mir.Syntax.{w128}
use mir.Val.{SFits, to_z, of_z}
use Rattle.std.proofs.lemmas.Int.{ints, to_z-of_z}
use Rattle.std.proofs.lemmas.Bool.{both_ways}
use Rattle.mk_model.specs.Orders.{lead}
use Rattle.mk_model.specs.Vectors.{weight}
use Rattle.mk_move.proofs.Parts.{All-positive_part}
use Rattle.mk_move.proofs.Readings.{not_less}
use Rattle.mk_move.proofs.Weights.{weights_small, product_small}
use Rattle.mk_minimise.proofs.LcmWeights.{overlap_lighter}
use Rattle.mk_minimise.proofs.WideNumbers.{wide_same, sum_fits}
use Rattle.mk_minimise.proofs.overlaps.has_lcm_weight.Goals as goal
use Rattle.mk_minimise.proofs.overlaps.has_lcm_weight.Goals.{After-weight-2}

-- what the code adds are the weights of the leads
sum_is : (c : After-weight-2) → to_z w128 (of_z w128 c.weight.result) +ℤ to_z w128 (of_z w128 c.weight-2.result) ≡ weight c.args.grading.now (lead c.args.a.now.entries) +ℤ weight c.args.grading.now (lead c.args.b.now.entries)
sum_is c =
    ap (λ z. z +ℤ to_z w128 (of_z w128 c.weight-2.result)) (wide_same c.weight.result c.weight.type_inv ∙ c.weight.ensures ∙ c.requires.first.graded.weight)
    ∙ ap (λ z. weight c.args.grading.now (lead c.args.a.now.entries) +ℤ z) (wide_same c.weight-2.result c.weight-2.type_inv ∙ c.weight-2.ensures ∙ c.requires.second.graded.weight)

fits : (c : After-weight-2) → SFits w128 (weight c.args.grading.now (lead c.args.a.now.entries) +ℤ weight c.args.grading.now (lead c.args.b.now.entries))
fits c =
    let w = c.args.grading.now in
    let weights = c.columns-2.ensures.kept in
    sum_fits (weight w (lead c.args.a.now.entries)) (weight w (lead c.args.b.now.entries))
    (product_small w (lead c.args.a.now.entries) weights.columns (weights_small w weights.each) (All-positive_part c.args.a.now.entries c.columns.ensures.kept.entries))
    (product_small w (lead c.args.b.now.entries) weights.columns (weights_small w weights.each) (All-positive_part c.args.b.now.entries c.columns-3.ensures.kept.entries))

pub overflow_add-weight : goal.overflow_add-weight
overflow_add-weight c =
    let at = (goal.at.overflow_add-weight c).After-weight-2 in
    subst (SFits w128) (sym (sum_is at)) (fits at)

pub returns-else-bound-weight : goal.returns-else-bound-weight
returns-else-bound-weight c =
    let at = (goal.at.returns-else-bound-weight c).After-weight-2 in
    let w = c.args.grading.now in
    let a = c.args.a.now.entries in
    let b = c.args.b.now.entries in
    let together = weight w (lead a) +ℤ weight w (lead b) in
    let read = ap (λ z. to_z w128 (of_z w128 z)) (sum_is at) ∙ to_z-of_z w128 together (fits at) in
    let heavy : together ≤ℤ c.args.bound = not_less _ _ c.args.bound together (to_z-of_z w128 c.args.bound c.ranges.bound) read c.if-bound-weight.false in
    let light = overlap_lighter w a b c.columns-2.ensures.kept c.requires.first.columns c.requires.second.columns c.requires.overlap in
    ((λ e. absurd (both_ways _ c.if-bound-weight.false e)), (λ e. absurd (omega (arith, ints, heavy, light, e))))
