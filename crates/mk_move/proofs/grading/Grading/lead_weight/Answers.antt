use Rattle.std.proofs.Common.{ap, sym, ◌∙◌, subst, ◌<◌, ◌^◌, ℤ, unsigned_abs, rules}
use mir.Syntax.{w128}
use mir.Val.{SFits}
use Rattle.std.proofs.lemmas.Int.{to_z-of_z}
use Rattle.mk_model.specs.Vectors.{weight, positive_part}
use Rattle.mk_move.proofs.Parts.{All-positive_part}
use Rattle.mk_move.proofs.Weights.{weights_small, product_small}
use Rattle.mk_move.proofs.grading.Grading.lead_weight.Goals as goal

pub returns-clause-small : goal.returns-clause-small
returns-clause-small c =
    let weights = c.self.inside.weights.items in
    let lead = positive_part c.args.row.now in
    let fits : SFits w128 c.lead_product_of.result = search rules in
    let value = to_z-of_z w128 c.lead_product_of.result fits ∙ c.lead_product_of.ensures ∙ ap (λ w. weight w lead) c.deref.ensures.value in
    subst (λ (z : ℤ). unsigned_abs z < 2 ^ 121) (sym value) (product_small weights lead c.self.invariant.columns (weights_small weights c.self.invariant.each) (All-positive_part c.args.row.now c.requires.entries))
