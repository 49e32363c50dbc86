use Rattle.std.proofs.Common.{ap, sym, ◌∙◌, subst, ◌<◌, ◌^◌, ℤ, unsigned_abs, rules}
use mir.Syntax.{w128}
use mir.Val.{SFits}
use Rattle.std.proofs.lemmas.Int.{to_z-of_z}
use Rattle.mk_model.specs.Vectors.{weight}
use Rattle.mk_move.proofs.Weights.{weights_small, product_small}
use Rattle.mk_move.proofs.grading.Grading.product.Goals as goal

pub returns-clause-small : goal.returns-clause-small
returns-clause-small c =
    let weights = c.self.inside.weights.items in
    let fits : SFits w128 c.product_of.result = search rules in
    let value = to_z-of_z w128 c.product_of.result fits ∙ c.product_of.ensures ∙ ap (λ w. weight w c.args.row.now) c.deref.ensures.value in
    subst (λ (z : ℤ). unsigned_abs z < 2 ^ 121) (sym value) (product_small weights c.args.row.now c.self.invariant.columns (weights_small weights c.self.invariant.each) c.requires.entries)
