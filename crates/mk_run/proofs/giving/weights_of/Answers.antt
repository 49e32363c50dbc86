use Rattle.std.proofs.Common.{rules, List, ◌++◌, ◌∷◌, [], map, take, ap, sym, ◌∙◌, ℤ}
use mir.Syntax.{w128}
use mir.Val.{SFits}
use Rattle.std.proofs.lemmas.Int.{to_z-of_z}
use Rattle.mk_move.specs.Moves.{Weighed}
use Rattle.mk_run.proofs.Models.{weights_more}
use Rattle.mk_run.proofs.giving.weights_of.Goals as goal

pub loop-k-preserved : goal.loop-k-preserved
loop-k-preserved c =
    let moves = c.args.list.now.moves in
    let k = c.loop-k.k in
    let fits : SFits w128 c.weight.result = search rules in
    c.in_ok-push.ensures.items
    ∙ ap (λ (z : ℤ). c.loop-k.weights.items ++ z ∷ []) (to_z-of_z w128 c.weight.result fits)
    ∙ ap (λ (weights : List ℤ). weights ++ c.weight.result ∷ []) c.loop-k.invariant
    ∙ ap (λ (z : ℤ). map (λ (m : Weighed). m.weight) (take k moves) ++ z ∷ []) c.weight.ensures
    ∙ sym (weights_more moves k c.move_at.result.now c.move_at.ensures.value)
