use Rattle.std.proofs.Common.{◌≡◌, pos, arith, rules, ◌∙◌, sym, length}
use Rattle.std.proofs.lemmas.List.{ext_get_or, length-replicate}
use Rattle.mk_model.specs.Vectors.{zeros}
use Rattle.mk_model.proofs.VectorAlgebra.{entry-zeros}
use Rattle.mk_move.proofs.steps.is_zero.Goals as goal

pub returns : goal.returns
returns c =
    let row = c.args.row.now in
    let whole : row ≡ zeros (length row) =
    ext_get_or (pos 0) row (zeros (length row)) (sym (length-replicate (length row) (pos 0))) (λ i l. c.loop-entry.invariant i (omega arith) ∙ sym (entry-zeros (length row) i)) in
    ((λ _. whole), (λ _. search rules))
