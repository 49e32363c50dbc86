use Rattle.std.proofs.Common.{◌≡◌, ◌⊎◌, inl, inr, ◌<◌, ◌≤◌, arith, rules, subst}
use Rattle.std.proofs.lemmas.Bool.{cases_lt}
use Rattle.mk_model.specs.CoreStates.{pair_of}
use Rattle.mk_move.specs.MoveLists.{vectors_of}
use Rattle.mk_move.proofs.LeadMasks.{not_between}
use Rattle.mk_criteria.specs.ThirdMoves.{IsThirdMove}
use Rattle.mk_criteria.proofs.chains.first_between.Goals as goal
use Rattle.mk_criteria.proofs.chains.first_between.Goals.{else-masks-k-eq0-via-then-masks-k-eq0+else-is_third_move, else-masks-k-eq0-via-else-masks-k-eq0}

pub loop-k-preserved : goal.loop-k-preserved
loop-k-preserved c other from l = at (cases_lt other c.loop-k.k)
  where
    at : (other < c.loop-k.k) ⊎ (c.loop-k.k ≤ other) → ¬ (IsThirdMove (vectors_of c.args.basis.now.moves) (pair_of c.args.i c.args.j) other)
    at (inl k) = c.loop-k.invariant other from k
    at (inr k) = λ third.
        let here : other ≡ c.loop-k.k = omega (arith, l, k) in
        let this = subst (λ n. IsThirdMove (vectors_of c.args.basis.now.moves) (pair_of c.args.i c.args.j) n) here third in
        elim c.else-masks-k-eq0.branch [
          | else-masks-k-eq0-via-then-masks-k-eq0+else-is_third_move w ↦ search (rules, this)
          | else-masks-k-eq0-via-else-masks-k-eq0 w ↦
              not_between c.args.basis.now c.lead_masks-masks.result.now c.args.i c.args.j c.loop-k.k c.lead_masks-masks.ensures.kept c.lead_masks-masks.ensures.masks
              (omega arith) (omega arith) (omega arith) c.type_inv.masks w.if-masks-k-eq0.false this.divides
        ]
