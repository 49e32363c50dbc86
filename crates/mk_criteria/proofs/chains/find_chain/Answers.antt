use Rattle.std.proofs.Common.{min, ◌≡◌, ◌⊎◌, inl, inr, ◌<◌, ◌≤◌, arith, rules, subst}
use Rattle.std.proofs.lemmas.Bool.{cases_lt}
use Rattle.std.proofs.lemmas.List.{length-map}
use Rattle.mk_model.specs.CoreStates.{pair_of}
use Rattle.mk_model.specs.Events.{IsChain}
use Rattle.mk_move.specs.Moves.{Weighed}
use Rattle.mk_move.specs.MoveLists.{vectors_of}
use Rattle.mk_move.proofs.LeadMasks.{not_between}
use Rattle.mk_criteria.proofs.chains.find_chain.Goals as goal
use Rattle.mk_criteria.proofs.chains.find_chain.Goals.{else-masks-k-eq0-via-then-masks-k-eq0+else-is_chain, else-masks-k-eq0-via-else-masks-k-eq0}

pub loop-k-preserved : goal.loop-k-preserved
loop-k-preserved g c other l = at (cases_lt other c.loop-k.k)
  where
    at : (other < c.loop-k.k) ⊎ (c.loop-k.k ≤ other) → ¬ (IsChain (vectors_of c.args.basis.now.moves) (g.S.SettledPairs.journal c.args.settled.now) (pair_of c.args.i c.args.j) other)
    at (inl k) = c.loop-k.invariant other k
    at (inr k) = λ third.
        let here : other ≡ c.loop-k.k = omega (arith, l, k) in
        let this = subst (λ n. IsChain (vectors_of c.args.basis.now.moves) (g.S.SettledPairs.journal c.args.settled.now) (pair_of c.args.i c.args.j) n) here third in
        elim c.else-masks-k-eq0.branch [
          | else-masks-k-eq0-via-then-masks-k-eq0+else-is_chain w ↦ search (rules, this)
          | else-masks-k-eq0-via-else-masks-k-eq0 w ↦
              not_between c.args.basis.now c.lead_masks-masks.result.now c.args.i c.args.j c.loop-k.k c.lead_masks-masks.ensures.kept c.lead_masks-masks.ensures.masks
              (omega arith) (omega arith) (omega arith) c.type_inv.masks w.if-masks-k-eq0.false this.divides
        ]

pub returns-clause-none : goal.returns-clause-none
returns-clause-none g c k chain = at (cases_lt k c.loop-k.k) (cases_lt k c.settled_end.result)
  where
    within : k < c.len.result
    within = omega (arith, chain.within, c.len.ensures.value, length-map c.args.basis.now.moves (λ (m : Weighed). m.entries))

    end_is : c.min-end.result ≡ min c.len.result c.settled_end.result
    end_is = search rules

    at : (k < c.loop-k.k) ⊎ (c.loop-k.k ≤ k) → (k < c.settled_end.result) ⊎ (c.settled_end.result ≤ k) → ⊥
    at (inl l) _ = c.loop-k.invariant k l chain
    at (inr _) (inr l) = c.settled_end.ensures k l chain.second_settled
    at (inr l) (inl m) = omega (arith, within, end_is, l, m, c.loop-k-test.false)
