use Rattle.std.proofs.Common.{◌≡◌, ◌∷◌, ◌++◌, [], get_or, length, take, ℕ, List, Option, ℤ, sym, subst, ap, ◌∙◌}
use mir.Syntax.{w128}
use mir.Val.{to_z, of_z}
use Rattle.std.proofs.lemmas.List.{take_all, take_more}
use Rattle.mk_model.specs.Bases.{IsUpTo}
use Rattle.mk_model.specs.CoreStates.{pair_of}
use Rattle.mk_move.specs.MoveLists.{BasisView, vectors_of}
use Rattle.mk_minimise.specs.declared.minimal.MinimiseFault.{MinimiseFault}
use Rattle.mk_minimise.specs.declared.overlaps.Overlap.{Overlap}
use Rattle.mk_minimise.specs.Overlaps.{AreOverlaps}
use Rattle.mk_minimise.specs.LinkSteps.{IsAdded}
use Rattle.mk_minimise.specs.Minimal.{IsMinimiseFault}
use Rattle.mk_reduce.specs.Remainders.{IsNormalRest, IsRemainder}
use Rattle.mk_minimise.specs.Stages.{weight_at}
use Rattle.mk_minimise.proofs.RunsOfWeight.{weight_is}
use Rattle.mk_minimise.proofs.WideNumbers.{wide_same}
use Rattle.mk_minimise.proofs.GatheredLinks.{AreGathered, gather_none, gather_some, links_tell}
use Rattle.mk_minimise.proofs.StageSteps.{pair_fault_is}
use Rattle.mk_minimise.proofs.Faults.{handed_on}
use Rattle.mk_minimise.proofs.stages.links_of.Goals as goal
use Rattle.mk_minimise.proofs.stages.links_of.Goals.{After-deref-pair-items, in-Some+in_ok-add_link, in_default}

-- the weight is that of the move that follows the lower moves
bound_is : (c : After-deref-pair-items) → to_z w128 (of_z w128 c.weight-weight.result) ≡ weight_at c.args.basis.now (length c.args.lower.now.moves)
bound_is c =
    wide_same c.weight-weight.result c.weight-weight.type_inv ∙ c.weight-weight.ensures
    ∙ weight_is c.args.basis.now c.len.result c.move_at.result.now c.move_at.ensures.value c.move_at.ensures.belongs.graded ∙ ap (weight_at c.args.basis.now) c.len.ensures

-- the pairs are those of the lower moves with this weight
of_bound : (c : After-deref-pair-items) → AreOverlaps c.args.basis.now.grading (vectors_of c.args.lower.now.moves) (weight_at c.args.basis.now (length c.args.lower.now.moves)) c.deref-pair-items.result.now
of_bound c =
    let w = c.args.basis.now.grading in
    let lower = vectors_of c.args.lower.now.moves in
    let value = to_z w128 (of_z w128 c.weight-weight.result) in
    let pairs = c.in_ok-pairs.pairs.items in
    subst (λ (xs : List Overlap). AreOverlaps w lower (weight_at c.args.basis.now (length c.args.lower.now.moves)) xs) (sym c.deref-pair-items.ensures.value)
    (subst (λ (z : ℤ). AreOverlaps w lower z pairs) (bound_is c)
    (subst (λ (v : List ℤ). AreOverlaps v lower value pairs) c.requires.front.grading
    (subst (λ (b : BasisView). AreOverlaps b.grading (vectors_of b.moves) value pairs) c.basis.ensures c.in_ok-pairs.ensures)))

pub returns-in_err-rest-clause-refused : goal.returns-in_err-rest-clause-refused
returns-in_err-rest-clause-refused c =
    let basis = c.args.basis.now in
    let found = of_bound (goal.at.returns-in_err-rest-clause-refused c).After-deref-pair-items in
    let fault : (upto : Option ℕ) → IsUpTo upto (weight_at basis (length c.args.lower.now.moves)) → IsMinimiseFault basis upto c.in_err-rest.field-0.0 =
    pair_fault_is basis c.requires.reduced c.args.lower.now c.requires.front c.requires.within _ (found.each c.loop-pair.pair-index _ c.loop-pair-test.true) c.in_err-rest.field-0.0 c.in_err-rest.ensures in
    handed_on (λ (fault : MinimiseFault). (upto : Option ℕ) → IsUpTo upto (weight_at basis (length c.args.lower.now.moves)) → IsMinimiseFault basis upto fault) c.from_residual-in_err-rest.result c.in_err-rest.field-0.0 c.from_residual-in_err-rest.ensures.1 fault

pub loop-pair-preserved : goal.loop-pair-preserved
loop-pair-preserved c =
    let basis = c.args.basis.now in
    let lower = c.args.lower.now in
    let pairs = c.deref-pair-items.result.now in
    let k = c.loop-pair.pair-index in
    let default : Overlap = record { first = 0; second = 0 } in
    let pair : Overlap = get_or pairs k default in
    let overlap = (of_bound (goal.at.loop-pair-preserved c).After-deref-pair-items).each k default c.loop-pair-test.true in
    let more = sym (take_more pairs k default c.loop-pair-test.true) in
    elim c.match-branch-3.branch [
      | in-Some+in_ok-add_link b ↦
          let rest : IsNormalRest lower (pair_of pair.first pair.second) b.in-Some.rest = subst (IsRemainder lower (pair_of pair.first pair.second)) b.in-Some.is c.in_ok-rest.ensures in
          subst (λ (xs : List Overlap). AreGathered basis lower xs c.match-branch-3.links.items) more
          (gather_some basis c.requires.reduced lower c.requires.front c.requires.within (take k pairs) c.loop-pair.links.items c.loop-pair.invariant pair overlap b.in-Some.rest rest c.match-branch-3.links.items
          (subst (IsAdded basis b.in-Some.rest c.loop-pair.links.items) (sym (ap (λ v. v.items) b.links-is)) b.in_ok-add_link.ensures))
      | in_default b ↦
          let none = subst (IsRemainder lower (pair_of pair.first pair.second)) b.in_default.is c.in_ok-rest.ensures in
          subst (λ (xs : List Overlap). AreGathered basis lower xs c.match-branch-3.links.items) more
          (subst (AreGathered basis lower (take k pairs ++ pair ∷ [])) (sym (ap (λ v. v.items) b.links-is))
          (gather_none basis c.requires.reduced lower c.requires.front c.requires.within (take k pairs) c.loop-pair.links.items c.loop-pair.invariant pair overlap none))
    ]

pub returns-clause-tells : goal.returns-clause-tells
returns-clause-tells c =
    let pairs = c.deref-pair-items.result.now in
    let lower = c.args.lower.now in
    links_tell c.args.basis.now c.requires.reduced lower c.requires.front c.requires.within pairs (of_bound (goal.at.returns-clause-tells c).After-deref-pair-items) c.loop-pair.links.items
    (subst (λ (xs : List Overlap). AreGathered c.args.basis.now lower xs c.loop-pair.links.items) (take_all c.loop-pair.pair-index pairs c.loop-pair-test.false) c.loop-pair.invariant)
