use Rattle.std.proofs.Common.{ap, ◌∙◌, subst}
use Rattle.mk_model.specs.CoreStates.{pair_of}
use Rattle.mk_move.specs.Moves.{IsRowOriented}
use Rattle.mk_move.specs.MoveLists.{BasisView}
use Rattle.mk_reduce.specs.Remainders.{IsNormalRest}
use Rattle.mk_core.proofs.Settling.{belongs_oriented}
use Rattle.mk_drive_rows.proofs.calls.place_claim.Goals as goal

pub settle_place-requires-clause-belongs : goal.settle_place-requires-clause-belongs
settle_place-requires-clause-belongs g c =
    let basis = c.args.ledger.now.basis in
    let before = c.in_ok-remainder.remainder in
    let rest = subst (λ (b : BasisView). IsNormalRest b (pair_of c.in-Some.i c.in-Some.j) before) c.basis-2.ensures.value c.in_ok-remainder.ensures in
    let oriented = subst (λ p. IsRowOriented before.entries p c.orient.new.self.entries) (c.priority.ensures ∙ ap (λ b. b.priority) c.basis-3.ensures.value) c.orient.ensures.entries in
    belongs_oriented basis.priority basis.grading before c.orient.new.self c.basis.ensures.kept.basis.columns rest.rest oriented
    (c.orient.ensures.graded basis.grading rest.rest.graded)
