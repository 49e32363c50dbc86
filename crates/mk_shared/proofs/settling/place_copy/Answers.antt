use Rattle.std.proofs.Common.{◌≡◌, length, ap, ◌∙◌, subst, sym}
use Rattle.mk_move.specs.Moves.{Weighed, IsRowOriented}
use Rattle.mk_move.specs.MoveLists.{BasisView}
use Rattle.mk_reduce.specs.Works.{IsRest}
use Rattle.mk_ledger.specs.Settlings.{IsPlacedLast}
use Rattle.mk_core.proofs.Settling.{belongs_oriented}
use Rattle.mk_shared.proofs.Placings.{rest_is_reduct}
use Rattle.mk_shared.proofs.settling.place_copy.Goals as goal
use Rattle.mk_shared.proofs.settling.place_copy.Goals.{After-orient}

-- the list that orients it is the basis's
oriented : (c : After-orient) → IsRowOriented c.args.rest.now.entries c.args.shared.now.basis.priority c.orient.new.self.entries
oriented c =
    subst (λ (r : Weighed). IsRowOriented r.entries c.args.shared.now.basis.priority c.orient.new.self.entries) c.in-Ok.ensures
    (subst (λ p. IsRowOriented c.in-Ok.copy.entries p c.orient.new.self.entries)
    (c.priority.ensures ∙ ap (λ (b : BasisView). b.priority) c.basis-2.ensures.value) c.orient.ensures.entries)

whole : (c : After-orient) → c.len-front.result ≡ length c.args.shared.now.basis.moves
whole c = c.len-front.ensures.value ∙ ap (λ (b : BasisView). length b.moves) c.basis.ensures.value

pub settle_place-requires-clause-reduct : goal.settle_place-requires-clause-reduct
settle_place-requires-clause-reduct c =
    let at = (goal.at.settle_place-requires-clause-reduct c).After-orient in
    rest_is_reduct c.args.shared.now c.basis.ensures.kept c.args.worker c.len-front.result c.args.rest.now c.orient.new.self
    (whole at) c.requires (oriented at)

pub settle_place-requires-clause-belongs : goal.settle_place-requires-clause-belongs
settle_place-requires-clause-belongs c =
    let basis = c.args.shared.now.basis in
    let rest = subst (IsRest basis.grading) (sym c.in-Ok.ensures) c.requires.rest.rest in
    belongs_oriented basis.priority basis.grading c.args.rest.now c.orient.new.self c.basis.ensures.kept.basis.columns c.requires.rest.rest
    (oriented (goal.at.settle_place-requires-clause-belongs c).After-orient) (c.orient.ensures.graded basis.grading rest.graded)

pub returns-in-Ok-settle_place : goal.returns-in-Ok-settle_place
returns-in-Ok-settle_place c =
    let at = (goal.at.returns-in-Ok-settle_place c).After-orient in
    let h = c.in-Ok-settle_place.ensures in
    record {
      follows = h.0;
      move = c.orient.new.self;
      oriented = oriented at;
      weight = c.orient.ensures.weight ∙ ap (λ (r : Weighed). r.weight) c.in-Ok.ensures;
      placed = subst (λ k. IsPlacedLast c.args.shared.now c.args.worker k c.orient.new.self c.in-Ok-settle_place.place c.settle_place.new.self) (whole at) h.1;
    }
