use Rattle.std.proofs.Common.{ap, ◌∙◌, subst}
use Rattle.mk_move.specs.Moves.{IsRowOriented}
use Rattle.mk_core.proofs.Settling.{belongs_oriented}
use Rattle.mk_drive.proofs.Lines.{places_rest}
use Rattle.mk_drive.proofs.seat.place_rest.Goals as goal
use Rattle.mk_drive.proofs.seat.place_rest.Goals.{After-orient}

-- the list that orients it is the basis's
oriented : (c : After-orient) → IsRowOriented c.args.rest.entries c.args.ledger.now.basis.priority c.orient.new.self.entries
oriented c =
    subst (λ p. IsRowOriented c.args.rest.entries p c.orient.new.self.entries) (c.priority.ensures ∙ ap (λ b. b.priority) c.basis.ensures.value) c.orient.ensures.entries

pub settle_place-requires-clause-belongs : goal.settle_place-requires-clause-belongs
settle_place-requires-clause-belongs c =
    let ledger = c.args.ledger.now in
    let rest = c.requires.rest.rest in
    belongs_oriented ledger.basis.priority ledger.basis.grading c.args.rest c.orient.new.self c.basis.ensures.kept.basis.columns rest
    (oriented (goal.at.settle_place-requires-clause-belongs c).After-orient) (c.orient.ensures.graded ledger.basis.grading rest.graded)

pub returns-in-Ok : goal.returns-in-Ok
returns-in-Ok c =
    places_rest c.args.ledger.now c.basis.ensures.kept c.args.worker c.settle_place.new.self c.in-Ok.ensures.kept c.args.rest c.orient.new.self c.len-front.result c.in-Ok.field-0
    (oriented (goal.at.returns-in-Ok c).After-orient).turned.either c.in-Ok.ensures.placing
