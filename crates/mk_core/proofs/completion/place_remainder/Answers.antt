use Rattle.std.proofs.Common.{◌≡◌, ◌+◌, ◌<◌, ◌^◌, List, [], ◌∷◌, ◌++◌, ℤ, length, All, slice_get, arith, ap, sym, ◌∙◌, subst}
use Rattle.std.proofs.lemmas.Result.{on_ok_weaker}
use Rattle.mk_model.specs.Orders.{lead}
use Rattle.mk_move.specs.Moves.{IsRowOriented}
use Rattle.mk_move.specs.MoveLists.{BelongsTo, IsBasis}
use Rattle.mk_reduce.specs.Leads.{leads_of}
use Rattle.mk_core.proofs.Settling.{belongs_oriented, reduct_of_claim, placed_unclaimed, full_unclaimed, placed_within, placed_columns, placed_room, placed_leads}
use Rattle.mk_core.proofs.completion.place_remainder.Goals as goal
use Rattle.mk_core.proofs.completion.place_remainder.Goals.{After-orient, After-basis-in-Ok}

-- the list that orients it is the basis's
oriented : (c : After-orient) → IsRowOriented c.args.remainder.entries c.args.ledger.now.basis.priority c.orient.new.self.entries
oriented c =
    subst (λ p. IsRowOriented c.args.remainder.entries p c.orient.new.self.entries) (c.priority.ensures ∙ ap (λ b. b.priority) c.basis.ensures.value) c.orient.ensures.entries

pub orient-requires : goal.orient-requires
orient-requires c =
    ap length (c.priority.ensures ∙ ap (λ b. b.priority) c.basis.ensures.value) ∙ c.basis.ensures.kept.basis.columns ∙ sym c.requires.remainder.rest.rest.columns

pub settle_place-requires-clause-reduct : goal.settle_place-requires-clause-reduct
settle_place-requires-clause-reduct c =
    let asked = c.requires.remainder in
    reduct_of_claim c.args.ledger.now c.basis.ensures.kept asked.pair c.args.remainder c.orient.new.self c.len-front.result (c.len-front.ensures.value ∙ ap (λ b. length b.moves) c.basis-2.ensures.value) asked.claims asked.rest
    (oriented (goal.at.settle_place-requires-clause-reduct c).After-orient)

pub settle_place-requires-clause-belongs : goal.settle_place-requires-clause-belongs
settle_place-requires-clause-belongs c =
    let ledger = c.args.ledger.now in
    let rest = c.requires.remainder.rest.rest in
    belongs_oriented ledger.basis.priority ledger.basis.grading c.args.remainder c.orient.new.self c.basis.ensures.kept.basis.columns rest
    (oriented (goal.at.settle_place-requires-clause-belongs c).After-orient) (c.orient.ensures.graded ledger.basis.grading rest.graded)

-- the basis with the move that was placed
kept : (c : After-basis-in-Ok) → IsBasis c.settle_place.new.self.basis
kept c = c.basis-in-Ok.ensures.kept.basis

pub move_at-requires : goal.move_at-requires
move_at-requires c =
    let placed = c.in-Ok.ensures.placing in
    subst (λ b. c.in-Ok.place < length b.moves) (sym c.basis-in-Ok.ensures.value)
    (placed_within c.args.ledger.now.basis c.settle_place.new.self.basis c.orient.new.self placed.pushed (kept (goal.at.move_at-requires c).After-basis-in-Ok) c.in-Ok.place placed.at_end)

pub insert-requires-clause-columns : goal.insert-requires-clause-columns
insert-requires-clause-columns c =
    let placed = c.in-Ok.ensures.placing in
    let m = c.move_at.result.now in
    subst (λ leads. All (λ (lead : List ℤ). length lead ≡ length m.entries) leads) (sym c.requires.leads)
    (placed_columns c.args.ledger.now.basis c.settle_place.new.self.basis c.orient.new.self placed.pushed (kept (goal.at.insert-requires-clause-columns c).After-basis-in-Ok) c.in-Ok.place m placed.at_end
    (subst (λ b. BelongsTo b.priority b.grading m) c.basis-in-Ok.ensures.value c.move_at.ensures.belongs))

pub insert-requires-clause-room : goal.insert-requires-clause-room
insert-requires-clause-room c =
    let placed = c.in-Ok.ensures.placing in
    subst (λ (leads : List (List ℤ)). length leads + 1 < 2 ^ 32) (sym c.requires.leads)
    (placed_room c.args.ledger.now.basis c.settle_place.new.self.basis c.orient.new.self placed.pushed (kept (goal.at.insert-requires-clause-room c).After-basis-in-Ok))

pub unreachable-requires : goal.unreachable-requires
unreachable-requires c =
    let (less, count, given, same) = (rw c.in-Err-Behind.field-0-is at c.in-Err-Behind.ensures.placing) in
    omega (arith, less, c.len-front.ensures.value ∙ ap (λ b. length b.moves) c.basis-2.ensures.value)

pub returns-in-Ok-clause-goes_on : goal.returns-in-Ok-clause-goes_on
returns-in-Ok-clause-goes_on c =
    let asked = c.requires.remainder in
    let placed = placed_unclaimed c.args.ledger.now c.basis.ensures.kept c.settle_place.new.self asked.pair asked.claims c.len-front.result c.in-Ok.place c.orient.new.self c.in-Ok.ensures.placing in
    on_ok_weaker c.insert.result (λ e. placed) c.insert.ensures.ok

pub returns-in-Ok-clause-leads : goal.returns-in-Ok-clause-leads
returns-in-Ok-clause-leads c =
    let placed = c.in-Ok.ensures.placing in
    let m = c.move_at.result.now in
    let leads = placed_leads c.args.ledger.now.basis c.settle_place.new.self.basis c.orient.new.self placed.pushed (kept (goal.at.returns-in-Ok-clause-leads c).After-basis-in-Ok) c.in-Ok.place m placed.at_end
    (ap (λ b. slice_get b.moves c.in-Ok.place) (sym c.basis-in-Ok.ensures.value) ∙ c.move_at.ensures.value) in
    on_ok_weaker c.insert.result (λ e. e ∙ ap (λ (leads : List (List ℤ)). leads ++ lead m.entries ∷ []) c.requires.leads ∙ leads) c.insert.ensures.ok

pub returns-in-Err-BasisFull-clause-goes_on : goal.returns-in-Err-BasisFull-clause-goes_on
returns-in-Err-BasisFull-clause-goes_on c =
    full_unclaimed c.args.ledger.now c.basis.ensures.kept c.settle_place.new.self c.requires.remainder.pair c.requires.remainder.claims c.len-front.result c.orient.new.self
    (rw c.in-Err-BasisFull.field-0-is at c.in-Err-BasisFull.ensures.placing)

pub returns-in-Err-BasisFull-clause-leads : goal.returns-in-Err-BasisFull-clause-leads
returns-in-Err-BasisFull-clause-leads c =
    let (front, limit, halting, same) = (rw c.in-Err-BasisFull.field-0-is at c.in-Err-BasisFull.ensures.placing) in
    c.requires.leads ∙ sym (ap (λ b. leads_of b.moves) same)
