use Rattle.std.proofs.Common.{◌≡◌, ◌↔◌, ◌==◌, ◌≤◌, ℕ, IsTrue, List, map, take, get_or, length, Contains, arith, sym, ◌∙◌, subst}
use Rattle.std.proofs.lemmas.Bool.Decides.{Decides-eqb}
use Rattle.std.proofs.lemmas.List.{length-map, length-take-le, map_more, take_all}
use Rattle.std.proofs.lemmas.List.Elements.{contains_decides, Decides-contains}
use Rattle.mk_model.specs.CoreStates.{new_state}
use Rattle.mk_move.specs.MoveLists.{vectors_of}
use Rattle.mk_core.specs.Jobs.{JobView}
use Rattle.mk_drive.specs.declared.driving.Turn.{Turn}
use Rattle.mk_drive.specs.Halting.{IsHaltingDriven}
use Rattle.mk_drive.proofs.Turns.{IsDrivenTo, driven_start, driven_more, driven_to_end, turn_within}
use Rattle.mk_drive.proofs.driving.drive_halting.Goals as goal
use Rattle.mk_drive.proofs.driving.drive_halting.Goals.{In_ok-take_turn}

pub loop-number-init : goal.loop-number-init
loop-number-init c =
    let ledger = c.in_ok-ledger.ledger in
    driven_start c.args.job c.args.workers c.args.refused.now ledger c.in_ok-seats.seats.items
    (subst (λ (job : JobView). ledger.state ≡ new_state (vectors_of job.start.moves) job.budget job.basis_limit c.args.workers) c.job.view_is c.in_ok-ledger.ensures.state)
    (subst (λ (job : JobView). ledger.basis ≡ job.start) c.job.view_is c.in_ok-ledger.ensures.basis) c.in_ok-seats.ensures

pub take_turn-requires-clause-seated : goal.take_turn-requires-clause-seated
take_turn-requires-clause-seated c = c.loop-number.invariant.seated

pub take_turn-requires-clause-within : goal.take_turn-requires-clause-within
take_turn-requires-clause-within c =
    turn_within c.args.workers c.args.schedule.now c.loop-number.number c.loop-number.seats.items c.requires.turns c.loop-number-test.true c.loop-number.invariant.count

-- the workers of the turns so far are as many as their number
as_many : (schedule : List Turn) (number : ℕ) → number ≤ length schedule → length (map (λ (turn : Turn). turn.worker) (take number schedule)) ≡ number
as_many schedule number l = length-map (take number schedule) (λ (turn : Turn). turn.worker) ∙ length-take-le number schedule l

-- memory is refused exactly where the number is named
is_refused : (c : In_ok-take_turn) → IsTrue c.contains-is_refused.result ↔ Contains c.args.refused.now (length (map (λ (turn : Turn). turn.worker) (take c.loop-number.number c.args.schedule.now)))
is_refused c =
    let refused = c.args.refused.now in
    let number = c.loop-number.number in
    subst (λ k. IsTrue c.contains-is_refused.result ↔ Contains refused k) (sym (as_many c.args.schedule.now number (omega (arith, c.loop-number-test.true))))
    (Decides-contains refused number c.contains-is_refused.result (contains_decides (λ a b. a == b) Decides-eqb refused number c.contains-is_refused.result c.contains-is_refused.ensures.cases))

pub loop-number-preserved : goal.loop-number-preserved
loop-number-preserved c =
    let schedule = c.args.schedule.now in
    let number = c.loop-number.number in
    let job = c.args.job in
    let workers = c.args.workers in
    let refused = c.args.refused.now in
    let worker = (get_or schedule number (record { worker = 0 })).worker in
    subst (λ turns. IsDrivenTo job workers turns refused c.take_turn.new.ledger c.take_turn.new.seats.items) (sym (map_more (λ (turn : Turn). turn.worker) schedule number (record { worker = 0 }) c.loop-number-test.true))
    (driven_more job workers refused (map (λ (turn : Turn). turn.worker) (take number schedule)) c.loop-number.ledger c.take_turn.new.ledger c.loop-number.seats.items c.take_turn.new.seats.items
    (record { worker = worker; refused = c.contains-is_refused.result })
    (turn_within workers schedule number c.loop-number.seats.items c.requires.turns c.loop-number-test.true c.loop-number.invariant.count) (is_refused c) c.loop-number.invariant c.in_ok-take_turn.ensures)

pub returns : goal.returns
returns c =
    let schedule = c.args.schedule.now in
    subst (λ (turns : List Turn). IsHaltingDriven c.args.job c.args.workers (map (λ (turn : Turn). turn.worker) turns) c.args.refused.now c.loop-number.ledger) (take_all c.loop-number.number schedule c.loop-number-test.false)
    (driven_to_end c.args.job c.args.workers c.args.refused.now (map (λ (turn : Turn). turn.worker) (take c.loop-number.number schedule)) c.loop-number.ledger c.loop-number.seats.items c.basis.ensures.kept c.loop-number.invariant)
