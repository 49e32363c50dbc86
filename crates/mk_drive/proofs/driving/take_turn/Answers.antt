use Rattle.std.proofs.Common.{sym, ◌∙◌, subst}
use Rattle.std.proofs.lemmas.List.{set-set, get_or_default}
use Rattle.mk_drive.specs.declared.seat.TurnStage.TheVariants.{Gone}
use Rattle.mk_drive.specs.Seats.{TurnsTo, TakesTurn}
use Rattle.mk_drive.proofs.Turns.{turn_taken}
use Rattle.mk_drive.proofs.driving.take_turn.Goals as goal

pub returns : goal.returns
returns c =
    let before = c.args.ledger.now in
    let after = c.take_stage.new.ledger in
    let seats = c.args.seats.now.items in
    let worker = c.args.worker in
    let refused = c.args.is_refused in
    subst (TakesTurn before seats (record { worker = worker; refused = refused }) after) (sym (set-set seats worker c.replace-stage.new.dest c.in_ok-next.next))
    (turn_taken before after seats worker refused c.in_ok-next.next c.basis.ensures.kept c.basis-2.ensures.kept c.requires.seated c.requires.within
    (subst (λ stage. TurnsTo before worker refused stage after c.in_ok-next.next) (c.replace-stage.ensures.value ∙ c.index_mut.ensures.value ∙ get_or_default seats worker _ Gone c.requires.within) c.in_ok-next.ensures))
