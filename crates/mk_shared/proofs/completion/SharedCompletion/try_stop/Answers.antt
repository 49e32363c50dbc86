use Rattle.std.proofs.Common.{sym, subst}
use Rattle.mk_model.specs.Events.{IsHaltCause}
use Rattle.mk_ledger.specs.Halts.{halt_as}
use Rattle.mk_shared.specs.SeatFields.{seat_of}
use Rattle.mk_shared.specs.SharedSeats.{SeatView, IsStop}
use Rattle.mk_shared.proofs.Copies.{turn_of, cause_here}
use Rattle.mk_shared.proofs.completion.SharedCompletion.try_stop.Goals as goal

pub halt-requires-clause-cause : goal.halt-requires-clause-cause
halt-requires-clause-cause c =
    let s = seat_of c.seat.inside in
    subst (λ n. IsHaltCause c.in-Some.shared.state n (halt_as c.args.halt)) (sym c.seat.invariant.number)
    (cause_here s c.seat.invariant.seat c.in-Some.shared (turn_of s c.in-Some.shared _ c.in-Some.ensures.some) (halt_as c.args.halt)
    (subst (λ (b : SeatView). IsStop b (halt_as c.args.halt)) (sym c.seat.view_is) c.requires.cause))
