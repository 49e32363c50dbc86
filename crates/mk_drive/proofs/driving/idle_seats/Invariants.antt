use Rattle.std.proofs.Common.{◌≡◌, replicate}
use Rattle.mk_drive.specs.declared.seat.TurnStage.TheVariants.{Idle}
use Rattle.mk_drive.proofs.driving.idle_seats.Given as goal

abbrev pub invariant-loop : goal.invariant-loop
invariant-loop l = l.seats.items ≡ replicate l.counter Idle
