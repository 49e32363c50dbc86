use Rattle.std.proofs.Common.{map, take}
use Rattle.mk_drive.proofs.Turns.{IsDrivenTo}
use Rattle.mk_drive.proofs.driving.drive_halting.Given as goal

abbrev pub invariant-loop-number : goal.invariant-loop-number
invariant-loop-number l = IsDrivenTo l.fn.job l.fn.workers (map (λ turn. turn.worker) (take l.number l.fn.schedule)) l.fn.refused l.ledger l.seats.items
