use Rattle.std.proofs.Common.{map, []}
use Rattle.std.proofs.lemmas.Result.{IfOk-weaker}
use Rattle.mk_drive.specs.declared.driving.Turn.{Turn}
use Rattle.mk_drive.specs.Halting.{IsHaltingDriven}
use Rattle.mk_drive.specs.Seats.{IsDriven}
use Rattle.mk_drive.proofs.Halting.{driven_without}
use Rattle.mk_drive.proofs.driving.drive.Goals as goal

pub returns : goal.returns
returns c =
    let schedule = map (λ (turn : Turn). turn.worker) c.args.schedule.now in
    IfOk-weaker c.drive_halting.result (IsHaltingDriven c.args.job c.args.workers schedule []) (IsDriven c.args.job c.args.workers schedule)
    (driven_without c.args.job c.args.workers schedule) c.drive_halting.ensures
