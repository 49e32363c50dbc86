use Rattle.mk_workers.specs.declared.stage.SeatStage.TheVariants.{Idle}
use Rattle.mk_workers.proofs.Stays.{misses, waits, has_nothing_left}
use Rattle.mk_workers.proofs.Steps.{claims}
use Rattle.mk_workers.proofs.worker.Worker.claim_next.Goals as goal

pub returns-in-Ok-Claimed : goal.returns-in-Ok-Claimed
returns-in-Ok-Claimed c =
    claims c.args.self.now.seat c.try_claim.new.seat c.args.self.now.finder c.requires.leads c.in-Ok-Claimed.field-0-0 c.in-Ok-Claimed.field-0-1 (rw c.in-Ok-Claimed.field-0-is at c.in-Ok-Claimed.ensures)

pub returns-in-Ok-Ended : goal.returns-in-Ok-Ended
returns-in-Ok-Ended c =
    let h = rw c.in-Ok-Ended.field-0-is at c.in-Ok-Ended.ensures in
    has_nothing_left c.args.self.now.seat c.try_claim.new.seat c.args.self.now.finder c.requires.leads h.ledger h.changed c.requires.stage

pub returns-in-Ok-OverBudget : goal.returns-in-Ok-OverBudget
returns-in-Ok-OverBudget c =
    let h = rw c.in-Ok-OverBudget.field-0-is at c.in-Ok-OverBudget.ensures in
    has_nothing_left c.args.self.now.seat c.try_claim.new.seat c.args.self.now.finder c.requires.leads h.ledger h.changed c.requires.stage

pub returns-in-Ok-Stopped : goal.returns-in-Ok-Stopped
returns-in-Ok-Stopped c =
    let h = rw c.in-Ok-Stopped.field-0-is at c.in-Ok-Stopped.ensures in
    has_nothing_left c.args.self.now.seat c.try_claim.new.seat c.args.self.now.finder c.requires.leads h.ledger h.changed c.requires.stage

pub returns-in-Ok-NotYet : goal.returns-in-Ok-NotYet
returns-in-Ok-NotYet c =
    let h = rw c.in-Ok-NotYet.field-0-is at c.in-Ok-NotYet.ensures in
    rw (c.try_again.ensures.stage, c.try_again.ensures.seat, c.try_again.ensures.finder) (waits c.args.self.now.seat c.try_claim.new.seat c.args.self.now.finder c.requires.leads h.ledger h.changed c.requires.stage)

pub returns-in-Err : goal.returns-in-Err
returns-in-Err c =
    rw (c.try_again-in-Err.ensures.stage, c.try_again-in-Err.ensures.seat, c.try_again-in-Err.ensures.finder) (misses c.args.self.now.seat c.try_claim.new.seat c.args.self.now.finder c.requires.leads c.in-Err.field-0.word Idle c.in-Err.ensures c.requires.stage)
