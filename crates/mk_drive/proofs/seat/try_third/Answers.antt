use Rattle.mk_model.specs.CoreStates.{pair_of}
use Rattle.mk_drive.proofs.Lines.{settled_through, tried_once}
use Rattle.mk_drive.proofs.seat.try_third.Goals as goal

pub returns-in-Ok : goal.returns-in-Ok
returns-in-Ok c =
    let (settling, same) = c.in-Ok.ensures.answered in
    settled_through c.args.ledger.now c.settle_chain.ensures.before c.args.worker c.args.seen c.args.from c.args.tried c.args.k c.requires c.settle_chain.new.self settling same

pub returns-in-Err-Unsettled : goal.returns-in-Err-Unsettled
returns-in-Err-Unsettled c =
    let (unsettled, same) = (rw c.in-Err-Unsettled.field-0-is at c.in-Err-Unsettled.ensures.answered) in
    tried_once c.args.ledger.now c.settle_chain.ensures.before c.args.worker c.args.seen c.args.from c.args.tried c.args.k c.requires c.settle_chain.new.self
    (pair_of c.in-Err-Unsettled.field-0-0 c.in-Err-Unsettled.field-0-1) unsettled same
