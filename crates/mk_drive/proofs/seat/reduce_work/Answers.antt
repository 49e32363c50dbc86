use Rattle.mk_reduce.proofs.Continuations.{continued_reduct}
use Rattle.mk_drive.proofs.seat.reduce_work.Goals as goal

pub returns-in-Ok : goal.returns-in-Ok
returns-in-Ok c =
    let done = c.in-Ok.ensures in
    (done.pair, done.front, done.work, done.reduced, continued_reduct c.args.basis.now c.args.work c.reduce.new.work c.requires done.work done.pair done.stays)
