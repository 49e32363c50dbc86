use Rattle.mk_workers.specs.Stages.{Steps}
use Rattle.mk_workers.proofs.working.worker_loop.Given as goal

abbrev pub invariant-loop : goal.invariant-loop
invariant-loop g l = Steps l.fn.seat l.worker.seat l.worker.finder l.stage
