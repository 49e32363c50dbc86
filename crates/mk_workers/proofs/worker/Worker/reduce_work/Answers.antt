use Rattle.std.proofs.Common.{subst, sym, ◌∙◌}
use Rattle.mk_ledger.specs.declared.halt.Halt.TheVariants.{Memory}
use Rattle.mk_reduce.specs.Works.{WorkOf}
use Rattle.mk_workers.specs.Stages.{AreFirstLeads}
use Rattle.mk_workers.proofs.Steps.{is_stopping, is_reduced, is_stopped}
use Rattle.mk_workers.proofs.worker.Worker.reduce_work.Goals as goal

pub returns-then-is_err : goal.returns-then-is_err
returns-then-is_err c =
    is_stopping c.args.self.now.seat c.find_more.new.finder c.args.work.pair Memory (subst (AreFirstLeads c.find_more.new.finder) c.basis.ensures.value c.find_more.ensures.leads) c.requires.work.claimed tt

pub reduce-requires-clause-work : goal.reduce-requires-clause-work
reduce-requires-clause-work c = subst (WorkOf c.args.work) (sym c.basis-2.ensures.value) c.requires.work.done

pub returns-in-Ok : goal.returns-in-Ok
returns-in-Ok c =
    is_reduced c.args.self.now.seat c.find_more.new.finder c.basis-2.result.now c.args.work c.reduce.new.work c.requires.work
    (subst (AreFirstLeads c.find_more.new.finder) (c.basis.ensures.value ∙ sym c.basis-2.ensures.value) c.find_more.ensures.leads) c.basis-2.ensures.value c.in-Ok.ensures.pair c.in-Ok.ensures.work
    c.in-Ok.ensures.front c.in-Ok.ensures.reduced

pub returns-in-Err : goal.returns-in-Err
returns-in-Err c =
    is_stopped c.args.self.now.seat c.find_more.new.finder c.basis-2.result.now c.args.work c.reduce.new.work c.requires.work
    (subst (AreFirstLeads c.find_more.new.finder) (c.basis.ensures.value ∙ sym c.basis-2.ensures.value) c.find_more.ensures.leads) c.basis-2.ensures.value c.in-Err.ensures.pair c.in-Err.ensures.work
    c.pair-i.result.0 c.pair-i.result.1 c.into_remainder.result c.in-Err.stop c.halt_for_stop.result c.pair-i.ensures.first c.pair-i.ensures.second c.into_remainder.ensures c.in-Err.ensures.stop c.halt_for_stop.ensures
