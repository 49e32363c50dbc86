use Rattle.std.proofs.Common.{subst, IfOk}
use Rattle.std.proofs.lemmas.Result.{IfOk-weaker}
use Rattle.mk_move.specs.MoveLists.{BasisView}
use Rattle.mk_drive.specs.declared.seat.TurnStage.TheVariants.{Stale}
use Rattle.mk_drive.specs.Seats.{ReducesWork, TakesLine}
use Rattle.mk_drive.proofs.Lines.{reduces_again}
use Rattle.mk_drive.proofs.seat.reduce_again.Goals as goal

pub returns : goal.returns
returns c =
    let ledger = c.args.ledger.now in
    IfOk-weaker c.reduce_work.result (ReducesWork ledger.basis c.args.work) (TakesLine ledger c.args.worker (Stale c.args.work) ledger)
    (reduces_again ledger c.basis.ensures.kept c.args.worker c.args.work c.requires)
    (subst (λ (b : BasisView). IfOk c.reduce_work.result (ReducesWork b c.args.work)) c.basis.ensures.value c.reduce_work.ensures)
