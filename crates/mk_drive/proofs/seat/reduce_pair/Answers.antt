use Rattle.std.proofs.Common.{sym, subst}
use Rattle.std.proofs.lemmas.Result.{IfOk-weaker}
use Rattle.mk_model.specs.CoreStates.{pair_of}
use Rattle.mk_move.specs.MoveLists.{vectors_of}
use Rattle.mk_drive.specs.declared.seat.TurnStage.TheVariants.{Ready}
use Rattle.mk_core.specs.Remainders.{IsWorkFault}
use Rattle.mk_drive.specs.Seats.{IsStoppingBy, ReducesWork, TakesLine}
use Rattle.mk_drive.proofs.Faults.{difference_fault}
use Rattle.mk_drive.proofs.Seats.{same_claim, same_common}
use Rattle.mk_drive.proofs.Lines.{reduces_copy, stops_copy}
use Rattle.mk_drive.proofs.seat.reduce_pair.Goals as goal

pub returns-in-Ok : goal.returns-in-Ok
returns-in-Ok c =
    let ledger = c.args.ledger.now in
    let seen = c.args.seen.now in
    let worker = c.args.worker in
    let (i, j) = c.claimed_places-i.result in
    let (pair, copy, common) = c.requires.seat in
    let claimed = c.claimed_places-i.ensures in
    IfOk-weaker c.reduce_work.result (ReducesWork seen c.in-Ok.work) (TakesLine ledger worker (Ready seen) ledger)
    (reduces_copy ledger c.basis.ensures.kept worker seen (pair_of i j) (same_claim ledger worker seen pair (pair_of i j) copy claimed) (same_common ledger worker pair (pair_of i j) copy.claimed claimed common) c.in-Ok.work c.in-Ok.ensures.pair)
    c.reduce_work.ensures

pub returns-in-Err : goal.returns-in-Err
returns-in-Err c =
    let ledger = c.args.ledger.now in
    let seen = c.args.seen.now in
    let worker = c.args.worker in
    let (i, j) = c.claimed_places-i.result in
    let (pair, copy, common) = c.requires.seat in
    let claimed = c.claimed_places-i.ensures in
    let fault = subst (IsWorkFault (vectors_of seen.moves) (pair_of i j)) (sym c.stopped_work.ensures) (difference_fault seen.moves (pair_of i j) c.in-Err.stop c.in-Err.ensures.refused) in
    IfOk-weaker c.stop_by.result (IsStoppingBy c.stopped_work.result) (TakesLine ledger worker (Ready seen) ledger)
    (stops_copy ledger c.basis.ensures.kept worker seen (pair_of i j) (same_claim ledger worker seen pair (pair_of i j) copy claimed) (same_common ledger worker pair (pair_of i j) copy.claimed claimed common) c.stopped_work.result fault)
    c.stop_by.ensures
