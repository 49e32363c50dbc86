use Rattle.std.proofs.Common.{◌<◌, length, true≢false, arith, ap, sym}
use Rattle.mk_move.specs.MoveLists.{BasisView}
use Rattle.mk_workers.specs.declared.stage.SeatStage.TheVariants.{Fresh, Tests}
use Rattle.mk_workers.proofs.Stays.{stays, reads}
use Rattle.mk_workers.proofs.Steps.{has_copy}
use Rattle.mk_workers.proofs.worker.Worker.is_current.Goals as goal

pub returns-then-j-length : goal.returns-then-j-length
returns-then-j-length c = record {
  stays = stays c.args.self.now.seat c.args.self.now.finder Fresh c.requires.leads c.requires.stage;
  copy = λ e. absurd (true≢false (sym e));
}

pub returns : goal.returns
returns c =
    let seat = c.args.self.now.seat in
    let (i, j) = c.claimed_places-j.result in
    let within : j < length seat.copy.moves = omega (arith, c.if-j-length.false, c.len-length.ensures.value, ap (λ (b : BasisView). length b.moves) c.basis.ensures.value) in
    record {
      stays = reads seat c.news.new.seat c.args.self.now.finder c.requires.leads c.news.result Fresh c.news.ensures.seat c.requires.stage;
      copy = λ e. reads seat c.news.new.seat c.args.self.now.finder c.requires.leads c.news.result Tests c.news.ensures.seat (has_copy seat i j c.requires.stage c.claimed_places-j.ensures within);
    }
