use Rattle.std.proofs.lemmas.Bool.{iff_false}
use Rattle.mk_drive.proofs.Lines.{stays_gone, refused_once, no_halt_at}
use Rattle.mk_drive.proofs.seat.refuse.Goals as goal

pub returns-then-is_gone : goal.returns-then-is_gone
returns-then-is_gone c = stays_gone c.args.ledger.now c.args.worker c.args.stage.now (c.is_gone.ensures.0 c.if-is_gone.true)

pub halt-requires-clause-no_halt : goal.halt-requires-clause-no_halt
halt-requires-clause-no_halt c =
    no_halt_at c.args.ledger.now c.basis.ensures.kept c.args.worker c.args.stage.now c.requires.seat (iff_false c.is_gone.ensures c.if-is_gone.false)

pub returns : goal.returns
returns c =
    refused_once c.args.ledger.now c.halt.new.self c.args.worker c.args.stage.now (iff_false c.is_gone.ensures c.if-is_gone.false) c.halt.ensures.halting c.halt.ensures.basis
