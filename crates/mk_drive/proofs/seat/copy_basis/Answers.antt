use Rattle.std.proofs.Common.{◌∙◌}
use Rattle.mk_drive.proofs.Lines.{copies}
use Rattle.mk_drive.proofs.seat.copy_basis.Goals as goal

pub returns : goal.returns
returns c =
    let (pair, claimed) = c.requires in
    copies c.args.ledger.now c.basis.ensures.kept c.args.worker pair claimed c.in_ok-seen.seen (c.in_ok-seen.ensures ∙ c.basis.ensures.value)
