use Rattle.std.proofs.Common.{inr, refl}
use Rattle.mk_core.proofs.GrownBases.{longer_same}
use Rattle.mk_drive.proofs.seat.claim_next.Goals as goal

pub returns-in-OverBudget : goal.returns-in-OverBudget
returns-in-OverBudget c =
    let (no_halt, over, same) = c.in-OverBudget.ensures.answered in
    record {
      line = inr (same, inr (inr (inr (record { used_up = over.used_up; pair = over.pair; free = over.free })), refl));
      stands = tt;
      longer = longer_same c.args.ledger.now.basis c.claim.new.self.basis c.claim.ensures.basis;
    }
