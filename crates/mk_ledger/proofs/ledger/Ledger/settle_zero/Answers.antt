use Rattle.std.proofs.Common.{refl}
use Rattle.mk_ledger.proofs.ledger.Ledger.settle_zero.Goals as goal

pub settle_unplaced-requires-clause-claim : goal.settle_unplaced-requires-clause-claim
settle_unplaced-requires-clause-claim c =
    record { pair = c.requires.pair; claimed = c.requires.claimed; settled = (c.requires.reduct, refl) }
