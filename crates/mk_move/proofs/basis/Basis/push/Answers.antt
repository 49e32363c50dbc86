use Rattle.std.proofs.Common.{rules}
use Rattle.mk_move.proofs.LeadMasks.{lead_masks_more, exact_more}
use Rattle.mk_move.proofs.basis.Basis.push.Goals as goal

pub invariant_of-self-in-Ok : goal.invariant_of-self-in-Ok
invariant_of-self-in-Ok c = (search rules, search (rules, lead_masks_more), search (rules, exact_more))
