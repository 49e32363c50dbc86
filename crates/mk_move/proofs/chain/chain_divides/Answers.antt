use Rattle.std.proofs.Common.{rules, ℕ, get_or, w64}
use mir.Val.{Fits}
use Rattle.mk_move.proofs.LeadMasks.{not_between, exact_between}
use Rattle.mk_move.proofs.chain.chain_divides.Goals as goal

pub returns-then-masks-k-ne0 : goal.returns-then-masks-k-ne0
returns-then-masks-k-ne0 c =
    let masks = c.lead_masks-masks in
    let fits : (n : ℕ) → Fits w64 (get_or masks.result.now n 0) = search rules in
    ((λ h. search rules), (λ d. absurd (not_between c.args.basis.now masks.result.now c.args.i c.args.j c.args.k masks.ensures.kept masks.ensures.masks c.requires.first c.requires.second c.requires.third fits c.if-masks-k-ne0.true d)))

pub returns-then-is_mask_exact : goal.returns-then-is_mask_exact
returns-then-is_mask_exact c =
    let masks = c.lead_masks-masks in
    let fits : (n : ℕ) → Fits w64 (get_or masks.result.now n 0) = search rules in
    let divides = exact_between c.args.basis.now masks.result.now c.args.i c.args.j c.args.k masks.ensures.kept masks.ensures.masks c.requires.first c.requires.second c.requires.third fits (search (rules, c.is_mask_exact.ensures)) c.if-masks-k-ne0.false in
    ((λ _. divides), (λ _. search rules))
