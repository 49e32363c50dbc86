use Rattle.std.proofs.Common.{◌≡◌, ◌∙◌, ap, sym, subst, length, ℕ, ℤ, List}
use Rattle.mk_model.specs.Vectors.{positive_part}
use Rattle.mk_move.specs.Masks.{least_unmasked}
use Rattle.mk_move.proofs.Entries.{as_entry, entry_read}
use Rattle.mk_support.specs.HeldLeads.{ListsFrom, IsHeld, lead_of}
use Rattle.mk_support.proofs.HeldLeads.{lead_is_part, held_of_row}
use Rattle.mk_support.proofs.held.HeldLead.of.Goals as goal
use Rattle.mk_support.proofs.held.HeldLead.of.Goals.{After-mask}

lists : (c : After-mask) → ListsFrom c.args.m.now.entries (least_unmasked (length c.args.m.now.entries)) (length c.args.m.now.entries) c.in_ok-listed.listed.items
lists c =
    let row = c.args.m.now.entries in
    let least_is : as_entry c.least_unmasked.result ≡ least_unmasked (length row) =
    entry_read c.least_unmasked.result c.least_unmasked.ensures.range ∙ c.least_unmasked.ensures.value ∙ ap least_unmasked c.columns-columns.ensures.value in
    let from_least = subst (λ (least : ℤ). ListsFrom c.entries.result.now least (length c.entries.result.now) c.in_ok-listed.listed.items) least_is c.in_ok-listed.ensures in
    subst (λ (x : List ℤ). ListsFrom x (least_unmasked (length row)) (length x) c.in_ok-listed.listed.items) c.entries.ensures.value from_least

lead_is : (c : After-mask) → lead_of c.columns-columns.result c.mask.result c.in_ok-listed.listed.items ≡ positive_part c.args.m.now.entries
lead_is c =
    ap (λ (n : ℕ). lead_of n c.mask.result c.in_ok-listed.listed.items) c.columns-columns.ensures.value
    ∙ lead_is_part c.args.m.now.entries c.mask.result c.in_ok-listed.listed.items (lists c) c.mask.ensures

-- src/held.rt:47:9
pub invariant_of-result : goal.invariant_of-result
invariant_of-result c =
    let w = (goal.at.invariant_of-result c).After-mask in
    subst (IsHeld c.mask.result c.in_ok-listed.listed.items) (sym (lead_is w))
    (held_of_row c.args.m.now.entries c.mask.result c.in_ok-listed.listed.items c.columns-columns.ensures.kept.entries (lists w) c.mask.ensures)

-- src/held.rt:42:5
pub returns : goal.returns
returns c = lead_is ((goal.at.returns c).After-mask)
