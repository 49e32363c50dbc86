use Rattle.std.proofs.Common.{◌≡◌, List, ℤ, All, length, sym, subst}
use Rattle.mk_core.proofs.Leads.{leads_more, first_leads_columns}
use Rattle.mk_saturate_rows.proofs.finders.filled.Goals as goal

pub insert-requires-clause-columns : goal.insert-requires-clause-columns
insert-requires-clause-columns g c =
    let m = c.move_at.result.now in
    subst (All (λ (lead : List ℤ). length lead ≡ length m.entries)) (sym c.loop-place.invariant)
    (first_leads_columns c.args.basis.now c.loop-place.place m c.len-place-end.ensures.kept c.move_at.ensures.belongs)

pub loop-place-preserved : goal.loop-place-preserved
loop-place-preserved g c =
    let e = leads_more c.args.basis.now.moves c.loop-place.place c.move_at.result.now c.move_at.ensures.value in
    let f = c.loop-place.invariant in
    let g = c.in_ok-insert.ensures.ok in
    cc
