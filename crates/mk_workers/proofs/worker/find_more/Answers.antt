use Rattle.std.proofs.Common.{◌≡◌, List, ℤ, All, length, sym, subst, arith, ◌∙◌}
use Rattle.mk_core.proofs.Leads.{first_leads_columns}
use Rattle.mk_workers.proofs.Steps.{first_count, leads_then, leads_count, are_first, all_leads}
use Rattle.mk_workers.proofs.worker.find_more.Goals as goal

pub loop-place-init : goal.loop-place-init
loop-place-init c = first_count c.args.finder.now c.args.basis.now c.count-place.result c.count-place.ensures c.requires.leads

pub insert-requires-clause-columns : goal.insert-requires-clause-columns
insert-requires-clause-columns c =
    let m = c.move_at.result.now in
    subst (All (λ (lead : List ℤ). length lead ≡ length m.entries)) (sym c.loop-place.invariant.1)
    (first_leads_columns c.args.basis.now c.loop-place.place m c.len-place-end.ensures.kept c.move_at.ensures.belongs)

pub insert-requires-clause-room : goal.insert-requires-clause-room
insert-requires-clause-room c =
    omega (arith, leads_count c.args.basis.now.moves c.loop-place.place c.loop-place.finder c.loop-place.invariant.0 c.loop-place.invariant.1, c.len-place-end.ensures.kept.few)

pub loop-place-preserved : goal.loop-place-preserved
loop-place-preserved c = (
  omega arith,
  leads_then c.args.basis.now.moves c.loop-place.place c.move_at.result.now c.loop-place.finder c.insert.new.self c.move_at.ensures.value c.loop-place.invariant.1 c.in_ok-insert.ensures.ok,
)

pub returns-in_err-insert-clause-leads : goal.returns-in_err-insert-clause-leads
returns-in_err-insert-clause-leads c = are_first c.args.basis.now c.loop-place.place c.insert.new.self c.loop-place.invariant.0 (c.in_err-insert.ensures.err ∙ c.loop-place.invariant.1)

pub returns : goal.returns
returns c = record {
  leads = are_first c.args.basis.now c.loop-place.place c.loop-place.finder c.loop-place.invariant.0 c.loop-place.invariant.1;
  all = all_leads c.args.basis.now c.loop-place.place c.loop-place.finder c.loop-place.invariant.1 (omega arith);
}
