use Rattle.std.proofs.Common.{◌≡◌, List, ℤ, All, length, subst, sym}
use Rattle.mk_model.specs.Orders.{tail}
use Rattle.mk_model.specs.Reductions.{Divides}
use Rattle.mk_move.specs.Sides.{DividesAt}
use Rattle.mk_inter.specs.TailSteps.{HasTailReduced}
use Rattle.mk_inter.proofs.TailSteps.{step_smaller}
use Rattle.mk_inter.proofs.FoundLeads.{begun, leads_columns, found, reduced_at_end}
use Rattle.mk_inter.proofs.tail.reduce_tail.Goals as goal

pub loop-place-init : goal.loop-place-init
loop-place-init c =
    subst (HasTailReduced c.args.basis.now c.args.index) (sym c.in_ok-rest.ensures)
    (begun c.args.basis.now c.requires.saturated c.args.index c.requires.of_list c.move_at.result.now c.move_at.ensures.value c.move_at.ensures.belongs)

pub find-requires : goal.find-requires
find-requires c =
    let basis = c.args.basis.now in
    let rest = c.loop-place.rest in
    subst (λ (xs : List (List ℤ)). All (λ x. length x ≡ length rest.entries) xs) (sym c.requires.leads)
    (leads_columns basis.priority basis.grading basis.moves rest c.requires.saturated.kept.moves c.loop-place.invariant.belongs.columns)

pub tail_step-requires-clause-step : goal.tail_step-requires-clause-step
tail_step-requires-clause-step c =
    let rest = c.loop-place.rest in
    found c.args.basis.now c.requires.saturated c.args.index c.requires.of_list rest c.in-Some.place c.loop-place.invariant
    (subst (λ (xs : List (List ℤ)). DividesAt xs (tail rest.entries) c.in-Some.place) c.requires.leads c.in-Some.ensures.found)

pub loop-place-smaller : goal.loop-place-smaller
loop-place-smaller c =
    step_smaller c.args.basis.now c.args.index c.loop-place.rest c.in_ok-rest-2.rest c.requires.saturated c.loop-place.invariant c.in_ok-rest-2.ensures.reduced c.in_ok-rest-2.ensures.falls

pub returns-clause-reduced : goal.returns-clause-reduced
returns-clause-reduced c =
    let rest = c.loop-place.rest in
    reduced_at_end c.args.basis.now c.requires.saturated c.args.index c.requires.of_list rest c.loop-place.invariant
    (subst (λ (xs : List (List ℤ)). All (λ x. ¬ (Divides x (tail rest.entries))) xs) c.requires.leads c.in_default.ensures.none)
