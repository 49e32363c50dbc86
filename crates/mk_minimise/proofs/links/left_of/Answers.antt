use Rattle.std.proofs.Common.{◌≡◌, slice_get, Option, Some, None, List, ℤ, refl, sym, subst, length}
use Rattle.std.proofs.lemmas.Option.{slice_get_read}
use Rattle.mk_model.specs.Reductions.Reaches.{here}
use Rattle.mk_move.specs.Moves.{Weighed}
use Rattle.mk_reduce.specs.Works.{IsRest}
use Rattle.mk_minimise.specs.LinkSteps.{IsEnd, IsLessLink}
use Rattle.mk_minimise.proofs.LinkEnds.{found_rest, found_part, end_at, goes_on, falls, ends_zero, ends_left}
use Rattle.mk_minimise.proofs.links.left_of.Goals as goal
use Rattle.mk_minimise.proofs.links.left_of.Goals.{After-grading}

at : (c : After-grading) → slice_get c.args.links.now c.in-Some.place ≡ Some c.index-links-place.result
at c = slice_get_read c.args.links.now (length c.args.links.now) c.in-Some.place c.index-links-place.result refl c.in-Some.ensures.within c.index-links-place.is

end_of : (c : After-grading) → IsEnd c.in-Some.side c.loop-place.rest c.index-links-place.result
end_of c = end_at c.args.basis.now c.requires.basis c.args.links.now c.requires.links c.loop-place.rest c.in-Some.place c.in-Some.side c.index-links-place.result (at c) c.in-Some.ensures.found

pub loop-place-init : goal.loop-place-init
loop-place-init c = record { steps = here; rest = c.requires.rest }

pub less_link-requires-clause-link : goal.less_link-requires-clause-link
less_link-requires-clause-link c =
    subst (λ (w : List ℤ). IsRest w c.index-links-place.result) (sym c.grading.ensures)
    (found_rest c.args.basis.now c.requires.basis c.args.links.now c.requires.links c.in-Some.place c.index-links-place.result (at c))

pub less_link-requires-clause-at_end : goal.less_link-requires-clause-at_end
less_link-requires-clause-at_end c =
    found_part c.args.basis.now c.requires.basis c.args.links.now c.requires.links c.loop-place.rest c.in-Some.place c.in-Some.side c.index-links-place.result c.loop-place.invariant.rest (at c) (end_of c)

pub loop-place-smaller : goal.loop-place-smaller
loop-place-smaller c =
    let here = (goal.at.loop-place-smaller c).After-grading in
    let rest = c.loop-place.rest in
    let link = c.index-links-place.result in
    let less = subst (λ (w : List ℤ). IsLessLink w rest.entries c.in-Some.side link.entries (Some c.in-Some-2.next)) c.grading.ensures
    (subst (λ (left : Option Weighed). IsLessLink c.grading.result.now rest.entries c.in-Some.side link.entries left) c.in-Some-2.is c.in_ok-next.ensures) in
    falls c.args.basis.now c.requires.basis c.args.links.now c.requires.links c.args.m rest c.loop-place.invariant c.in-Some.place c.in-Some.side link (at here) (end_of here) c.in-Some-2.next less

pub loop-place-preserved : goal.loop-place-preserved
loop-place-preserved c =
    let here = (goal.at.loop-place-preserved c).After-grading in
    let rest = c.loop-place.rest in
    let link = c.index-links-place.result in
    let less = subst (λ (w : List ℤ). IsLessLink w rest.entries c.in-Some.side link.entries (Some c.in-Some-2.next)) c.grading.ensures
    (subst (λ (left : Option Weighed). IsLessLink c.grading.result.now rest.entries c.in-Some.side link.entries left) c.in-Some-2.is c.in_ok-next.ensures) in
    goes_on c.args.basis.now c.requires.basis c.args.links.now c.requires.links c.args.m rest c.loop-place.invariant c.in-Some.place c.in-Some.side link (at here) (end_of here) c.in-Some-2.next less

pub returns-in-None : goal.returns-in-None
returns-in-None c =
    let here = (goal.at.returns-in-None c).After-grading in
    let rest = c.loop-place.rest in
    let link = c.index-links-place.result in
    let less = subst (λ (w : List ℤ). IsLessLink w rest.entries c.in-Some.side link.entries None) c.grading.ensures
    (subst (λ (left : Option Weighed). IsLessLink c.grading.result.now rest.entries c.in-Some.side link.entries left) c.in-None.is c.in_ok-next.ensures) in
    ends_zero c.args.basis.now c.requires.basis c.args.links.now c.requires.links c.args.m rest c.loop-place.invariant c.in-Some.place c.in-Some.side link (at here) (end_of here) less

pub returns : goal.returns
returns c =
    ends_left c.args.basis.now c.requires.basis c.args.links.now c.requires.links c.args.m c.loop-place.rest c.loop-place.invariant c.in_default.ensures.none
