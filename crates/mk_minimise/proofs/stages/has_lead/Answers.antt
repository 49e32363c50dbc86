use Rattle.std.proofs.Common.{All, false, subst, refl, length}
use Rattle.std.proofs.lemmas.Bool.{both_ways}
use Rattle.std.proofs.lemmas.List.{take_all}
use Rattle.std.proofs.lemmas.Option.{slice_get_read}
use Rattle.mk_move.specs.declared.side.Side.TheVariants.{Plus}
use Rattle.mk_move.specs.Moves.{Weighed}
use Rattle.mk_minimise.specs.LinkSteps.{IsEnd}
use Rattle.mk_minimise.proofs.LinkEnds.{has_lead, lacks_lead}
use Rattle.mk_minimise.proofs.stages.has_lead.Goals as goal

pub returns-then-is_end : goal.returns-then-is_end
returns-then-is_end c w weights each r =
    let links = c.args.links.now in
    let link = c.link-item.result in
    let k = c.loop-link.link-index in
    let there = has_lead w weights links each c.args.m.now r k link (slice_get_read links (length links) k link refl c.loop-link-test.true c.link-item.is) (c.is_end.ensures.0 c.if-is_end.true) in
    ((λ _. there), (λ _. refl))

pub returns : goal.returns
returns c w weights each r =
    let links = c.args.links.now in
    let none = subst (All (λ (link : Weighed). ¬ (IsEnd Plus c.args.m.now link))) (take_all c.loop-link.link-index links c.loop-link-test.false) c.loop-link.invariant in
    ((λ e. absurd (both_ways false refl e)), (λ h. absurd (lacks_lead w links each c.args.m.now r none h)))
