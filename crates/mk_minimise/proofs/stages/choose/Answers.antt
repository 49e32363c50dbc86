use Rattle.std.proofs.Common.{◌≡◌, ◌↔◌, ◌+◌, ◌∷◌, ◌++◌, [], length, List, IsTrue, arith, sym, subst, ap, ◌∙◌}
use Rattle.mk_model.specs.Orders.{lead}
use Rattle.mk_move.specs.Moves.{Weighed}
use Rattle.mk_move.specs.MoveLists.{vectors_of}
use Rattle.mk_minimise.specs.Stages.{HasLead, AreChosen}
use Rattle.mk_minimise.proofs.LinkEnds.{belongs_rest, link_rest, failed}
use Rattle.mk_minimise.proofs.StageSteps.{IsChoosing, choose_more, choose_skip}
use Rattle.mk_minimise.proofs.stages.choose.Goals as goal
use Rattle.mk_minimise.proofs.stages.choose.Goals.{After-has_lead, then-not-has_lead+in_ok-try_copy+in_ok-push, else-not-has_lead}

tells : (c : After-has_lead) → IsTrue c.has_lead.result ↔ HasLead (vectors_of c.args.links.now) (lead c.move_at-m.result.now.entries)
tells c =
    let basis = c.args.basis.now in
    let kept = c.requires.reduced.kept in
    c.has_lead.ensures basis.grading kept.grading (link_rest basis c.args.links.now kept c.requires.links) (belongs_rest basis kept c.move_at-m.result.now c.move_at-m.ensures.belongs)

pub loop-place-preserved : goal.loop-place-preserved
loop-place-preserved c =
    let basis = c.args.basis.now in
    let links = c.args.links.now in
    let place = c.loop-place.place in
    let items = c.loop-place.chosen.items in
    let m = c.move_at-m.result.now in
    let told = tells (goal.at.loop-place-preserved c).After-has_lead in
    elim c.if-not-has_lead.branch [
      | then-not-has_lead+in_ok-try_copy+in_ok-push b ↦
          let pushed : c.if-not-has_lead.chosen.items ≡ items ++ m ∷ [] =
          ◌∙◌ {A = List Weighed} (ap (λ v. v.items) b.chosen-is) (◌∙◌ {A = List Weighed} b.in_ok-push.ensures.items (ap (λ (x : Weighed). items ++ x ∷ []) b.in_ok-try_copy.ensures)) in
          choose_more basis c.requires.reduced c.args.start c.args.end c.requires.run links c.requires.tells place c.loop-place.auto.place c.loop-place-test.true items c.loop-place.invariant m c.move_at-m.ensures.value
          c.move_at-m.ensures.belongs c.if-not-has_lead.chosen.items pushed (failed (HasLead (vectors_of links) (lead m.entries)) c.has_lead.result told b.if-not-has_lead.true)
      | else-not-has_lead b ↦
          subst (IsChoosing basis (place + 1)) (sym (ap (λ v. v.items) b.chosen-is))
          (choose_skip basis c.requires.reduced c.args.start c.args.end c.requires.run links c.requires.tells place c.loop-place.auto.place c.loop-place-test.true items c.loop-place.invariant m c.move_at-m.ensures.value
          (told.0 b.if-not-has_lead.false))
    ]

pub returns-clause-chosen : goal.returns-clause-chosen
returns-clause-chosen c =
    let basis = c.args.basis.now in
    let at_end : c.loop-place.place ≡ c.args.end = omega (arith, c.loop-place-test.false, c.loop-place.auto.place-end, c.requires.run.some) in
    subst (λ k. AreChosen (length basis.grading) basis.grading (vectors_of basis.moves) k (vectors_of c.loop-place.chosen.items)) at_end c.loop-place.invariant.chosen
