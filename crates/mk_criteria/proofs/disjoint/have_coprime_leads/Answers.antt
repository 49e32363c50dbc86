use Rattle.std.proofs.Common.{rules, ◌↔◌, IsTrue, List, ℤ, sym, subst}
use Rattle.mk_model.specs.CoreStates.{move_at}
use Rattle.mk_model.specs.Orders.{lead}
use Rattle.mk_model.specs.Pairs.{AreDisjoint}
use Rattle.mk_move.specs.MoveLists.{vectors_of}
use Rattle.mk_move.proofs.LeadMasks.{disjoint_by_masks}
use Rattle.mk_move.proofs.MoveVectors.{vector_at}
use Rattle.mk_criteria.proofs.disjoint.have_coprime_leads.Goals as goal

pub returns-then-masks-i-eq0 : goal.returns-then-masks-i-eq0
returns-then-masks-i-eq0 c =
    let disjoint = disjoint_by_masks c.args.basis.now c.lead_masks-masks.result.now c.args.i c.args.j c.lead_masks-masks.ensures.kept c.lead_masks-masks.ensures.masks
    c.requires.first c.requires.second c.if-masks-i-eq0.true in
    ((λ _. disjoint), (λ _. search rules))

pub returns : goal.returns
returns c =
    let moves = c.args.basis.now.moves in
    let a = c.move_at.result.now in
    subst (λ (x : List ℤ). IsTrue c.coprime_leads.result ↔ AreDisjoint (lead x) (lead (move_at (vectors_of moves) c.args.j))) (sym (vector_at moves c.args.i a c.move_at.ensures.value))
    (subst (λ (x : List ℤ). IsTrue c.coprime_leads.result ↔ AreDisjoint (lead a.entries) (lead x)) (sym (vector_at moves c.args.j c.move_at-2.result.now c.move_at-2.ensures.value)) c.coprime_leads.ensures)
