use Rattle.std.proofs.Common.{List, ℕ, subst}
use Rattle.mk_move.specs.Moves.{IsRowOriented}
use Rattle.mk_minimise.proofs.LinkEnds.{added_link}
use Rattle.mk_minimise.proofs.links.add_link.Goals as goal

pub returns-in_ok-push : goal.returns-in_ok-push
returns-in_ok-push c =
    added_link c.args.basis.now c.requires.basis c.args.rest c.in-Some.left c.orient.new.self c.args.links.now.items c.deref.result.now c.push.new.self.items c.in_ok-left.field-0
    c.deref.ensures.value c.in-Some.is c.in_ok-left.ensures
    (subst (λ (p : List ℕ). IsRowOriented c.in-Some.left.entries p c.orient.new.self.entries) c.priority.ensures c.orient.ensures.entries)
    c.orient.ensures.graded c.in_ok-push.ensures.items
