use Rattle.std.proofs.Common.{subst, List, ℤ, ℕ, All}
use Rattle.mk_model.specs.Reductions.{Divides}
use Rattle.mk_move.specs.Sides.{part_of}
use Rattle.mk_support.specs.Blocks.{IsRefused}
use Rattle.mk_support.specs.FirstBits.{Has}
use Rattle.mk_support.proofs.Searches.{none_then}
use Rattle.mk_support.proofs.Trees.{none_divides}
use Rattle.mk_support.proofs.support_tree.SupportTreeFinder.find.Goals as goal

-- src/support_tree.rt:59:5
pub returns-clause-none : goal.returns-clause-none
returns-clause-none c =
    let leads = c.self.inside.leads.items in
    let children = c.self.inside.children.by_first.items in
    let part = part_of c.args.side c.args.r.now.entries in
    none_then c.find.result
    (λ refused.
    subst (All (λ (lead : List ℤ). ¬ (Divides lead part))) c.self.view_is
    (none_divides leads children part c.self.invariant
    (subst (λ (x : List (List ℤ)). (m p : ℕ) → Has children m p → IsRefused x part p) c.deref.ensures.value refused))) c.find.ensures.none
