use Rattle.std.proofs.Common.{sym, subst, List, ℤ}
use Rattle.mk_support.specs.Trees.{IsTree}
use Rattle.mk_support.proofs.Trees.{tree_first}
use Rattle.mk_support.proofs.support_tree.SupportTree.new.Goals as goal

-- src/support_tree.rt:31:5
pub invariant_of-result : goal.invariant_of-result
invariant_of-result c =
    subst (λ (leads : List (List ℤ)). IsTree leads c.new-2.result.by_first.items) (sym c.new.ensures.items)
    (tree_first c.new-2.result.by_first.items c.new-2.ensures.by_first c.new-2.ensures.none)
