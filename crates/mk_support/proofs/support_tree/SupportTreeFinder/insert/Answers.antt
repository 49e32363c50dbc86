use Rattle.std.proofs.Common.{◌≡◌, ◌∙◌, sym, ap, subst, List, ℤ, ℕ, length, ◌∷◌, ◌++◌, [], ◌+◌, ◌<◌, ◌^◌}
use Rattle.mk_move.specs.Masks.{IsMask}
use Rattle.mk_support.specs.Nodes.{Gains}
use Rattle.mk_support.specs.FirstBits.{Has}
use Rattle.mk_support.proofs.Trees.{tree_same, tree_more}
use Rattle.mk_support.proofs.support_tree.SupportTreeFinder.insert.Goals as goal

-- src/support_tree.rt:54:9
pub invariant_of-self-in_err-insert : goal.invariant_of-self-in_err-insert
invariant_of-self-in_err-insert c =
    rw c.reserve.ensures.items (tree_same c.self.inside.leads.items c.self.inside.children.by_first.items c.insert.new.self.by_first.items c.self.invariant c.in_err-insert.ensures.by_first c.in_err-insert.ensures.err)

-- src/support_tree.rt:49:5
pub invariant_of-self-2 : goal.invariant_of-self-2
invariant_of-self-2 c =
    let leads = c.self.inside.leads.items in
    let children = c.self.inside.children.by_first.items in
    let new = c.insert.new.self.by_first.items in
    let lead_is = c.in_ok-lead.ensures in
    let place_is : c.len-place.result ≡ length leads = c.len-place.ensures ∙ c.reserve.new.self.ok.0 ∙ ap length c.reserve.ensures.items in
    let items : c.push.new.self.items ≡ leads ++ c.in_ok-lead.lead ∷ [] =
    c.in_ok-push.ensures.items ∙ ap (λ (x : List (List ℤ)). x ++ c.in_ok-lead.lead ∷ []) c.reserve.ensures.items in
    let gains = subst (λ (p : ℕ). Gains (Has children) c.mask.result p (Has new)) place_is c.in_ok-insert.ensures.ok in
    let room = subst (λ (x : List (List ℤ)). length x + 1 < 2 ^ 32) (sym c.self.view_is) c.requires.room in
    rw items
    (tree_more leads c.in_ok-lead.lead c.mask.result children new c.self.invariant room (subst (λ (x : List ℤ). IsMask x c.mask.result) (sym lead_is) c.mask.ensures) c.in_ok-insert.ensures.by_first gains)
