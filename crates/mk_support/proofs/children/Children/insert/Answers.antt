use Rattle.std.proofs.Common.{◌≡◌, ◌<◌, ◌⊎◌, inl, inr, arith, refl, length, List, ℕ, Some, slice_get}
use Rattle.std.specs.Int.{bit_at}
use Rattle.std.proofs.lemmas.Option.{slice_get_read}
use Rattle.std.proofs.lemmas.Result.{on_ok_weaker, on_err_weaker}
use Rattle.mk_support.specs.declared.node.Node.{Node}
use Rattle.mk_support.specs.Nodes.{Holds}
use Rattle.mk_support.proofs.Replacements.{gains_at, same_at, by_first_at, with_bit, gains_after, same_after, on_either}
use Rattle.mk_support.proofs.children.Children.insert.Goals as goal
use Rattle.mk_support.proofs.children.Children.insert.Goals.{After-insert}

-- the children, the place of the lead's child, and that child before and after
abbrev children : After-insert → List Node
children c = c.open.new.self.by_first.items

abbrev first : After-insert → ℕ
first c = c.lowest_bit-first.result

abbrev old : After-insert → Node
old c = c.index_mut.result.now

abbrev new : After-insert → Node
new c = c.insert.new.self

at : (c : After-insert) → slice_get (children c) (first c) ≡ Some (old c)
at c = slice_get_read (children c) (length (children c)) (first c) (old c) refl (omega (arith, c.in_ok-open.ensures.count, c.lowest_bit-first.ensures.range)) c.index_mut.ensures.value

-- each mask of the new child is one of the old child, or has the child's bit
with_bits : (c : After-insert) → (m p : ℕ) → Holds (new c) m p → Holds (old c) m p ⊎ (first c < 64 → bit_at m (first c) ≡ 1)
with_bits c = elim (on_either c.insert.result c.insert.ensures.ok c.insert.ensures.err) [
  | inl gains ↦ with_bit (Holds (old c)) (Holds (new c)) (first c) c.args.mask c.args.place c.lowest_bit-first.ensures.set gains
  | inr same ↦ λ m p s. inl (same.others m p s)
]

-- src/children.rt:63:5
pub returns-clause-by_first : goal.returns-clause-by_first
returns-clause-by_first c =
    let w = (goal.at.returns-clause-by_first c).After-insert in
    by_first_at (children w) (first w) (old w) (new w) (at w) c.in_ok-open.ensures.by_first c.insert.ensures.split (with_bits w)

-- src/children.rt:63:5
pub returns-clause-ok : goal.returns-clause-ok
returns-clause-ok c =
    let w = (goal.at.returns-clause-ok c).After-insert in
    on_ok_weaker c.insert.result
    (λ gains. gains_after c.args.mask c.args.place c.in_ok-open.ensures.same (gains_at (children w) (first w) (old w) (new w) (at w) c.args.mask c.args.place gains)) c.insert.ensures.ok

-- src/children.rt:63:5
pub returns-clause-err : goal.returns-clause-err
returns-clause-err c =
    let w = (goal.at.returns-clause-err c).After-insert in
    on_err_weaker c.insert.result
    (λ same. same_after c.in_ok-open.ensures.same (same_at (children w) (first w) (old w) (new w) (at w) same)) c.insert.ensures.err
