use Rattle.std.proofs.Common.{◌≡◌, sym, subst, arith, ℕ, inl, inr}
use Rattle.std.specs.Int.{bit_at}
use Rattle.std.proofs.lemmas.Nat.Bits.{bit_at-lt}
use Rattle.mk_move.specs.Sides.{part_of}
use Rattle.mk_support.specs.declared.node.Node.{Node}
use Rattle.mk_support.specs.Blocks.{IsRefused}
use Rattle.mk_support.specs.Nodes.{Holds, ArePlaced, AreSplit}
use Rattle.mk_support.proofs.Searches.{as_wide, refused_by_bit, none_then, from_none}
use Rattle.mk_support.proofs.node.Node.+find.Goals as goal
use Rattle.mk_support.proofs.node.Node.+find.Goals.{then-bit_of-eq1+else-is_some, else-bit_of-eq1}

-- src/node.rt:25:5
pub returns-after-bit_of-eq1-clause-none : goal.returns-after-bit_of-eq1-clause-none
returns-after-bit_of-eq1-clause-none t c =
    let leads = c.args.leads.now in
    let part = part_of c.args.side c.args.r.now.entries in
    let split = subst AreSplit c.in-Fork.is c.requires.split in
    let placed = subst (ArePlaced leads) c.in-Fork.is c.requires.placed in
    let refused : (m p : ℕ) → Holds c.in-Fork.with.value m p → IsRefused leads part p =
    elim c.if-bit_of-eq1.branch [
      | then-bit_of-eq1+else-is_some w ↦
          λ m p s.
          from_none w.find-found.result w.if-is_some.ensures w.find-found.ensures.none m p
          (subst (λ (node : Node). Holds node m p) (sym w.deref.ensures) s)
      | else-bit_of-eq1 w ↦
          λ m p s.
          let clear : bit_at c.args.part c.in-Fork.bit ≡ 0 = omega (arith, w.if-bit_of-eq1.false, c.bit_of.ensures, bit_at-lt c.args.part c.in-Fork.bit) in
          refused_by_bit leads part m p c.args.part c.in-Fork.bit (as_wide c.args.side c.args.r.now.entries leads c.requires.columns) (placed m p (inl s)) c.requires.part (split.1 m p s) clear
    ] in
    none_then c.find-in-Fork.result
    (λ rest. λ m p s.
    elim (subst (λ (node : Node). Holds node m p) c.in-Fork.is s) [
      | inl there ↦ refused m p there
      | inr there ↦ rest m p (subst (λ (node : Node). Holds node m p) (sym c.deref-in-Fork.ensures) there)
    ]) c.find-in-Fork.ensures.none
