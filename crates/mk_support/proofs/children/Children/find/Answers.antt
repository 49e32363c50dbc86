use Rattle.std.proofs.Common.{◌≡◌, ◌∙◌, ◌<◌, inl, inr, arith, sym, ap, subst, length, get_or, List, ℕ}
use Rattle.std.specs.Int.{bit_at}
use Rattle.std.proofs.lemmas.Bool.{cases_lt, cases_eq}
use Rattle.std.proofs.lemmas.Nat.Bits.{bit_at-lt, bit_at-zero}
use Rattle.std.proofs.lemmas.Option.{slice_get_within, get_or_from_slice_get}
use Rattle.mk_move.specs.Sides.{part_of}
use Rattle.mk_support.specs.declared.node.Node.{Node}
use Rattle.mk_support.specs.Nodes.{Holds}
use Rattle.mk_support.specs.FirstBits.{HoldsAt}
use Rattle.mk_support.proofs.Searches.{as_wide, refused_by_bit, none_then, from_none}
use Rattle.mk_support.proofs.children.Children.find.Goals as goal

-- what the child at a place has, where it is read
in_child : (children : List Node) (first : ℕ) (child : Node) (m p : ℕ) → child ≡ get_or children first child → HoldsAt children first m p → Holds child m p
in_child children first child m p is h =
    subst (λ (node : Node). Holds node m p) (sym (get_or_from_slice_get children first h.child child h.at) ∙ sym is) h.holds

-- src/children.rt:37:5
pub loop-left-preserved : goal.loop-left-preserved
loop-left-preserved c k low set clear m p h = elim (cases_eq k c.first_bit-first.result.0) [
  | inl this ↦
      let here = subst (λ (first : ℕ). HoldsAt c.args.self.now.by_first.items first m p) this h in
      let is = c.index-children-first.is ∙ ap (λ (xs : List Node). get_or xs c.first_bit-first.result.0 c.index-children-first.result) c.as_slice-children.ensures.value in
      from_none c.find-found.result c.if-is_some.ensures c.find-found.ensures.none m p (in_child c.args.self.now.by_first.items c.first_bit-first.result.0 c.index-children-first.result m p is here)
  | inr apart ↦ c.loop-left.invariant k low set (sym (c.first_bit-first.ensures.others k low apart) ∙ clear) m p h
]

-- src/children.rt:37:5
pub returns-clause-none : goal.returns-clause-none
returns-clause-none c =
    let children = c.args.self.now.by_first.items in
    let leads = c.args.leads.now in
    let part = part_of c.args.side c.args.r.now.entries in
    let is = c.index-children-64.is ∙ ap (λ (xs : List Node). get_or xs 64 c.index-children-64.result) c.as_slice-children.ensures.value in
    none_then c.find.result
    (λ last. λ m p s.
    elim (cases_lt s.0 64) [
      | inl low ↦ elim (cases_lt 0 (bit_at c.args.part s.0)) [
        | inl some ↦
            let done : bit_at c.loop-left.left s.0 ≡ 0 = ap (λ n. bit_at n s.0) c.loop-left-test.false ∙ bit_at-zero s.0 in
            c.loop-left.invariant s.0 low (omega (arith, some, bit_at-lt c.args.part s.0)) done m p s.1
        | inr none ↦
            refused_by_bit leads part m p c.args.part s.0 (as_wide c.args.side c.args.r.now.entries leads c.requires.columns) (c.requires.placed m p s) c.requires.part (c.requires.by_first.set s.0 m p s.1 low) (omega (arith, none))
      ]
      | inr high ↦
          let within : s.0 < length children = slice_get_within children s.0 s.1.child s.1.at in
          let at_last : s.0 ≡ 64 = elim c.requires.by_first.count [ inl none ↦ absurd (omega (arith, none, within)) | inr all ↦ omega (arith, all, within, high) ] in
          last m p (in_child children 64 c.index-children-64.result m p is (subst (λ (first : ℕ). HoldsAt children first m p) at_last s.1))
    ]) c.find.ensures.none
