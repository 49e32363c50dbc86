use Rattle.std.proofs.Common.{◌≡◌, ◌∙◌, sym, length, rules, arith}
use Rattle.mk_model.specs.Vectors.{positive_part}
use Rattle.mk_model.proofs.VectorAlgebra.{length-positive_part}
use Rattle.mk_move.specs.declared.side.Side.TheVariants.{Plus}
use Rattle.mk_move.proofs.Divisions.{part_of_nonnegative}
use Rattle.mk_move.proofs.MaskTests.{apart_disjoint, not_apart}
use Rattle.mk_move.proofs.leads.coprime_leads.Goals as goal
use Rattle.mk_move.proofs.leads.coprime_leads.Goals.{After-mask-2}

as_many : (c : After-mask-2) → length (positive_part c.args.a.now.entries) ≡ length (positive_part c.args.b.now.entries)
as_many c = length-positive_part c.args.a.now.entries ∙ c.requires ∙ sym (length-positive_part c.args.b.now.entries)

pub returns-then-mask-eq0 : goal.returns-then-mask-eq0
returns-then-mask-eq0 c =
    let at = (goal.at.returns-then-mask-eq0 c).After-mask-2 in
    let a = c.args.a.now.entries in
    let b = c.args.b.now.entries in
    let disjoint = apart_disjoint (positive_part a) (positive_part b) c.mask.result c.mask-2.result (as_many at) (part_of_nonnegative Plus a) (part_of_nonnegative Plus b) c.mask.ensures c.mask-2.ensures c.if-mask-eq0.true in
    ((λ _. disjoint), (λ _. search rules))

pub returns-then-columns-le64 : goal.returns-then-columns-le64
returns-then-columns-le64 c =
    let at = (goal.at.returns-then-columns-le64 c).After-mask-2 in
    let a = c.args.a.now.entries in
    let b = c.args.b.now.entries in (
      (λ h. search rules),
      (λ d. absurd (not_apart (positive_part a) (positive_part b) c.mask.result c.mask-2.result (omega arith) (as_many at) (omega (arith, c.columns.ensures.value, c.if-columns-le64.true, length-positive_part a)) c.mask.ensures c.mask-2.ensures c.if-mask-eq0.false d)),
    )
