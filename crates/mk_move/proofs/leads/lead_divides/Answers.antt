use Rattle.std.proofs.Common.{◌≡◌, ◌∙◌, sym, length, rules, arith}
use Rattle.mk_model.specs.Vectors.{positive_part}
use Rattle.mk_model.proofs.VectorAlgebra.{length-positive_part}
use Rattle.mk_move.specs.Sides.{part_of}
use Rattle.mk_move.proofs.Divisions.{length-part_of}
use Rattle.mk_move.proofs.MaskTests.{not_dividing}
use Rattle.mk_move.proofs.leads.lead_divides.Goals as goal

pub returns-then-mask-ne0 : goal.returns-then-mask-ne0
returns-then-mask-ne0 c =
    let as_many : length (positive_part c.args.v.now.entries) ≡ length (part_of c.args.side c.args.r.now.entries) =
    length-positive_part c.args.v.now.entries ∙ c.requires ∙ sym (length-part_of c.args.side c.args.r.now.entries) in (
      (λ h. search rules),
      (λ d. absurd (not_dividing (positive_part c.args.v.now.entries) (part_of c.args.side c.args.r.now.entries) c.mask.result c.mask-2.result (omega arith) (omega arith) as_many c.mask.ensures c.mask-2.ensures c.if-mask-ne0.true d)),
    )
