use Rattle.std.proofs.Common.{◌≡◌, ◌∙◌, sym, length, rules, arith}
use Rattle.std.specs.Int.RustNames.{bit_or}
use Rattle.mk_model.specs.Vectors.{positive_part}
use Rattle.mk_model.specs.Reductions.{lcm}
use Rattle.mk_model.proofs.VectorAlgebra.{length-positive_part}
use Rattle.mk_model.proofs.Divisors.{length-lcm}
use Rattle.mk_move.proofs.Chains.{mask_of_lcm}
use Rattle.mk_move.proofs.MaskTests.{not_dividing}
use Rattle.mk_move.proofs.chain.divides_between.Goals as goal

pub returns-then-mask-both-ne0 : goal.returns-then-mask-both-ne0
returns-then-mask-both-ne0 c =
    let v = positive_part c.args.v.now.entries in
    let a = positive_part c.args.a.now.entries in
    let b = positive_part c.args.b.now.entries in
    let first : length v ≡ length a = length-positive_part c.args.v.now.entries ∙ c.requires.first ∙ sym (length-positive_part c.args.a.now.entries) in
    let second : length v ≡ length b = length-positive_part c.args.v.now.entries ∙ c.requires.second ∙ sym (length-positive_part c.args.b.now.entries) in
    let as_many : length v ≡ length (lcm a b) = omega (arith, first, second, length-lcm a b) in
    let mask = mask_of_lcm a b c.mask.result c.mask-2.result (sym first ∙ second) c.mask.ensures c.mask-2.ensures in (
      (λ h. search rules),
      (λ d. absurd (not_dividing v (lcm a b) c.mask-3.result (bit_or c.mask.result c.mask-2.result) (omega arith) (search rules) as_many c.mask-3.ensures mask c.if-mask-both-ne0.true d)),
    )
