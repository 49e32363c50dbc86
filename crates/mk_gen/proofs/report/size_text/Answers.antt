use Rattle.std.proofs.Common.{◌++◌, ap, decimal, arith, ◌≡◌}
use Rattle.mk_model.proofs.TextPieces.{in_other_words}
use Rattle.mk_gen.specs.Parts.{x_before}
use Rattle.mk_gen.proofs.report.size_text.Goals as goal

pub returns-then-place-eq0 : goal.returns-then-place-eq0
returns-then-place-eq0 c =
    let first : 0 ≡ c.args.place = omega arith in
    in_other_words _ _ _ c.format.ensures.ok (ap (λ place. x_before place ++ decimal c.args.size) first)
