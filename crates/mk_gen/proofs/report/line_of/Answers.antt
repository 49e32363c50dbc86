use Rattle.std.proofs.Common.{append_assoc}
use mir.Syntax.{w128}
use Rattle.std.proofs.lemmas.Int.{to_z-of_z}
use Rattle.mk_model.proofs.TextPieces.{in_other_words}
use Rattle.mk_gen.proofs.report.line_of.Goals as goal

pub returns : goal.returns
returns c = in_other_words _ _ _ c.format.ensures.ok (simp (append_assoc, to_z-of_z w128 c.args.weight c.ranges.weight))
