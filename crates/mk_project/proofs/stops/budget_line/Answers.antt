use Rattle.std.proofs.Common.{append_assoc}
use Rattle.mk_model.proofs.TextPieces.{in_other_words}
use Rattle.mk_project.proofs.stops.budget_line.Goals as goal

pub returns : goal.returns
returns c = in_other_words _ _ _ c.format.ensures.ok (simp append_assoc)
