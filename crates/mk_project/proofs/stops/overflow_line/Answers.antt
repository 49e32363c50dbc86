use Rattle.std.proofs.Common.{rules, append_assoc}
use mir.Syntax.{w128}
use mir.Val.{SFits}
use Rattle.std.proofs.lemmas.Int.{to_z-of_z}
use Rattle.mk_model.proofs.TextPieces.{in_other_words}
use Rattle.mk_project.proofs.stops.overflow_line.Goals as goal

pub returns : goal.returns
returns c =
    let at = c.args.at in
    let left : SFits w128 at.left = search rules in
    let times : SFits w128 at.times = search rules in
    let right : SFits w128 at.right = search rules in
    in_other_words _ _ _ c.format.ensures.ok
    (simp (append_assoc, to_z-of_z w128 at.left left, to_z-of_z w128 at.times times, to_z-of_z w128 at.right right, c.from.ensures))
