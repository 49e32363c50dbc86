use Rattle.std.proofs.Common.{rules, append_assoc}
use mir.Syntax.{w64, w128}
use mir.Val.{SFits}
use Rattle.std.proofs.lemmas.Int.{to_z-of_z}
use Rattle.mk_model.proofs.TextPieces.{in_other_words}
use Rattle.mk_project.proofs.lines.grade_complaint.Goals as goal

pub returns-in-MatColumns : goal.returns-in-MatColumns
returns-in-MatColumns c = rw c.in-MatColumns.is (in_other_words _ _ _ c.format.ensures.ok (simp append_assoc))

pub returns-in-MatMismatch : goal.returns-in-MatMismatch
returns-in-MatMismatch c =
    let value : SFits w128 c.in-MatMismatch.value = search rules in
    rw c.in-MatMismatch.is (in_other_words _ _ _ c.format-in-MatMismatch.ensures.ok
    (simp (append_assoc, c.ordinal-mat_row.ensures, c.ordinal-lat_row.ensures, to_z-of_z w128 c.in-MatMismatch.value value)))

pub returns-in-GradeShape : goal.returns-in-GradeShape
returns-in-GradeShape c = rw c.in-GradeShape.is (in_other_words _ _ _ c.format-in-GradeShape.ensures.ok (simp append_assoc))

pub returns-in-GradeNotPositive : goal.returns-in-GradeNotPositive
returns-in-GradeNotPositive c =
    let value : SFits w64 c.in-GradeNotPositive.value = search rules in
    rw c.in-GradeNotPositive.is (in_other_words _ _ _ c.format-in-GradeNotPositive.ensures.ok
    (simp (append_assoc, c.ordinal.ensures, to_z-of_z w64 c.in-GradeNotPositive.value value)))

pub returns-in-GradeMismatch : goal.returns-in-GradeMismatch
returns-in-GradeMismatch c =
    let value : SFits w128 c.in-GradeMismatch.value = search rules in
    rw c.in-GradeMismatch.is (in_other_words _ _ _ c.format-in-GradeMismatch.ensures.ok
    (simp (append_assoc, c.ordinal-lat_row-in-GradeMismatch.ensures, to_z-of_z w128 c.in-GradeMismatch.value value)))
