use Rattle.std.proofs.Common.{append_assoc}
use Rattle.mk_model.proofs.TextPieces.{in_other_words}
use Rattle.mk_project.proofs.lines.input_line.Goals as goal

pub returns-in-NoLattice : goal.returns-in-NoLattice
returns-in-NoLattice c = rw c.in-NoLattice.is (in_other_words _ _ _ c.format.ensures.ok (simp append_assoc))

pub returns-in-FileSize : goal.returns-in-FileSize
returns-in-FileSize c = rw c.in-FileSize.is (in_other_words _ _ _ c.format-in-FileSize.ensures.ok (simp (append_assoc, c.ending-ending.ensures)))

pub returns-in_ok-complaint-in-Table : goal.returns-in_ok-complaint-in-Table
returns-in_ok-complaint-in-Table c =
    rw c.in-Table.is (in_other_words _ _ _ c.format-in-Table.ensures.ok (simp (append_assoc, c.ending-ending-in-Table.ensures, c.in_ok-complaint-in-Table.ensures)))

pub returns-in_ok-complaint-in-Grade : goal.returns-in_ok-complaint-in-Grade
returns-in_ok-complaint-in-Grade c =
    rw c.in-Grade.is (in_other_words _ _ _ c.format-in-Grade.ensures.ok (simp (append_assoc, c.in_ok-complaint-in-Grade.ensures)))
