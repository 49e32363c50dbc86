use Rattle.std.proofs.Common.{append_assoc}
use Rattle.mk_model.proofs.TextPieces.{in_other_words}
use Rattle.mk_project.proofs.lines.table_complaint.Goals as goal

pub returns-in-NoHeader : goal.returns-in-NoHeader
returns-in-NoHeader c = rw c.in-NoHeader.is (in_other_words _ _ _ c.format.ensures.ok (simp append_assoc))

pub returns-in-BadNumber : goal.returns-in-BadNumber
returns-in-BadNumber c = rw c.in-BadNumber.is c.format-in-BadNumber.ensures.ok

pub returns-in-Rows : goal.returns-in-Rows
returns-in-Rows c = rw c.in-Rows.is (in_other_words _ _ _ c.format-in-Rows.ensures.ok (simp append_assoc))

pub returns-in-Columns : goal.returns-in-Columns
returns-in-Columns c = rw c.in-Columns.is (in_other_words _ _ _ c.format-in-Columns.ensures.ok (simp append_assoc))

pub returns-in-EntryRange : goal.returns-in-EntryRange
returns-in-EntryRange c = rw c.in-EntryRange.is c.format-in-EntryRange.ensures.ok

pub returns-in-Missing : goal.returns-in-Missing
returns-in-Missing c = rw c.in-Missing.is (in_other_words _ _ _ c.format-in-Missing.ensures.ok (simp append_assoc))

pub returns-in-Trailing : goal.returns-in-Trailing
returns-in-Trailing c = rw c.in-Trailing.is c.format-in-Trailing.ensures.ok
