use Rattle.std.proofs.Common.{◌≡◌, pos, get_or, arith, rules, inl, inr, refl}
use Rattle.mk_move.proofs.Entries.{as_entry, entry_read}
use Rattle.mk_move.proofs.Readings.{less, not_less}
use Rattle.mk_move.proofs.Divisions.{disjoint_more, disjoint_whole, disjoint_not}
use Rattle.mk_move.proofs.leads.are_disjoint.Goals as goal
use Rattle.mk_move.proofs.leads.are_disjoint.Goals.{In-loop-column, else-entry-gt0-via-then-entry-gt0+else-b-column-gt0, else-entry-gt0-via-else-entry-gt0}

-- the entries, as the code has them
left_is : (c : In-loop-column) → as_entry (get_or c.args.a.now c.loop-column.column (pos 0)) ≡ get_or c.args.a.now c.loop-column.column (pos 0)
left_is c = entry_read (get_or c.args.a.now c.loop-column.column (pos 0)) (c.requires.left c.loop-column.column (pos 0) (omega arith))

right_is : (c : In-loop-column) → as_entry (get_or c.args.b.now c.loop-column.column (pos 0)) ≡ get_or c.args.b.now c.loop-column.column (pos 0)
right_is c = entry_read (get_or c.args.b.now c.loop-column.column (pos 0)) (c.requires.right c.loop-column.column (pos 0) (omega arith))

pub returns-then-b-column-gt0 : goal.returns-then-b-column-gt0
returns-then-b-column-gt0 c =
    let at = (goal.at.returns-then-b-column-gt0 c).In-loop-column in
    ((λ h. search rules), (λ d. absurd (disjoint_not c.args.a.now c.args.b.now c.loop-column.column (less _ _ (pos 0) _ refl (left_is at) c.if-entry-gt0.true) (less _ _ (pos 0) _ refl (right_is at) c.if-b-column-gt0.true) d)))

pub loop-column-preserved : goal.loop-column-preserved
loop-column-preserved c =
    let at = (goal.at.loop-column-preserved c).In-loop-column in
    disjoint_more c.args.a.now c.args.b.now c.loop-column.column c.loop-column.invariant
    (elim c.else-entry-gt0.branch [
      | else-entry-gt0-via-then-entry-gt0+else-b-column-gt0 w ↦ inr (not_less _ _ (pos 0) _ refl (right_is at) w.if-b-column-gt0.false)
      | else-entry-gt0-via-else-entry-gt0 w ↦ inl (not_less _ _ (pos 0) _ refl (left_is at) w.if-entry-gt0.false)
    ])

pub returns : goal.returns
returns c =
    let whole = disjoint_whole c.args.a.now c.args.b.now c.loop-column.column (omega arith) c.loop-column.invariant in
    ((λ _. whole), (λ _. search rules))
