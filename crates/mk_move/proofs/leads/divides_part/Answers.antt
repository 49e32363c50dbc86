use Rattle.std.proofs.Common.{◌≡◌, pos, get_or, arith, rules}
use Rattle.mk_move.specs.Sides.{entry_on}
use Rattle.mk_move.proofs.Entries.{as_entry, entry_read}
use Rattle.mk_move.proofs.Readings.{less, not_less, part_read}
use Rattle.mk_move.proofs.Divisions.{divides_more, divides_whole, divides_not}
use Rattle.mk_move.proofs.leads.divides_part.Goals as goal
use Rattle.mk_move.proofs.leads.divides_part.Goals.{After-entry_of}

-- the entry of the lead and that of the part, as the code has them
lead_is : (c : After-entry_of) → as_entry (get_or c.args.lead.now c.loop-column.column (pos 0)) ≡ get_or c.args.lead.now c.loop-column.column (pos 0)
lead_is c = entry_read (get_or c.args.lead.now c.loop-column.column (pos 0)) (c.requires.lead c.loop-column.column (pos 0) (omega arith))

part_is : (c : After-entry_of) → as_entry c.entry_of.result ≡ entry_on c.args.side (get_or c.args.row.now c.loop-column.column (pos 0))
part_is c =
    part_read c.args.side (get_or c.args.row.now c.loop-column.column (pos 0)) c.entry_of.result (c.requires.entries c.loop-column.column (pos 0) (omega arith)) c.entry_of.ensures

pub loop-column-preserved : goal.loop-column-preserved
loop-column-preserved c =
    let at = (goal.at.loop-column-preserved c).After-entry_of in
    divides_more c.args.lead.now c.args.row.now c.args.side c.loop-column.column c.loop-column.invariant (not_less _ _ _ _ (part_is at) (lead_is at) c.if-entry-entry_of.false)

pub returns-then-entry-entry_of : goal.returns-then-entry-entry_of
returns-then-entry-entry_of c =
    let at = (goal.at.returns-then-entry-entry_of c).After-entry_of in
    ((λ h. search rules), (λ d. absurd (divides_not c.args.lead.now c.args.row.now c.args.side c.loop-column.column (less _ _ _ _ (part_is at) (lead_is at) c.if-entry-entry_of.true) d)))

pub returns : goal.returns
returns c =
    let whole = divides_whole c.args.lead.now c.args.row.now c.args.side c.loop-column.column (omega arith) c.loop-column.invariant in
    ((λ _. whole), (λ _. search rules))
