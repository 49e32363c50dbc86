use Rattle.std.proofs.Common.{◌≡◌, pos, get_or, arith, rules}
use Rattle.mk_move.specs.Chains.{lcm_on}
use Rattle.mk_move.proofs.Readings.{less, not_less}
use Rattle.mk_move.proofs.Entries.{as_entry, entry_read}
use Rattle.mk_move.proofs.Chains.{divides_lcm_more, divides_lcm_whole, divides_lcm_not, lcm_read}
use Rattle.mk_move.proofs.chain.divides_lcm.Goals as goal
use Rattle.mk_move.proofs.chain.divides_lcm.Goals.{After-lcm_entry}

-- the entry of the lead and that of the least common multiple, as the code has them
lead_is : (c : After-lcm_entry) → as_entry (get_or c.args.lead.now c.loop-column.column (pos 0)) ≡ get_or c.args.lead.now c.loop-column.column (pos 0)
lead_is c = entry_read (get_or c.args.lead.now c.loop-column.column (pos 0)) (c.requires.lead c.loop-column.column (pos 0) (omega arith))

lcm_is : (c : After-lcm_entry) → as_entry c.lcm_entry.result ≡ lcm_on (get_or c.args.a.now c.loop-column.column (pos 0)) (get_or c.args.b.now c.loop-column.column (pos 0))
lcm_is c =
    lcm_read (get_or c.args.a.now c.loop-column.column (pos 0)) (get_or c.args.b.now c.loop-column.column (pos 0)) c.lcm_entry.result
    (c.requires.of_first c.loop-column.column (pos 0) (omega arith)) (c.requires.of_second c.loop-column.column (pos 0) (omega arith)) c.lcm_entry.ensures

pub loop-column-preserved : goal.loop-column-preserved
loop-column-preserved c =
    let at = (goal.at.loop-column-preserved c).After-lcm_entry in
    divides_lcm_more c.args.lead.now c.args.a.now c.args.b.now c.loop-column.column c.loop-column.invariant (not_less _ _ _ _ (lcm_is at) (lead_is at) c.if-entry-lcm_entry.false)

pub returns-then-entry-lcm_entry : goal.returns-then-entry-lcm_entry
returns-then-entry-lcm_entry c =
    let at = (goal.at.returns-then-entry-lcm_entry c).After-lcm_entry in
    ((λ h. search rules), (λ d. absurd (divides_lcm_not c.args.lead.now c.args.a.now c.args.b.now c.loop-column.column (less _ _ _ _ (lcm_is at) (lead_is at) c.if-entry-lcm_entry.true) d)))

pub returns : goal.returns
returns c =
    let whole = divides_lcm_whole c.args.lead.now c.args.a.now c.args.b.now c.loop-column.column (omega arith) c.loop-column.invariant in
    ((λ _. whole), (λ _. search rules))
