use Rattle.std.proofs.Common.{◌≡◌, ◌<◌, length, pos, get_or, arith, rules}
use Rattle.mk_move.specs.Sides.{part_of, entry_on}
use Rattle.mk_move.proofs.Entries.{as_entry, entry_read}
use Rattle.mk_move.proofs.Readings.{less, not_less, part_read}
use Rattle.mk_move.proofs.Divisions.{divides_here, divides_not, part_of_nonnegative}
use Rattle.mk_move.proofs.BitWalks.{ahead_first, ahead_more, ahead_inside, within_first, within_more, within_whole}
use Rattle.mk_move.proofs.leads.divides_part_at.Goals as goal
use Rattle.mk_move.proofs.leads.divides_part_at.Goals.{After-entry_of}

pub loop-left-init : goal.loop-left-init
loop-left-init c = (
  ahead_first c.args.lead.now c.args.mask c.requires.few c.requires.mask,
  within_first c.args.lead.now c.args.mask c.requires.few c.requires.mask (part_of c.args.side c.args.row.now) (part_of_nonnegative c.args.side c.args.row.now),
)

inside : (c : After-entry_of) → c.first_bit-column.result.0 < length c.args.lead.now
inside c = ahead_inside c.args.lead.now c.first_bit-column.result.0 (c.loop-left.invariant.0 c.first_bit-column.result.0 c.first_bit-column.ensures.range c.first_bit-column.ensures.set)

-- the entry of the lead and that of the part, as the code has them
lead_is : (c : After-entry_of) → as_entry (get_or c.args.lead.now c.first_bit-column.result.0 (pos 0)) ≡ get_or c.args.lead.now c.first_bit-column.result.0 (pos 0)
lead_is c = entry_read (get_or c.args.lead.now c.first_bit-column.result.0 (pos 0)) (c.requires.lead c.first_bit-column.result.0 (pos 0) (inside c))

part_is : (c : After-entry_of) → as_entry c.entry_of.result ≡ entry_on c.args.side (get_or c.args.row.now c.first_bit-column.result.0 (pos 0))
part_is c =
    part_read c.args.side (get_or c.args.row.now c.first_bit-column.result.0 (pos 0)) c.entry_of.result (c.requires.entries c.first_bit-column.result.0 (pos 0) (omega (arith, inside c, c.requires.columns))) c.entry_of.ensures

pub returns-then-lead-column : goal.returns-then-lead-column
returns-then-lead-column c =
    let at = (goal.at.returns-then-lead-column c).After-entry_of in
    ((λ h. search rules), (λ d. absurd (divides_not c.args.lead.now c.args.row.now c.args.side c.first_bit-column.result.0 (less _ _ _ _ (part_is at) (lead_is at) c.if-lead-column.true) d)))

pub loop-left-preserved : goal.loop-left-preserved
loop-left-preserved c =
    let at = (goal.at.loop-left-preserved c).After-entry_of in
    let bits = c.first_bit-column.ensures in (
      ahead_more c.loop-left.left c.first_bit-column.result.1 c.first_bit-column.result.0 bits.cleared bits.others c.args.lead.now c.loop-left.invariant.0,
      within_more c.loop-left.left c.first_bit-column.result.1 c.first_bit-column.result.0 bits.cleared bits.others c.args.lead.now (part_of c.args.side c.args.row.now) c.loop-left.invariant.1
          (divides_here c.args.lead.now c.args.row.now c.args.side c.first_bit-column.result.0 (not_less _ _ _ _ (part_is at) (lead_is at) c.if-lead-column.false)),
    )

pub returns : goal.returns
returns c =
    let whole = within_whole c.args.lead.now (part_of c.args.side c.args.row.now) c.loop-left.left c.requires.few (part_of_nonnegative c.args.side c.args.row.now) c.loop-left-test.false c.loop-left.invariant.1 in
    ((λ _. whole), (λ _. search rules))
