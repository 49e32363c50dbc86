use Rattle.std.proofs.Common.{◌≡◌, ◌<◌, length, pos, get_or, arith, rules}
use Rattle.mk_model.specs.Vectors.{positive_part}
use Rattle.mk_model.specs.Reductions.{lcm}
use Rattle.mk_move.specs.Chains.{lcm_on}
use Rattle.mk_move.proofs.Readings.{less, not_less}
use Rattle.mk_move.proofs.Entries.{as_entry, entry_read}
use Rattle.mk_move.proofs.Chains.{divides_lcm_here, divides_lcm_not, lcm_nonnegative, lcm_read}
use Rattle.mk_move.proofs.BitWalks.{ahead_first, ahead_more, ahead_inside, within_first, within_more, within_whole}
use Rattle.mk_move.proofs.chain.divides_lcm_at.Goals as goal
use Rattle.mk_move.proofs.chain.divides_lcm_at.Goals.{After-lcm_entry}

pub loop-left-init : goal.loop-left-init
loop-left-init c = (
  ahead_first c.args.lead.now c.args.mask c.requires.few c.requires.mask,
  within_first c.args.lead.now c.args.mask c.requires.few c.requires.mask (lcm (positive_part c.args.a.now) (positive_part c.args.b.now)) (lcm_nonnegative c.args.a.now c.args.b.now),
)

inside : (c : After-lcm_entry) → c.first_bit-column.result.0 < length c.args.lead.now
inside c = ahead_inside c.args.lead.now c.first_bit-column.result.0 (c.loop-left.invariant.0 c.first_bit-column.result.0 c.first_bit-column.ensures.range c.first_bit-column.ensures.set)

-- the entry of the lead and that of the least common multiple, as the code has them
lead_is : (c : After-lcm_entry) → as_entry (get_or c.args.lead.now c.first_bit-column.result.0 (pos 0)) ≡ get_or c.args.lead.now c.first_bit-column.result.0 (pos 0)
lead_is c = entry_read (get_or c.args.lead.now c.first_bit-column.result.0 (pos 0)) (c.requires.lead c.first_bit-column.result.0 (pos 0) (inside c))

lcm_is : (c : After-lcm_entry) → as_entry c.lcm_entry.result ≡ lcm_on (get_or c.args.a.now c.first_bit-column.result.0 (pos 0)) (get_or c.args.b.now c.first_bit-column.result.0 (pos 0))
lcm_is c =
    lcm_read (get_or c.args.a.now c.first_bit-column.result.0 (pos 0)) (get_or c.args.b.now c.first_bit-column.result.0 (pos 0)) c.lcm_entry.result
    (c.requires.of_first c.first_bit-column.result.0 (pos 0) (omega (arith, inside c, c.requires.first))) (c.requires.of_second c.first_bit-column.result.0 (pos 0) (omega (arith, inside c, c.requires.second))) c.lcm_entry.ensures

pub returns-then-lead-place : goal.returns-then-lead-place
returns-then-lead-place c =
    let at = (goal.at.returns-then-lead-place c).After-lcm_entry in
    ((λ h. search rules), (λ d. absurd (divides_lcm_not c.args.lead.now c.args.a.now c.args.b.now c.first_bit-column.result.0 (less _ _ _ _ (lcm_is at) (lead_is at) c.if-lead-place.true) d)))

pub loop-left-preserved : goal.loop-left-preserved
loop-left-preserved c =
    let at = (goal.at.loop-left-preserved c).After-lcm_entry in
    let bits = c.first_bit-column.ensures in (
      ahead_more c.loop-left.left c.first_bit-column.result.1 c.first_bit-column.result.0 bits.cleared bits.others c.args.lead.now c.loop-left.invariant.0,
      within_more c.loop-left.left c.first_bit-column.result.1 c.first_bit-column.result.0 bits.cleared bits.others c.args.lead.now (lcm (positive_part c.args.a.now) (positive_part c.args.b.now)) c.loop-left.invariant.1
          (divides_lcm_here c.args.lead.now c.args.a.now c.args.b.now c.first_bit-column.result.0 (not_less _ _ _ _ (lcm_is at) (lead_is at) c.if-lead-place.false)),
    )

pub returns : goal.returns
returns c =
    let whole = within_whole c.args.lead.now (lcm (positive_part c.args.a.now) (positive_part c.args.b.now)) c.loop-left.left c.requires.few (lcm_nonnegative c.args.a.now c.args.b.now) c.loop-left-test.false c.loop-left.invariant.1 in
    ((λ _. whole), (λ _. search rules))
