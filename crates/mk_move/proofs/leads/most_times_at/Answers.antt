use Rattle.std.proofs.Common.{◌≡◌, ◌/◌, ◌<◌, inl, inr, length, pos, get_or, arith, rules, refl, sym, ◌∙◌, ap, subst, ℤ, ◌<ℤ◌, ◌≤ℤ◌}
use mir.Val.{to_z, SFits}
use borrow.Author.Differences.{up}
use Rattle.std.specs.Int.{int_min}
use Rattle.std.proofs.Math.Nat.{div-le_self}
use Rattle.std.proofs.lemmas.Int.{ints, to_z-of_z}
use Rattle.mk_model.specs.Vectors.{IsEntry}
use Rattle.mk_move.specs.Sides.{entry_on}
use Rattle.mk_move.proofs.Entries.{as_entry, entry_width, entry_read, fits_entry}
use Rattle.mk_move.proofs.Readings.{not_less, part_read}
use Rattle.mk_move.proofs.Divisions.{IsTimesOver, times_fewer, natural, lead_at, entry_on_nonnegative, entry_on_most, entry_on_range}
use Rattle.mk_move.proofs.BitWalks.{IsDone, ahead_first, ahead_more, ahead_inside, done_more, times_over_first, times_over_whole}
use Rattle.mk_move.proofs.leads.most_times_at.Goals as goal
use Rattle.mk_move.proofs.leads.most_times_at.Goals.{After-entry_of-part}

pub loop-left-init : goal.loop-left-init
loop-left-init c = (
  ahead_first c.args.lead.now c.args.mask c.requires.few c.requires.mask,
  times_over_first c.args.lead.now c.args.row.now c.args.side c.args.mask c.requires.few c.requires.mask c.requires.entries c.requires.not_zero,
)

-- the entry of the lead and that of the part, as the code has them
module _ (c : After-entry_of-part) where
  abbrev lead : ℤ
  lead = get_or c.args.lead.now c.first_bit-column.result.0 (pos 0)

  abbrev part : ℤ
  part = entry_on c.args.side (get_or c.args.row.now c.first_bit-column.result.0 (pos 0))

  positive : pos 0 <ℤ lead
  positive = c.loop-left.invariant.0 c.first_bit-column.result.0 c.first_bit-column.ensures.range c.first_bit-column.ensures.set

  inside : c.first_bit-column.result.0 < length c.args.lead.now
  inside = ahead_inside c.args.lead.now c.first_bit-column.result.0 positive

  range : IsEntry (get_or c.args.row.now c.first_bit-column.result.0 (pos 0))
  range = c.requires.entries c.first_bit-column.result.0 (pos 0) (omega (arith, inside, c.requires.columns))

  lead_nat : lead ≡ pos (up lead)
  lead_nat = natural lead (omega (arith, ints, positive))

  part_nat : part ≡ pos (up part)
  part_nat = natural part (entry_on_nonnegative c.args.side (get_or c.args.row.now c.first_bit-column.result.0 (pos 0)))

  lead_is : as_entry lead ≡ lead
  lead_is = entry_read lead (c.requires.lead c.first_bit-column.result.0 (pos 0) inside)

  part_is : as_entry c.entry_of-part.result ≡ part
  part_is = part_read c.args.side (get_or c.args.row.now c.first_bit-column.result.0 (pos 0)) c.entry_of-part.result range c.entry_of-part.ensures

  within : lead ≤ℤ part
  within = omega (arith, ints, lead_nat, part_nat, lead_at c.args.lead.now c.args.row.now c.args.side c.first_bit-column.result.0 c.requires.divides)

pub quotient-requires-clause-no_greater : goal.quotient-requires-clause-no_greater
quotient-requires-clause-no_greater c = rw (lead_is at, part_is at) (within at)
  where
    at : After-entry_of-part
    at = (goal.at.quotient-requires-clause-no_greater c).After-entry_of-part

pub quotient-requires-clause-range : goal.quotient-requires-clause-range
quotient-requires-clause-range c =
    let at = (goal.at.quotient-requires-clause-range c).After-entry_of-part in
    subst IsEntry (sym (part_is at)) (entry_on_range c.args.side (get_or c.args.row.now c.first_bit-column.result.0 (pos 0)) (range at))

pub loop-left-preserved : goal.loop-left-preserved
loop-left-preserved c =
    let at = (goal.at.loop-left-preserved c).After-entry_of-part in
    let bits = c.first_bit-column.ensures in
    let times = to_z entry_width c.loop-left.times-bits in
    let a = up (part at) in
    let b = up (lead at) in
    let quotient_is : c.quotient.result ≡ pos (a / b) = c.quotient.ensures a b (part_is at ∙ part_nat at) (lead_is at ∙ lead_nat at) in
    let quotient_fits : SFits entry_width (pos (a / b)) = fits_entry (pos (a / b)) (omega (arith, div-le_self a b, entry_on_most c.args.side (get_or c.args.row.now c.first_bit-column.result.0 (pos 0)) (range at))) in
    let fits : SFits entry_width c.min-times.result = search rules in (
      ahead_more c.loop-left.left c.first_bit-column.result.1 c.first_bit-column.result.0 bits.cleared bits.others c.args.lead.now c.loop-left.invariant.0,
      subst (IsTimesOver c.args.lead.now c.args.row.now c.args.side (IsDone c.first_bit-column.result.1))
          (sym (to_z-of_z entry_width c.min-times.result fits ∙ c.min-times.ensures.value ∙ ap (int_min times) (ap as_entry quotient_is ∙ to_z-of_z entry_width (pos (a / b)) quotient_fits)))
          (times_fewer c.args.lead.now c.args.row.now c.args.side (IsDone c.loop-left.left) (IsDone c.first_bit-column.result.1) c.first_bit-column.result.0 times a b
          (done_more c.loop-left.left c.first_bit-column.result.1 c.first_bit-column.result.0 bits.cleared bits.others) (lead_nat at) (omega (arith, ints, positive at)) (part_nat at) c.requires.divides c.loop-left.invariant.1),
    )

pub returns-else-times-gt1-clause-most : goal.returns-else-times-gt1-clause-most
returns-else-times-gt1-clause-most c =
    times_over_whole c.args.lead.now c.args.row.now c.args.side c.loop-left.left (to_z entry_width c.loop-left.times-bits) c.requires.few c.requires.divides
    (inr (not_less (pos 1) _ _ _ refl refl c.if-times-gt1.false)) c.loop-left.invariant.1

pub returns-after-loop-left-clause-most : goal.returns-after-loop-left-clause-most
returns-after-loop-left-clause-most c =
    times_over_whole c.args.lead.now c.args.row.now c.args.side c.loop-left.left (to_z entry_width c.loop-left.times-bits) c.requires.few c.requires.divides
    (inl c.loop-left-test.false) c.loop-left.invariant.1
