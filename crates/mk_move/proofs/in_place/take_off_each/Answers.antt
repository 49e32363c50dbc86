use Rattle.std.proofs.Common.{◌≡◌, ◌<◌, length, arith, rules, ap, ◌∙◌, subst, ℕ, pos, ◌-ℤ◌, ◌*ℤ◌}
use mir.Syntax.{w128}
use mir.Val.{SFits}
use Rattle.std.proofs.lemmas.Int.{to_z-of_z}
use Rattle.mk_model.specs.Vectors.{entry}
use Rattle.mk_move.specs.InPlace.{IsWide}
use Rattle.mk_move.specs.Steps.{minus_times}
use Rattle.mk_move.proofs.Entries.{as_entry, entry_read}
use Rattle.mk_move.proofs.Takings.{IsTaking, taking_begins, taking_goes_on, taken_entries, taken_range, masks_by_bits, wide_fits}
use Rattle.mk_move.proofs.in_place.take_off_each.Goals as goal
use Rattle.mk_move.proofs.in_place.take_off_each.Goals.{After-first_bit-column}

pub loop-left-init : goal.loop-left-init
loop-left-init c = taking_begins c.args.row.now c.args.right.now (as_entry c.args.times) c.args.bits c.args.plus c.args.minus c.requires.few c.ranges.bits.fits c.requires.bits c.requires.masks

-- the column of the bit, and its entry, which is as it was
column_within : (c : After-first_bit-column) → c.first_bit-column.result.0 < length c.args.right.now
column_within c = c.loop-left.invariant.within c.first_bit-column.result.0 c.first_bit-column.ensures.set

entry_is : (c : After-first_bit-column) → entry c.loop-left.row c.first_bit-column.result.0 ≡ entry c.args.row.now c.first_bit-column.result.0
entry_is c = c.loop-left.invariant.waiting c.first_bit-column.result.0 c.first_bit-column.ensures.set

wide : (c : After-first_bit-column) → IsWide (entry c.args.row.now c.first_bit-column.result.0)
wide c = c.requires.left c.first_bit-column.result.0 (pos 0) (omega (arith, column_within c, c.requires.columns))

pub loop-left-preserved : goal.loop-left-preserved
loop-left-preserved c =
    let at = (goal.at.loop-left-preserved c).After-first_bit-column in
    let n = c.first_bit-column.result.0 in
    let x = c.args.row.now in
    let y = c.args.right.now in
    let fits : SFits w128 c.wide_less-value.result = search rules in
    let value_read : as_entry c.wide_less-value.result ≡ c.wide_less-value.result = to_z-of_z w128 c.wide_less-value.result fits in
    let left_read : as_entry (entry c.loop-left.row n) ≡ entry x n = ap (λ z. as_entry z) (entry_is at) ∙ to_z-of_z w128 (entry x n) (wide_fits (entry x n) (wide at)) in
    let right_read : as_entry (entry y n) ≡ entry y n = entry_read (entry y n) (c.requires.right n (pos 0) (column_within at)) in
    let value : as_entry c.wide_less-value.result ≡ entry x n -ℤ (as_entry c.args.times *ℤ entry y n) =
    value_read ∙ c.wide_less-value.ensures ∙ ap (λ z. z -ℤ (as_entry c.args.times *ℤ as_entry (entry y n))) left_read ∙ ap (λ z. entry x n -ℤ (as_entry c.args.times *ℤ z)) right_read in
    taking_goes_on x y (as_entry c.args.times) c.loop-left.left c.first_bit-column.result.1 n c.loop-left.row c.loop-left.taken c.with_entry-taken.result (as_entry c.wide_less-value.result)
    c.first_bit-column.ensures.fewer c.first_bit-column.ensures.set c.first_bit-column.ensures.cleared c.first_bit-column.ensures.others
    c.loop-left.invariant c.requires.columns c.with_entry-taken.ensures value

pub returns-clause-entries : goal.returns-clause-entries
returns-clause-entries c =
    let x = c.args.row.now in
    let y = c.args.right.now in
    let none : IsTaking x y (as_entry c.args.times) 0 c.loop-left.row c.loop-left.taken = subst (λ (n : ℕ). IsTaking x y (as_entry c.args.times) n c.loop-left.row c.loop-left.taken) c.loop-left-test.false c.loop-left.invariant in
    taken_entries x y (as_entry c.args.times) c.loop-left.row c.loop-left.taken c.requires.columns none
    ∙ ap (λ z. minus_times x z y) (to_z-of_z w128 c.args.times c.ranges.times)

pub returns-clause-masks : goal.returns-clause-masks
returns-clause-masks c = masks_by_bits c.loop-left.row c.loop-left.taken.plus c.loop-left.taken.minus (omega (arith, c.loop-left.invariant.columns)) c.loop-left.invariant.masks

pub returns-clause-range : goal.returns-clause-range
returns-clause-range c =
    taken_range c.args.row.now c.args.right.now (as_entry c.args.times) c.loop-left.left c.loop-left.row c.loop-left.taken c.loop-left.invariant
