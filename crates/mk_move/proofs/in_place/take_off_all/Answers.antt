use Rattle.std.proofs.Common.{◌≡◌, ◌&&◌, arith, rules, ap, ◌∙◌, pos, ◌-ℤ◌, ◌*ℤ◌}
use mir.Syntax.{w128}
use mir.Val.{SFits}
use Rattle.std.proofs.lemmas.Int.{to_z-of_z}
use Rattle.mk_model.specs.Vectors.{entry}
use Rattle.mk_move.specs.InPlace.{IsWide}
use Rattle.mk_move.specs.Steps.{minus_times}
use Rattle.mk_move.proofs.Entries.{as_entry, entry_read}
use Rattle.mk_move.proofs.Takings.{column_goes_on, columns_entries, columns_range, wide_fits, both}
use Rattle.mk_move.proofs.in_place.take_off_all.Goals as goal

pub loop-column-preserved : goal.loop-column-preserved
loop-column-preserved c =
    let n = c.loop-column.column in
    let x = c.args.row.now in
    let y = c.args.right.now in
    let fits : SFits w128 c.wide_less-value.result = search rules in
    let value_read : as_entry c.wide_less-value.result ≡ c.wide_less-value.result = to_z-of_z w128 c.wide_less-value.result fits in
    let wide : IsWide (entry x n) = c.requires.left n (pos 0) (omega (arith, c.loop-column-test.true)) in
    let left_read : as_entry (entry c.loop-column.row n) ≡ entry x n = ap (λ z. as_entry z) (c.loop-column.invariant.waiting n (omega arith)) ∙ to_z-of_z w128 (entry x n) (wide_fits (entry x n) wide) in
    let right_read : as_entry (entry y n) ≡ entry y n = entry_read (entry y n) (c.requires.right n (pos 0) (omega (arith, c.loop-column-test.true, c.requires.columns))) in
    let value : as_entry c.wide_less-value.result ≡ entry x n -ℤ (as_entry c.args.times *ℤ entry y n) =
    value_read ∙ c.wide_less-value.ensures ∙ ap (λ z. z -ℤ (as_entry c.args.times *ℤ as_entry (entry y n))) left_read ∙ ap (λ z. entry x n -ℤ (as_entry c.args.times *ℤ z)) right_read in
    column_goes_on x y (as_entry c.args.times) n c.loop-column.row c.loop-column.in_range (c.loop-column.in_range && c.is_entry-in_range.result) (as_entry c.wide_less-value.result)
    (omega (arith, c.loop-column-test.true)) c.loop-column.invariant value
    (λ t. let (before, here) = both c.loop-column.in_range c.is_entry-in_range.result t in (before, c.is_entry-in_range.ensures.0 here))

pub returns-clause-entries : goal.returns-clause-entries
returns-clause-entries c =
    columns_entries c.args.row.now c.args.right.now (as_entry c.args.times) c.loop-column.column c.loop-column.row c.loop-column.in_range c.requires.columns (omega (arith, c.loop-column-test.false, c.loop-column.invariant.columns)) c.loop-column.invariant
    ∙ ap (λ z. minus_times c.args.row.now z c.args.right.now) (to_z-of_z w128 c.args.times c.ranges.times)

pub returns-clause-range : goal.returns-clause-range
returns-clause-range c =
    columns_range c.args.row.now c.args.right.now (as_entry c.args.times) c.loop-column.column c.loop-column.row c.loop-column.in_range (omega (arith, c.loop-column-test.false, c.loop-column.invariant.columns)) c.loop-column.invariant
