use Rattle.std.proofs.Common.{◌≡◌, ◌<◌, length, arith, rules, ap, sym, ◌∙◌, subst, ℤ, pos, ◌-ℤ◌, ◌*ℤ◌}
use mir.Syntax.{w128}
use mir.Val.{SFits, to_z, of_z}
use Rattle.std.proofs.lemmas.Int.{to_z-of_z}
use Rattle.mk_model.specs.Vectors.{entry}
use Rattle.mk_move.proofs.Entries.{as_entry, entry_read}
use Rattle.mk_move.proofs.Multiples.{IsMultipleSoFar, multiple_goes_on, multiple_whole, nothing_left}
use Rattle.mk_move.proofs.in_place.is_multiple_each.Goals as goal
use Rattle.mk_move.proofs.in_place.is_multiple_each.Goals.{After-wide_less}

-- the number that is compared with 0
number : (c : After-wide_less) → c.wide_less.result ≡ entry c.args.row.now c.first_bit-column.result.0 -ℤ (c.args.times *ℤ entry c.args.right.now c.first_bit-column.result.0)
number c =
    let n = c.first_bit-column.result.0 in
    let x = c.args.row.now in
    let y = c.args.right.now in
    let within : n < length y = c.loop-left.invariant.within n c.first_bit-column.ensures.set in
    let left_read : as_entry (entry x n) ≡ entry x n = entry_read (entry x n) (c.requires.left n (pos 0) (omega (arith, within, c.requires.columns))) in
    let right_read : as_entry (entry y n) ≡ entry y n = entry_read (entry y n) (c.requires.right n (pos 0) within) in
    c.wide_less.ensures ∙ ap (λ z. z -ℤ (as_entry c.args.times *ℤ as_entry (entry y n))) left_read
    ∙ ap (λ z. entry x n -ℤ (z *ℤ as_entry (entry y n))) (to_z-of_z w128 c.args.times c.ranges.times)
    ∙ ap (λ z. entry x n -ℤ (c.args.times *ℤ z)) right_read

pub returns-then-wide_less-ne0 : goal.returns-then-wide_less-ne0
returns-then-wide_less-ne0 c =
    let is = number (goal.at.returns-then-wide_less-ne0 c).After-wide_less in (
      (λ t. absurd (search rules)),
      (λ e. absurd (c.if-wide_less-ne0.true (ap (of_z w128) (is ∙ nothing_left c.args.row.now c.args.right.now c.args.times e c.first_bit-column.result.0)))),
    )

pub loop-left-preserved : goal.loop-left-preserved
loop-left-preserved c =
    let x = c.args.row.now in
    let y = c.args.right.now in
    let n = c.first_bit-column.result.0 in
    let is = number (goal.at.loop-left-preserved c).After-wide_less in
    let fits : SFits w128 c.wide_less.result = search rules in
    let none : c.wide_less.result ≡ pos 0 = sym (to_z-of_z w128 c.wide_less.result fits) ∙ ap (to_z w128) c.if-wide_less-ne0.false in
    let here : entry x n -ℤ (as_entry c.args.times *ℤ entry y n) ≡ pos 0 = ap (λ z. entry x n -ℤ (z *ℤ entry y n)) (to_z-of_z w128 c.args.times c.ranges.times) ∙ sym is ∙ none in
    multiple_goes_on x y (as_entry c.args.times) c.loop-left.left c.first_bit-column.result.1 n
    c.first_bit-column.ensures.fewer c.first_bit-column.ensures.cleared c.first_bit-column.ensures.others c.loop-left.invariant here

pub returns : goal.returns
returns c =
    let times : as_entry c.args.times ≡ c.args.times = to_z-of_z w128 c.args.times c.ranges.times in
    let so_far = subst (λ (z : ℤ). IsMultipleSoFar c.args.row.now c.args.right.now z c.loop-left.left) times c.loop-left.invariant in
    ((λ _. multiple_whole c.args.row.now c.args.right.now c.args.times c.loop-left.left c.requires.columns c.loop-left-test.false so_far), (λ _. search rules))
