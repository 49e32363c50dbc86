use Rattle.std.proofs.Common.{◌≡◌, ◌<◌, ◌+◌, ◌||◌, not, nat_eq, length, ℤ, pos, arith, sym, subst, ◌∙◌, ◌-ℤ◌, ◌*ℤ◌}
use mir.Syntax.{w128}
use mir.Val.{of_z}
use Rattle.mk_model.specs.Vectors.{entry, IsEntry}
use Rattle.mk_model.specs.Overflows.{IsBeyond}
use Rattle.mk_move.specs.Steps.{GivesEntry}
use Rattle.mk_move.proofs.Entries.{as_entry, entry_read}
use Rattle.mk_move.proofs.Readings.{less_read}
use Rattle.mk_move.proofs.Takings.{IsLeaving, leaving_goes_on, leaves_some_of, isnt_zero, is_zero}
use Rattle.mk_move.proofs.in_place.leaves_some.Goals as goal
use Rattle.mk_move.proofs.in_place.leaves_some.Goals.{In-loop-column}

within : (c : In-loop-column) → c.loop-column.column < length c.args.left.now
within c = omega (arith, c.loop-column-test.true, c.columns_formed-end.ensures.within, c.requires.columns)

-- the number at the column
number : (c : In-loop-column) → as_entry (entry c.args.left.now c.loop-column.column) -ℤ (as_entry c.args.times *ℤ as_entry (entry c.args.right.now c.loop-column.column)) ≡ entry c.args.left.now c.loop-column.column -ℤ (c.args.times *ℤ entry c.args.right.now c.loop-column.column)
number c =
    let n = c.loop-column.column in
    less_read (entry c.args.left.now n) c.args.times (entry c.args.right.now n) (c.requires.left n (pos 0) (within c)) c.requires.times (c.requires.right n (pos 0) (omega (arith, within c, c.requires.columns)))

so_far : (c : In-loop-column) → IsLeaving c.args.left.now c.args.right.now c.args.times c.loop-column.column c.loop-column.some
so_far c = subst (λ (z : ℤ). IsLeaving c.args.left.now c.args.right.now z c.loop-column.column c.loop-column.some) (entry_read c.args.times c.requires.times) c.loop-column.invariant

pub returns-in_default : goal.returns-in_default
returns-in_default c =
    let n = c.loop-column.column in
    let at = (goal.at.returns-in_default c).In-loop-column in
    record {
      within = within at;
      left = entry_read (entry c.args.left.now n) (c.requires.left n (pos 0) (within at));
      times = entry_read c.args.times c.requires.times;
      right = entry_read (entry c.args.right.now n) (c.requires.right n (pos 0) (omega (arith, within at, c.requires.columns)));
      beyond = subst IsBeyond (number at) c.in_default.ensures;
      lesser = (so_far at).range;
    }

pub loop-column-preserved : goal.loop-column-preserved
loop-column-preserved c =
    let n = c.loop-column.column in
    let x = c.args.left.now in
    let y = c.args.right.now in
    let at = (goal.at.loop-column-preserved c).In-loop-column in
    let given : GivesEntry (entry x n -ℤ (c.args.times *ℤ entry y n)) c.in-Some.value = subst (λ (z : ℤ). GivesEntry z c.in-Some.value) (number at) c.in-Some.ensures in
    let range : IsEntry (entry x n -ℤ (c.args.times *ℤ entry y n)) = subst IsEntry given.same given.range in
    subst (λ (z : ℤ). IsLeaving x y z (n + 1) (c.loop-column.some || not (nat_eq (of_z w128 c.in-Some.value) 0))) (sym (entry_read c.args.times c.requires.times))
    (leaving_goes_on x y c.args.times n c.loop-column.some (not (nat_eq (of_z w128 c.in-Some.value) 0)) (so_far at) range
    (λ t e. isnt_zero c.in-Some.value t (given.same ∙ e)) (λ e. sym given.same ∙ is_zero c.in-Some.value given.range e))

pub returns-then-end-left : goal.returns-then-end-left
returns-then-end-left c =
    let n = c.columns_formed-end.result in
    let x = c.args.left.now in
    let y = c.args.right.now in
    let times = c.args.times in
    let so_far : IsLeaving x y times c.loop-column.column c.loop-column.some = subst (λ (z : ℤ). IsLeaving x y z c.loop-column.column c.loop-column.some) (entry_read times c.requires.times) c.loop-column.invariant in
    let within : n < length x = c.if-end-left.true in
    record {
      within = within;
      left = entry_read (entry x n) (c.requires.left n (pos 0) within);
      times = entry_read times c.requires.times;
      right = entry_read (entry y n) (c.requires.right n (pos 0) (omega (arith, within, c.requires.columns)));
      beyond = subst (λ (z : ℤ). IsBeyond (entry x n -ℤ (z *ℤ entry y n))) (entry_read times c.requires.times)
          (c.columns_formed-end.ensures.beyond (omega (arith, within, c.requires.columns)) (entry x n) (c.requires.left n (pos 0) within));
      lesser = λ k l. so_far.range k (omega (arith, l, c.loop-column-test.false));
    }

pub returns : goal.returns
returns c =
    let x = c.args.left.now in
    let y = c.args.right.now in
    let so_far : IsLeaving x y c.args.times c.loop-column.column c.loop-column.some = subst (λ (z : ℤ). IsLeaving x y z c.loop-column.column c.loop-column.some) (entry_read c.args.times c.requires.times) c.loop-column.invariant in
    leaves_some_of x y c.args.times c.loop-column.column c.loop-column.some c.requires.columns (omega (arith, c.loop-column-test.false, c.if-end-left.false)) so_far
