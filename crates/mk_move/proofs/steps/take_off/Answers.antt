use Rattle.std.proofs.Common.{◌≡◌, ◌<◌, ◌≤◌, ◌*◌, ◌^◌, length, unsigned_abs, ◌+◌, ℤ, pos, arith, sym, ap, subst, ◌∙◌, ◌-ℤ◌, ◌*ℤ◌, set}
use Rattle.mk_model.specs.Vectors.{entry}
use Rattle.mk_model.specs.Overflows.{IsBeyond}
use Rattle.mk_move.specs.Steps.{GivesEntry}
use Rattle.mk_move.proofs.Entries.{as_entry, entry_read}
use Rattle.mk_move.proofs.Readings.{less_read}
use Rattle.mk_move.proofs.Differences.{IsTakenOff, one_taken, all_taken, taken_lesser}
use Rattle.mk_move.proofs.steps.take_off.Goals as goal
use Rattle.mk_move.proofs.steps.take_off.Goals.{In-loop-column}

-- so far, by the factor itself
so_far : (c : In-loop-column) → IsTakenOff c.args.row.now c.args.right.now c.args.times c.loop-column.column c.loop-column.row
so_far c =
    subst (λ (z : ℤ). IsTakenOff c.args.row.now c.args.right.now z c.loop-column.column c.loop-column.row) (entry_read c.args.times c.requires.times) c.loop-column.invariant

-- the entry of the column is as it was
entry_is : (c : In-loop-column) → entry c.loop-column.row c.loop-column.column ≡ entry c.args.row.now c.loop-column.column
entry_is c = c.loop-column.invariant.left c.loop-column.column (omega arith)

-- the number at the column
number : (c : In-loop-column) → as_entry (entry c.loop-column.row c.loop-column.column) -ℤ (as_entry c.args.times *ℤ as_entry (entry c.args.right.now c.loop-column.column)) ≡ entry c.args.row.now c.loop-column.column -ℤ (c.args.times *ℤ entry c.args.right.now c.loop-column.column)
number c =
    let n = c.loop-column.column in
    ap (λ (a : ℤ). as_entry a -ℤ (as_entry c.args.times *ℤ as_entry (entry c.args.right.now n))) (entry_is c)
    ∙ less_read (entry c.args.row.now n) c.args.times (entry c.args.right.now n) (c.requires.left n (pos 0) (omega arith)) c.requires.times (c.requires.right n (pos 0) (omega arith))

pub returns-in_default-clause-refused : goal.returns-in_default-clause-refused
returns-in_default-clause-refused c =
    let n = c.loop-column.column in
    let at = (goal.at.returns-in_default-clause-refused c).In-loop-column in
    record {
      within = omega (arith, c.loop-column-test.true, c.columns_formed-end.ensures.within);
      left = ap (λ (a : ℤ). as_entry a) (entry_is at) ∙ entry_read (entry c.args.row.now n) (c.requires.left n (pos 0) (omega arith));
      times = entry_read c.args.times c.requires.times;
      right = entry_read (entry c.args.right.now n) (c.requires.right n (pos 0) (omega arith));
      beyond = subst IsBeyond (number at) c.in_default.ensures;
      lesser = taken_lesser c.args.row.now c.args.right.now c.args.times n c.loop-column.row (so_far at);
    }

pub loop-column-preserved : goal.loop-column-preserved
loop-column-preserved c =
    let n = c.loop-column.column in
    let at = (goal.at.loop-column-preserved c).In-loop-column in
    let given : GivesEntry (entry c.args.row.now n -ℤ (c.args.times *ℤ entry c.args.right.now n)) c.in-Some.value = subst (λ (z : ℤ). GivesEntry z c.in-Some.value) (number at) c.in-Some.ensures in
    subst (λ (z : ℤ). IsTakenOff c.args.row.now c.args.right.now z (n + 1) (set c.loop-column.row n (as_entry c.in-Some.value))) (sym (entry_read c.args.times c.requires.times))
    (subst (λ (z : ℤ). IsTakenOff c.args.row.now c.args.right.now c.args.times (n + 1) (set c.loop-column.row n z)) (sym (entry_read c.in-Some.value given.range))
    (one_taken c.args.row.now c.args.right.now c.args.times n c.loop-column.row c.in-Some.value (omega (arith, (so_far at).columns)) (so_far at) given))

pub entry_less-requires-clause-fits : goal.entry_less-requires-clause-fits
entry_less-requires-clause-fits c =
    let n = c.loop-column.column in
    subst (λ (z : ℤ). unsigned_abs (as_entry c.args.times) * unsigned_abs z ≤ 2 ^ 126)
    (sym (entry_read (entry c.args.right.now n) (c.requires.right n (pos 0) (omega (arith, c.loop-column-test.true, c.columns_formed-end.ensures.within)))))
    (c.columns_formed-end.ensures.fits n c.loop-column-test.true)

pub returns-then-end-row-clause-refused : goal.returns-then-end-row-clause-refused
returns-then-end-row-clause-refused c =
    let n = c.columns_formed-end.result in
    let x = c.args.row.now in
    let y = c.args.right.now in
    let times = c.args.times in
    let so_far : IsTakenOff x y times c.loop-column.column c.loop-column.row = subst (λ (z : ℤ). IsTakenOff x y z c.loop-column.column c.loop-column.row) (entry_read times c.requires.times) c.loop-column.invariant in
    let within : n < length x = omega (arith, c.if-end-row.true, so_far.columns) in
    let entry_is : entry c.loop-column.row n ≡ entry x n = so_far.left n (omega (arith, c.loop-column.auto.column-end)) in
    record {
      within = within;
      left = ap (λ (a : ℤ). as_entry a) entry_is ∙ entry_read (entry x n) (c.requires.left n (pos 0) within);
      times = entry_read times c.requires.times;
      right = entry_read (entry y n) (c.requires.right n (pos 0) (omega (arith, within)));
      beyond = subst (λ (z : ℤ). IsBeyond (entry x n -ℤ (z *ℤ entry y n))) (entry_read times c.requires.times)
          (c.columns_formed-end.ensures.beyond (omega (arith, within)) (entry x n) (c.requires.left n (pos 0) within));
      lesser = λ k l. taken_lesser x y times c.loop-column.column c.loop-column.row so_far k (omega (arith, l, c.loop-column-test.false));
    }

pub returns-clause-taken : goal.returns-clause-taken
returns-clause-taken c =
    let n = c.loop-column.column in
    let so_far : IsTakenOff c.args.row.now c.args.right.now c.args.times n c.loop-column.row = subst (λ (z : ℤ). IsTakenOff c.args.row.now c.args.right.now z n c.loop-column.row) (entry_read c.args.times c.requires.times) c.loop-column.invariant in
    let whole : length c.args.row.now ≡ n = omega (arith, so_far.columns, c.loop-column-test.false, c.loop-column.auto.column-end, c.if-end-row.false, c.columns_formed-end.ensures.within) in
    all_taken c.args.row.now c.args.right.now c.args.times n c.loop-column.row whole (omega (arith, whole)) so_far
