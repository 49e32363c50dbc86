use Rattle.std.proofs.Common.{◌≡◌, ◌*◌, ◌/◌, ◌<◌, ◌≤◌, ℕ, unsigned_abs, ap, arith, subst, ◌∙◌, pos, length}
use borrow.Author.Count.{below_more}
use Rattle.mk_model.specs.Vectors.{entry}
use Rattle.mk_move.proofs.Entries.{most_entry, entry_read}
use Rattle.mk_move.proofs.Factors.{all_formed, formed_up_to}
use Rattle.mk_move.proofs.steps.columns_formed.Goals as goal
use Rattle.mk_move.proofs.steps.columns_formed.Goals.{After-unsigned_abs-size, After-unsigned_abs}

size_is : (c : After-unsigned_abs-size) → c.unsigned_abs-size.result ≡ unsigned_abs c.args.times
size_is c = c.unsigned_abs-size.ensures.value ∙ ap unsigned_abs (entry_read c.args.times c.requires.times)

pub returns-then-size-lt-NARROW : goal.returns-then-size-lt-NARROW
returns-then-size-lt-NARROW c =
    all_formed c.args.times c.args.row.now (omega (arith, size_is (goal.at.returns-then-size-lt-NARROW c).After-unsigned_abs-size, c.if-size-lt-NARROW.true)) c.requires.entries

-- the entry of the column
entry_is : (c : After-unsigned_abs) → c.unsigned_abs.result ≡ unsigned_abs (entry c.args.row.now c.loop-column.column)
entry_is c = c.unsigned_abs.ensures.value ∙ ap unsigned_abs (entry_read _ (c.requires.entries c.loop-column.column (pos 0) (omega arith)))

pub loop-column-preserved : goal.loop-column-preserved
loop-column-preserved c =
    let entry_size = entry_is (goal.at.loop-column-preserved c).After-unsigned_abs in
    below_more (λ k. unsigned_abs (entry c.args.row.now k) ≤ 2 * most_entry / c.unsigned_abs-size.result) c.loop-column.column c.loop-column.invariant
    (subst (λ n. n ≤ 2 * most_entry / c.unsigned_abs-size.result) entry_size c.if-unsigned_abs-most.false)

pub returns-then-unsigned_abs-most : goal.returns-then-unsigned_abs-most
returns-then-unsigned_abs-most c =
    let at = goal.at.returns-then-unsigned_abs-most c in
    let size = size_is at.After-unsigned_abs-size in
    let n = c.loop-column.column in
    let row = c.args.row.now in
    formed_up_to c.args.times row n (omega (arith, size, c.if-size-lt-NARROW.false)) (omega arith)
    (subst (λ s. (k : ℕ) → k < n → unsigned_abs (entry row k) ≤ 2 * most_entry / s) size c.loop-column.invariant)
    (λ l. subst (λ s. 2 * most_entry / s < unsigned_abs (entry row n)) size (subst (λ m. 2 * most_entry / c.unsigned_abs-size.result < m) (entry_is at.After-unsigned_abs) c.if-unsigned_abs-most.true))

pub returns : goal.returns
returns c =
    let size = size_is (goal.at.returns c).After-unsigned_abs-size in
    let row = c.args.row.now in
    let small = subst (λ s. (k : ℕ) → k < c.loop-column.column → unsigned_abs (entry row k) ≤ 2 * most_entry / s) size c.loop-column.invariant in
    formed_up_to c.args.times row (length row) (omega (arith, size, c.if-size-lt-NARROW.false)) (omega arith) (λ k l. small k (omega arith)) (λ l. absurd (omega arith))
