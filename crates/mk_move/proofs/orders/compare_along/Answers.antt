use Rattle.std.proofs.Common.{◌≡◌, ◌<◌, length, pos, get_or, arith, subst, All, ◌∙◌, sym}
use Rattle.std.proofs.lemmas.Int.{ints}
use Rattle.std.proofs.lemmas.List.{take_all}
use Rattle.std.proofs.lemmas.List.Elements.{All-more}
use Rattle.mk_model.specs.Vectors.{entry, positive_part}
use Rattle.mk_model.proofs.VectorAlgebra.{entry-positive_part}
use Rattle.mk_move.proofs.Entries.{as_entry}
use Rattle.mk_move.proofs.Readings.{less, not_less, lead_read}
use Rattle.mk_move.proofs.Comparisons.{below_at}
use Rattle.mk_move.proofs.orders.compare_along.Goals as goal
use Rattle.mk_move.proofs.orders.compare_along.Goals.{After-max-right}

-- the entries of the parts at the column, as the code has them
within : (c : After-max-right) → get_or c.args.columns.now c.loop-column.column-index 0 < length c.args.a.now
within c = c.requires.columns c.loop-column.column-index 0 (omega arith)

left_is : (c : After-max-right) → as_entry c.max-left.result ≡ entry (positive_part c.args.a.now) (get_or c.args.columns.now c.loop-column.column-index 0)
left_is c =
    let at = get_or c.args.columns.now c.loop-column.column-index 0 in
    lead_read (entry c.args.a.now at) c.max-left.result (c.requires.left at (pos 0) (within c)) c.max-left.ensures.value ∙ sym (entry-positive_part c.args.a.now at)

right_is : (c : After-max-right) → as_entry c.max-right.result ≡ entry (positive_part c.args.b.now) (get_or c.args.columns.now c.loop-column.column-index 0)
right_is c =
    let at = get_or c.args.columns.now c.loop-column.column-index 0 in
    lead_read (entry c.args.b.now at) c.max-right.result (c.requires.right at (pos 0) (omega (arith, within c))) c.max-right.ensures.value ∙ sym (entry-positive_part c.args.b.now at)

pub returns-then-left-right : goal.returns-then-left-right
returns-then-left-right c =
    let at = (goal.at.returns-then-left-right c).After-max-right in
    below_at c.args.columns.now (positive_part c.args.a.now) (positive_part c.args.b.now) c.loop-column.column-index (omega arith) c.loop-column.invariant
    (less _ _ _ _ (right_is at) (left_is at) c.if-left-right.true)

pub returns-then-left-right-2 : goal.returns-then-left-right-2
returns-then-left-right-2 c =
    let at = (goal.at.returns-then-left-right-2 c).After-max-right in
    below_at c.args.columns.now (positive_part c.args.b.now) (positive_part c.args.a.now) c.loop-column.column-index (omega arith) (λ k d h. sym (c.loop-column.invariant k d h))
    (less _ _ _ _ (left_is at) (right_is at) c.if-left-right-2.true)

pub loop-column-preserved : goal.loop-column-preserved
loop-column-preserved c =
    let at = (goal.at.loop-column-preserved c).After-max-right in
    let above = not_less _ _ _ _ (right_is at) (left_is at) c.if-left-right.false in
    let below = not_less _ _ _ _ (left_is at) (right_is at) c.if-left-right-2.false in
    All-more (λ k. entry (positive_part c.args.a.now) k ≡ entry (positive_part c.args.b.now) k) c.args.columns.now c.loop-column.column-index 0 (omega arith) c.loop-column.invariant (omega (arith, ints, above, below))

pub returns : goal.returns
returns c =
    subst (All (λ k. entry (positive_part c.args.a.now) k ≡ entry (positive_part c.args.b.now) k)) (take_all c.loop-column.column-index c.args.columns.now (omega arith)) c.loop-column.invariant
