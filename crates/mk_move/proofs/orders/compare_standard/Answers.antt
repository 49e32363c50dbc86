use Rattle.std.proofs.Common.{◌≡◌, ◌-◌, length, pos, arith, ◌∙◌, sym}
use Rattle.std.proofs.lemmas.Int.{ints}
use Rattle.std.proofs.lemmas.List.{ext_get_or}
use Rattle.mk_model.specs.Vectors.{entry}
use Rattle.mk_move.specs.Sides.{part_of}
use Rattle.mk_move.proofs.Entries.{as_entry}
use Rattle.mk_move.proofs.Readings.{less, not_less, part_read}
use Rattle.mk_move.proofs.Divisions.{entry-part_of, length-part_of, part_of_past}
use Rattle.mk_move.proofs.Comparisons.{below_standard, same_from}
use Rattle.mk_move.proofs.orders.compare_standard.Goals as goal
use Rattle.mk_move.proofs.orders.compare_standard.Goals.{After-entry_of-right}

-- the entries of the parts at the column, as the code has them
left_is : (c : After-entry_of-right) → as_entry c.entry_of-left.result ≡ entry (part_of c.args.side c.args.a.now) (c.loop-end.end - 1)
left_is c =
    part_read c.args.side (entry c.args.a.now (c.loop-end.end - 1)) c.entry_of-left.result (c.requires.left (c.loop-end.end - 1) (pos 0) (omega (arith, c.loop-end.invariant.within))) c.entry_of-left.ensures
    ∙ sym (entry-part_of c.args.side c.args.a.now (c.loop-end.end - 1))

right_is : (c : After-entry_of-right) → as_entry c.entry_of-right.result ≡ entry (part_of c.args.side c.args.b.now) (c.loop-end.end - 1)
right_is c =
    part_read c.args.side (entry c.args.b.now (c.loop-end.end - 1)) c.entry_of-right.result (c.requires.right (c.loop-end.end - 1) (pos 0) (omega (arith, c.loop-end.invariant.within))) c.entry_of-right.ensures
    ∙ sym (entry-part_of c.args.side c.args.b.now (c.loop-end.end - 1))

pub loop-end-init : goal.loop-end-init
loop-end-init c = record {
  within = omega arith;
  same = λ k l. part_of_past c.args.side c.args.a.now k l ∙ sym (part_of_past c.args.side c.args.b.now k (omega arith));
}

pub returns-then-left-right : goal.returns-then-left-right
returns-then-left-right c =
    let at = (goal.at.returns-then-left-right c).After-entry_of-right in
    below_standard (length c.args.a.now) (c.loop-end.end - 1) (part_of c.args.side c.args.a.now) (part_of c.args.side c.args.b.now) (omega (arith, c.loop-end.invariant.within))
    (λ k l. c.loop-end.invariant.same k (omega arith)) (less _ _ _ _ (right_is at) (left_is at) c.if-left-right.true)

pub returns-then-left-right-2 : goal.returns-then-left-right-2
returns-then-left-right-2 c =
    let at = (goal.at.returns-then-left-right-2 c).After-entry_of-right in
    below_standard (length c.args.a.now) (c.loop-end.end - 1) (part_of c.args.side c.args.b.now) (part_of c.args.side c.args.a.now) (omega (arith, c.loop-end.invariant.within))
    (λ k l. sym (c.loop-end.invariant.same k (omega arith))) (less _ _ _ _ (left_is at) (right_is at) c.if-left-right-2.true)

pub loop-end-preserved : goal.loop-end-preserved
loop-end-preserved c =
    let at = (goal.at.loop-end-preserved c).After-entry_of-right in
    let above = not_less _ _ _ _ (right_is at) (left_is at) c.if-left-right.false in
    let below = not_less _ _ _ _ (left_is at) (right_is at) c.if-left-right-2.false in
    let here : entry (part_of c.args.side c.args.a.now) (c.loop-end.end - 1) ≡ entry (part_of c.args.side c.args.b.now) (c.loop-end.end - 1) = omega (arith, ints, above, below) in
    record {
      within = omega (arith, c.loop-end.invariant.within);
      same = λ k l. same_from (c.loop-end.end - 1) (part_of c.args.side c.args.a.now) (part_of c.args.side c.args.b.now) here (λ j m. c.loop-end.invariant.same j (omega arith)) k l;
    }

pub returns : goal.returns
returns c =
    ext_get_or (pos 0) (part_of c.args.side c.args.a.now) (part_of c.args.side c.args.b.now)
    (length-part_of c.args.side c.args.a.now ∙ c.requires.columns ∙ sym (length-part_of c.args.side c.args.b.now)) (λ k l. c.loop-end.invariant.same k (omega arith))
