use Rattle.std.proofs.Common.{◌≡◌, List, All, length, arith, rules, sym, ap, ◌∙◌, subst, IsTrue, ℤ, pos, neg_ℤ, ◌-ℤ◌, w64}
use mir.Syntax.{w128}
use mir.Val.{Fits}
use Rattle.std.specs.List.{refill}
use Rattle.std.proofs.lemmas.Int.{to_z-of_z}
use Rattle.mk_model.specs.Vectors.{zeros}
use Rattle.mk_model.proofs.VectorAlgebra.{lengths}
use Rattle.mk_move.specs.Moves.{Weighed, IsMoveKept}
use Rattle.mk_move.specs.Masks.{AreMasks}
use Rattle.mk_move.specs.Steps.{minus_times}
use Rattle.mk_move.specs.InPlace.{IsWide}
use Rattle.mk_move.proofs.Entries.{as_entry}
use Rattle.mk_move.proofs.Takings.{zero_masks, some_masks, kept_row, kept_back, negative_read, All-wide_difference}
use Rattle.mk_move.proofs.moves.Move.take_off_by_columns.Goals as goal
use Rattle.mk_move.proofs.moves.Move.take_off_by_columns.Goals.{After-take_off_all, After-as_mut_slice-row}

as_many : (c : After-as_mut_slice-row) → length c.self.inside.entries.items ≡ length c.v.inside.entries.items
as_many c = ap (λ (m : Weighed). length m.entries) c.self.view_is ∙ sym c.requires.columns ∙ sym (ap (λ (m : Weighed). length m.entries) c.v.view_is)

-- the row is the difference
row_is : (c : After-take_off_all) → c.take_off_all.new.row ≡ minus_times c.self.inside.entries.items c.args.times c.v.inside.entries.items
row_is c =
    c.take_off_all.ensures.entries
    ∙ ap (λ (z : ℤ). minus_times c.as_mut_slice-row.result.now z c.as_slice-right.result.now) (to_z-of_z w128 c.args.times c.ranges.times)
    ∙ ap (λ (r : List ℤ). minus_times r c.args.times c.as_slice-right.result.now) c.as_mut_slice-row.ensures.value
    ∙ ap (λ (r : List ℤ). minus_times c.self.inside.entries.items c.args.times r) c.as_slice-right.ensures

pub take_off_all-requires-then-not-take_off_all-clause-left :
    goal.take_off_all-requires-then-not-take_off_all-clause-left
take_off_all-requires-then-not-take_off_all-clause-left c =
    let at = (goal.at.take_off_all-requires-then-not-take_off_all-clause-left c).After-take_off_all in
    let was = (goal.at.take_off_all-requires-then-not-take_off_all-clause-left c).After-as_mut_slice-row in
    subst (All IsWide) (sym (row_is at)) (All-wide_difference c.self.inside.entries.items c.v.inside.entries.items c.args.times (as_many was) c.requires.times c.self.invariant.0.entries c.v.invariant.0.entries)

-- and it is put back
back_is : (c : After-take_off_all) (back : List ℤ) → length c.self.inside.entries.items ≡ length c.v.inside.entries.items →
    back ≡ minus_times c.take_off_all.new.row (as_entry (pos 0 -ℤ as_entry c.args.times)) c.as_slice-right.result.now → refill (length c.self.inside.entries.items) c.self.inside.entries.items back ≡ c.self.inside.entries.items
back_is c back same is =
    let negative = negative_read c.args.times c.requires.times in
    kept_back c.self.inside.entries.items c.v.inside.entries.items c.take_off_all.new.row back c.args.times same (row_is c)
    (is ∙ ap (λ (z : ℤ). minus_times c.take_off_all.new.row z c.as_slice-right.result.now) negative
    ∙ ap (λ (r : List ℤ). minus_times c.take_off_all.new.row (neg_ℤ c.args.times) r) c.as_slice-right.ensures)

pub invariant_of-self : goal.invariant_of-self
invariant_of-self c =
    let at = goal.at.invariant_of-self c in
    let back = back_is at.After-take_off_all c.take_off_all-then-not-take_off_all.new.row (as_many at.After-as_mut_slice-row) c.take_off_all-then-not-take_off_all.ensures.entries in
    subst (λ (r : List ℤ). IsMoveKept (record { entries = r; weight = c.self.inside.weight }) × AreMasks r c.self.inside.plus c.self.inside.minus) (sym back) c.self.invariant

pub returns-then-not-take_off_all : goal.returns-then-not-take_off_all
returns-then-not-take_off_all c =
    let at = goal.at.returns-then-not-take_off_all c in
    let back = back_is at.After-take_off_all c.take_off_all-then-not-take_off_all.new.row (as_many at.After-as_mut_slice-row) c.take_off_all-then-not-take_off_all.ensures.entries in
    ap (λ (r : List ℤ). record { entries = r; weight = c.self.inside.weight }) back ∙ c.self.view_is

pub invariant_of-self-then-plus-minus-eq0 : goal.invariant_of-self-then-plus-minus-eq0
invariant_of-self-then-plus-minus-eq0 c =
    let at = goal.at.invariant_of-self-then-plus-minus-eq0 c in
    let back = back_is at.After-take_off_all c.take_off_all-then-plus-minus-eq0.new.row (as_many at.After-as_mut_slice-row) c.take_off_all-then-plus-minus-eq0.ensures.entries in
    subst (λ (r : List ℤ). IsMoveKept (record { entries = r; weight = c.self.inside.weight }) × AreMasks r c.self.inside.plus c.self.inside.minus) (sym back) c.self.invariant

pub returns-then-plus-minus-eq0 : goal.returns-then-plus-minus-eq0
returns-then-plus-minus-eq0 c =
    let at = goal.at.returns-then-plus-minus-eq0 c in
    let back = back_is at.After-take_off_all c.take_off_all-then-plus-minus-eq0.new.row (as_many at.After-as_mut_slice-row) c.take_off_all-then-plus-minus-eq0.ensures.entries in
    let same : length c.take_off_all.new.row ≡ length c.self.inside.entries.items = ap length (row_is at.After-take_off_all) ∙ omega (arith, lengths, as_many at.After-as_mut_slice-row) in
    let zero : minus_times c.args.self.now.entries c.args.times c.args.v.now.entries ≡ zeros (length c.args.self.now.entries) =
    rw (← c.self.view_is, ← c.v.view_is) (sym (row_is at.After-take_off_all) ∙ zero_masks c.take_off_all.new.row c.masks_of-plus.result.0 c.masks_of-plus.result.1 c.masks_of-plus.ensures c.if-plus-minus-eq0.true ∙ ap zeros same) in
    (ap (λ (r : List ℤ). record { entries = r; weight = c.self.inside.weight }) back ∙ c.self.view_is, zero)

pub invariant_of-self-2 : goal.invariant_of-self-2
invariant_of-self-2 c =
    let at = goal.at.invariant_of-self-2 c in
    let plus : Fits w64 c.masks_of-plus.result.0 = search rules in
    let minus : Fits w64 c.masks_of-plus.result.1 = search rules in
    let in_range : IsTrue c.take_off_all.result = search rules in
    kept_row c.self.inside.entries.items c.v.inside.entries.items c.take_off_all.new.row c.args.times c.self.inside.weight c.masks_of-plus.result.0 c.masks_of-plus.result.1
    (as_many at.After-as_mut_slice-row) c.self.invariant.0.columns (row_is at.After-take_off_all)
    (c.take_off_all.ensures.range in_range)
    (some_masks c.take_off_all.new.row c.masks_of-plus.result.0 c.masks_of-plus.result.1 plus minus c.masks_of-plus.ensures c.if-plus-minus-eq0.false)
    c.masks_of-plus.ensures
