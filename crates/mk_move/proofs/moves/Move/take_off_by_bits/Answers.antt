use Rattle.std.proofs.Common.{◌≡◌, ◌≢◌, ◌≤◌, List, All, length, arith, rules, sym, ap, ◌∙◌, subst, IsTrue, false, ℤ, neg_ℤ}
use mir.Syntax.{w128}
use Rattle.std.specs.List.{refill}
use Rattle.std.specs.Int.RustNames.{bit_or}
use Rattle.std.proofs.lemmas.Int.{to_z-of_z}
use Rattle.mk_model.specs.Vectors.{zeros, IsEntry}
use Rattle.mk_move.specs.Moves.{Weighed, IsMoveKept}
use Rattle.mk_move.specs.Masks.{AreMasks}
use Rattle.mk_move.specs.Steps.{minus_times}
use Rattle.mk_move.specs.InPlace.{IsWide, AreBits}
use Rattle.mk_move.proofs.Takings.{bits_of, kept_row, kept_back, negative_read, All-wide_difference}
use Rattle.mk_move.proofs.Entries.{as_entry}
use Rattle.mk_move.proofs.Multiples.{some_left}
use Rattle.mk_move.proofs.moves.Move.take_off_by_bits.Goals as goal
use Rattle.mk_move.proofs.moves.Move.take_off_by_bits.Goals.{After-take_off_at-taken, After-take_off_at, After-as_mut_slice-row}

as_many : (c : After-as_mut_slice-row) → length c.self.inside.entries.items ≡ length c.v.inside.entries.items
as_many c = ap (λ (m : Weighed). length m.entries) c.self.view_is ∙ sym c.requires.columns ∙ sym (ap (λ (m : Weighed). length m.entries) c.v.view_is)

few : (c : After-as_mut_slice-row) → length c.self.inside.entries.items ≤ 64
few c = let same = ap (λ (m : Weighed). length m.entries) c.self.view_is in omega (arith, same, c.requires.few)

bits : (c : After-as_mut_slice-row) → AreBits c.as_slice-right.result.now (bit_or c.v.inside.plus c.v.inside.minus)
bits c = subst (λ (y : List ℤ). AreBits y (bit_or c.v.inside.plus c.v.inside.minus)) (sym c.as_slice-right.ensures) (bits_of c.v.inside.entries.items c.v.inside.plus c.v.inside.minus (omega (arith, few c, as_many c)) c.v.invariant.1)

-- the row is the difference
row_is : (c : After-take_off_at-taken) → c.take_off_at-taken.new.row ≡ minus_times c.self.inside.entries.items c.args.times c.v.inside.entries.items
row_is c =
    c.take_off_at-taken.ensures.entries
    ∙ ap (λ (z : ℤ). minus_times c.as_mut_slice-row.result.now z c.as_slice-right.result.now) (to_z-of_z w128 c.args.times c.ranges.times)
    ∙ ap (λ (r : List ℤ). minus_times r c.args.times c.as_slice-right.result.now) c.as_mut_slice-row.ensures.value
    ∙ ap (λ (r : List ℤ). minus_times c.self.inside.entries.items c.args.times r) c.as_slice-right.ensures

pub take_off_at-taken-requires-clause-bits : goal.take_off_at-taken-requires-clause-bits
take_off_at-taken-requires-clause-bits c = bits (goal.at.take_off_at-taken-requires-clause-bits c).After-as_mut_slice-row

pub invariant_of-self : goal.invariant_of-self
invariant_of-self c =
    let at = (goal.at.invariant_of-self c).After-take_off_at-taken in
    let was = (goal.at.invariant_of-self c).After-as_mut_slice-row in
    let not_multiple : minus_times c.self.inside.entries.items c.args.times c.v.inside.entries.items ≢ zeros (length c.self.inside.entries.items) =
    λ e. no (c.if-is_multiple.ensures.1 (rw (← c.self.view_is, ← c.v.view_is) (zero_read c.self.inside.entries.items c.v.inside.entries.items e))) in
    let in_range : IsTrue c.take_off_at-taken.result.in_range = search rules in
    let before : All IsEntry c.as_mut_slice-row.result.now = subst (All IsEntry) (sym c.as_mut_slice-row.ensures.value) c.self.invariant.0.entries in
    kept_row c.self.inside.entries.items c.v.inside.entries.items c.take_off_at-taken.new.row c.args.times c.self.inside.weight c.take_off_at-taken.result.plus c.take_off_at-taken.result.minus
    (as_many was) c.self.invariant.0.columns (row_is at)
    (c.take_off_at-taken.ensures.range in_range before)
    (some_left c.self.inside.entries.items c.v.inside.entries.items c.take_off_at-taken.new.row c.args.times (as_many was) (row_is at) not_multiple)
    c.take_off_at-taken.ensures.masks
  where
    no : IsTrue false → ⊥
    no t = search rules

    zero_read : (x y : List ℤ) → minus_times x c.args.times y ≡ zeros (length x) → minus_times x (as_entry c.args.times) y ≡ zeros (length x)
    zero_read x y e = ap (λ (z : ℤ). minus_times x z y) (to_z-of_z w128 c.args.times c.ranges.times) ∙ e

pub take_off_at-requires-clause-left : goal.take_off_at-requires-clause-left
take_off_at-requires-clause-left c =
    let at = (goal.at.take_off_at-requires-clause-left c).After-take_off_at-taken in
    let was = (goal.at.take_off_at-requires-clause-left c).After-as_mut_slice-row in
    subst (All IsWide) (sym (row_is at)) (All-wide_difference c.self.inside.entries.items c.v.inside.entries.items c.args.times (as_many was) c.requires.times c.self.invariant.0.entries c.v.invariant.0.entries)

pub take_off_at-requires-clause-bits : goal.take_off_at-requires-clause-bits
take_off_at-requires-clause-bits c = bits (goal.at.take_off_at-requires-clause-bits c).After-as_mut_slice-row

-- and it is put back
back_is : (c : After-take_off_at) → length c.self.inside.entries.items ≡ length c.v.inside.entries.items → c.take_off_at-taken.new.row ≡ minus_times c.self.inside.entries.items c.args.times c.v.inside.entries.items →
    refill (length c.self.inside.entries.items) c.self.inside.entries.items c.take_off_at.new.row ≡ c.self.inside.entries.items
back_is c same is =
    let negative = negative_read c.args.times c.requires.times in
    kept_back c.self.inside.entries.items c.v.inside.entries.items c.take_off_at-taken.new.row c.take_off_at.new.row c.args.times same is
    (c.take_off_at.ensures.entries ∙ ap (λ (z : ℤ). minus_times c.take_off_at-taken.new.row z c.as_slice-right.result.now) negative
    ∙ ap (λ (r : List ℤ). minus_times c.take_off_at-taken.new.row (neg_ℤ c.args.times) r) c.as_slice-right.ensures)

pub invariant_of-self-2 : goal.invariant_of-self-2
invariant_of-self-2 c =
    let back = back_is (goal.at.invariant_of-self-2 c).After-take_off_at (as_many (goal.at.invariant_of-self-2 c).After-as_mut_slice-row) (row_is (goal.at.invariant_of-self-2 c).After-take_off_at-taken) in
    subst (λ (r : List ℤ). IsMoveKept (record { entries = r; weight = c.self.inside.weight }) × AreMasks r c.self.inside.plus c.self.inside.minus) (sym back) c.self.invariant

pub returns : goal.returns
returns c =
    let back = back_is (goal.at.returns c).After-take_off_at (as_many (goal.at.returns c).After-as_mut_slice-row) (row_is (goal.at.returns c).After-take_off_at-taken) in
    ap (λ (r : List ℤ). record { entries = r; weight = c.self.inside.weight }) back ∙ c.self.view_is
