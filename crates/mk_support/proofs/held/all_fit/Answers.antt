use Rattle.std.proofs.Common.{◌≡◌, rules, arith, ◌∙◌, subst, get_or, ap, All, ℤ, pos, ◌≤ℤ◌, ◌<ℤ◌}
use Rattle.std.specs.Int.{int_max}
use Rattle.std.proofs.lemmas.Int.{ints, clamps}
use Rattle.std.proofs.lemmas.List.{take_all}
use Rattle.std.proofs.lemmas.List.Elements.{All-more}
use Rattle.mk_model.specs.Vectors.{entry}
use Rattle.mk_move.specs.Sides.{part_of, entry_on}
use Rattle.mk_move.proofs.Divisions.{entry-part_of}
use Rattle.mk_move.proofs.Entries.{as_entry, entry_read}
use Rattle.mk_move.proofs.Readings.{less, not_less}
use Rattle.mk_support.specs.declared.held.ColumnEntry.{ColumnEntry}
use Rattle.mk_support.specs.HeldLeads.{Fits}
use Rattle.mk_support.proofs.held.all_fit.Goals as goal
use Rattle.mk_support.proofs.held.all_fit.Goals.{After-turned}

fits_where : (z turned on part : ℤ) → z ≤ℤ turned → int_max turned (pos 0) ≡ on → part ≡ on → z ≤ℤ part
fits_where z turned on part h e f = omega (arith, ints, clamps)

above_where : (z turned on part : ℤ) → pos 0 <ℤ z → turned <ℤ z → int_max turned (pos 0) ≡ on → part ≡ on → z ≤ℤ part → ⊥
above_where z turned on part p h e f k = omega (arith, ints, clamps)

abbrev no_entry : ColumnEntry
no_entry = record { column = 0; entry = pos 0 }

-- the listed entry of the loop, and the entry of the row in its column
abbrev at : After-turned → ColumnEntry
at c = get_or c.args.listed.now c.loop-at.at-index no_entry

abbrev there : After-turned → ℤ
there c = get_or c.args.row.now (at c).column (pos 0)

entry_is : (c : After-turned) → as_entry (at c).entry ≡ (at c).entry
entry_is c = entry_read (at c).entry (c.requires.range c.loop-at.at-index no_entry (omega arith))

turned_is : (c : After-turned) → as_entry c.turned.result ≡ c.turned.result
turned_is c = entry_read c.turned.result c.turned.ensures.range

on_is : (c : After-turned) → int_max c.turned.result (pos 0) ≡ entry_on c.args.side (there c)
on_is c =
    c.turned.ensures.part
    ∙ ap (entry_on c.args.side) (entry_read (there c) (c.requires.entries (at c).column (pos 0) (c.requires.columns c.loop-at.at-index no_entry (omega arith))))

part_is : (c : After-turned) → entry (part_of c.args.side c.args.row.now) (at c).column ≡ entry_on c.args.side (there c)
part_is c = entry-part_of c.args.side c.args.row.now (at c).column

-- src/held.rt:102:13
pub returns-then-at-turned : goal.returns-then-at-turned
returns-then-at-turned c =
    let w = (goal.at.returns-then-at-turned c).After-turned in (
      (λ h. search rules),
      (λ h. absurd (above_where (at w).entry c.turned.result (entry_on c.args.side (there w)) _ (c.requires.positive c.loop-at.at-index no_entry (omega arith)) (less _ _ _ _ (turned_is w) (entry_is w) c.if-at-turned.true) (on_is w) (part_is w) (h c.loop-at.at-index no_entry (omega arith)))),
    )

-- src/held.rt:100:5
pub loop-at-preserved : goal.loop-at-preserved
loop-at-preserved c =
    let w = (goal.at.loop-at-preserved c).After-turned in
    All-more (Fits (part_of c.args.side c.args.row.now)) c.args.listed.now c.loop-at.at-index no_entry (omega arith) c.loop-at.invariant
    (fits_where (at w).entry c.turned.result (entry_on c.args.side (there w)) _ (not_less _ _ _ _ (turned_is w) (entry_is w) c.if-at-turned.false) (on_is w) (part_is w))

-- src/held.rt:93:1
pub returns : goal.returns
returns c =
    let whole = subst (All (Fits (part_of c.args.side c.args.row.now))) (take_all c.loop-at.at-index c.args.listed.now c.loop-at-test.false) c.loop-at.invariant in
    ((λ h. whole), (λ h. search rules))
