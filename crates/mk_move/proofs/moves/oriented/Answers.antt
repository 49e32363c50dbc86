use Rattle.std.proofs.Common.{◌≡◌, ap, sym, ◌∙◌, arith, pos, ◌<ℤ◌}
use Rattle.std.proofs.lemmas.Int.{ints}
use Rattle.mk_model.specs.Orders.{first_along}
use Rattle.mk_move.proofs.Parts.{row_as_it_is, row_turned, zero_row}
use Rattle.mk_move.proofs.moves.oriented.Goals as goal
use Rattle.mk_move.proofs.moves.oriented.Goals.{After-first_entry-first}

-- the first entry along the list
first_is : (c : After-first_entry-first) → c.first_entry-first.result ≡ first_along c.args.priority.now c.args.row.now
first_is c = c.first_entry-first.ensures ∙ ap (λ p. first_along p c.args.row.now) c.as_slice.ensures.value

pub returns-then-first-eq0 : goal.returns-then-first-eq0
returns-then-first-eq0 c =
    let none : c.first_entry-first.result ≡ pos 0 = omega (arith, ints, c.if-first-eq0.true) in
    zero_row c.args.priority.now c.args.row.now c.as_slice.ensures.kept c.requires.list (sym (first_is (goal.at.returns-then-first-eq0 c).After-first_entry-first) ∙ none)

pub returns-then-first-lt0 : goal.returns-then-first-lt0
returns-then-first-lt0 c =
    let below : c.first_entry-first.result <ℤ pos 0 = grind (arith, ints, c.if-first-lt0.true) in
    row_as_it_is c.args.priority.now c.args.row.now c.in_ok-from_slice.field-0.items c.first_entry-first.result (first_is (goal.at.returns-then-first-lt0 c).After-first_entry-first) below c.in_ok-from_slice.ensures.ok

pub returns : goal.returns
returns c =
    let above : pos 0 <ℤ c.first_entry-first.result = grind (arith, ints, c.if-first-lt0.false, c.if-first-eq0.false) in
    row_turned c.args.priority.now c.args.row.now c.in_ok-negated.field-0.items c.first_entry-first.result (first_is (goal.at.returns c).After-first_entry-first) above c.in_ok-negated.ensures
