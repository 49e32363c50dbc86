use Rattle.std.proofs.Common.{◌≡◌, ◌-◌, length, drop, ap, sym, ◌∙◌, subst, arith}
use Rattle.std.proofs.lemmas.List.{drop_all}
use Rattle.mk_model.specs.Tables.{Grid}
use Rattle.mk_model.specs.Lattices.{ones}
use Rattle.mk_model.specs.ChosenGradings.{IsGradingOf}
use Rattle.mk_gen.specs.Models.{model_grid}
use Rattle.mk_gen.proofs.Rows.{next_table, next_rows, next_columns}
use Rattle.mk_gen.proofs.Sums.{ones_grade}
use Rattle.mk_gen.proofs.model.model_table.Goals as goal

pub loop-done-init : goal.loop-done-init
loop-done-init c = c.in_ok-table.ensures ∙ ap model_grid (sym (drop_all (length c.args.sizes.now - 0) c.args.sizes.now (omega arith)))

pub with_size-requires-clause-rows : goal.with_size-requires-clause-rows
with_size-requires-clause-rows c = next_rows c.args.sizes.now c.loop-done.done c.loop-done.table c.loop-done-test.true c.requires c.loop-done.invariant

pub with_size-requires-clause-columns : goal.with_size-requires-clause-columns
with_size-requires-clause-columns c = next_columns c.args.sizes.now c.loop-done.done c.loop-done.table c.loop-done-test.true c.requires c.loop-done.invariant

pub loop-done-preserved : goal.loop-done-preserved
loop-done-preserved c = c.in_ok-table-2.ensures ∙ next_table c.args.sizes.now c.loop-done.done c.loop-done.table c.loop-done-test.true c.loop-done.invariant

the_table : (c : goal.After-loop-done) → c.loop-done.table ≡ model_grid c.args.sizes.now
the_table c =
    let none : length c.args.sizes.now - c.loop-done.done ≡ 0 = omega arith in
    c.loop-done.invariant ∙ ap (λ k. model_grid (drop k c.args.sizes.now)) none

pub returns-clause-table : goal.returns-clause-table
returns-clause-table c = the_table c

pub returns-clause-graded : goal.returns-clause-graded
returns-clause-graded c = subst (λ (grid : Grid). IsGradingOf grid (ones grid.columns)) (sym (the_table c)) (ones_grade c.args.sizes.now c.requires.some)
