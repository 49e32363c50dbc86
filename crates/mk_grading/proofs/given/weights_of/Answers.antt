use Rattle.std.proofs.Common.{◌≡◌, inr, refl, take, slice_get, Some, All, List, get_or, sym, subst, ◌∙◌, arith, rules, ℤ, pos, ◌≤ℤ◌}
use mir.Syntax.{w128}
use mir.Val.{SFits}
use Rattle.std.proofs.lemmas.Int.{ints, to_z-of_z}
use Rattle.std.proofs.lemmas.List.Elements.{All-more, All-get_or}
use Rattle.std.proofs.lemmas.List.{take_all}
use Rattle.mk_model.specs.ChosenGradings.{IsSmallEntry, IsFirstBelowOne, IsOrthogonal, IsFirstProduct, FitsGrade, IsGradeMismatch}
use Rattle.mk_move.proofs.Entries.{entry_width}
use Rattle.mk_move.proofs.Readings.{less}
use Rattle.std.proofs.lemmas.Option.{slice_get-get_or}
use Rattle.mk_grading.proofs.SmallEntries.{small_as_entry, small_read}
use Rattle.mk_grading.proofs.RowsRead.{only_row}
use Rattle.mk_grading.proofs.GradedRows.{graded_by_grade}
use Rattle.mk_grading.proofs.given.weights_of.Goals as goal
use Rattle.mk_grading.proofs.given.weights_of.Goals.{After-row-row, In-None}

pub loop-column-preserved : goal.loop-column-preserved
loop-column-preserved c =
    let row = c.row-row.result.now in
    let fits : SFits entry_width (get_or row c.loop-column.column (pos 0)) = search rules in
    let positive : pos 1 ≤ℤ get_or row c.loop-column.column (pos 0) = grind (arith, ints) in
    All-more (λ k. pos 1 ≤ℤ k) row c.loop-column.column (pos 0) (omega arith) c.loop-column.invariant positive

-- the row of the grade has all its entries
row_is : (c : After-row-row) → c.args.grade.now.rows ≡ 1 → c.row-row.result.now ≡ c.args.grade.now.entries
row_is c one = only_row c.args.grade.now c.row-row.result.now c.row-row.ensures.kept.filled one c.row-row.ensures.value

pub returns-then-entry-lt1-clause-caused : goal.returns-then-entry-lt1-clause-caused
returns-then-entry-lt1-clause-caused c =
    let n = c.loop-column.column in
    let one : c.args.grade.now.rows ≡ 1 = omega arith in
    let row = row_is (goal.at.returns-then-entry-lt1-clause-caused c).After-row-row one in
    let entry = get_or c.row-row.result.now n (pos 0) in
    let small : IsSmallEntry entry = All-get_or IsSmallEntry c.row-row.result.now n (pos 0) c.loop-column-test.true (subst (All IsSmallEntry) (sym row) c.requires) in
    let below : IsFirstBelowOne c.args.lat.now c.args.grade.now n entry = record {
      shape = record { rows = one; columns = sym c.columns.ensures.value ∙ c.if-columns.false ∙ c.columns-else-rows-ne1.ensures.value };
      at = subst (λ (xs : List ℤ). slice_get xs n ≡ Some entry) row (slice_get-get_or c.row-row.result.now n (pos 0) c.loop-column-test.true);
      below = less _ _ _ _ (small_as_entry entry small) refl c.if-entry-lt1.true;
      before = subst (λ (xs : List ℤ). All (λ k. pos 1 ≤ℤ k) (take n xs)) row c.loop-column.invariant;
    } in
    inr (λ mat matrix_fits. (matrix_fits, subst (IsFirstBelowOne c.args.lat.now c.args.grade.now n) (sym (small_read entry small)) below))

pub returns-in-Some-clause-caused : goal.returns-in-Some-clause-caused
returns-in-Some-clause-caused c = inr (λ mat matrix_fits.
    let one : c.args.grade.now.rows ≡ 1 = omega arith in
    let row = row_is (goal.at.returns-in-Some-clause-caused c).After-row-row one in
    let weights = c.deref.ensures.value ∙ c.in_ok-weights.ensures ∙ row in
    let fits : SFits w128 c.in-Some.value = search rules in
    let mismatch : IsGradeMismatch c.args.lat.now c.args.grade.now c.in-Some.lat_row c.in-Some.value = record {
      shape = record { rows = one; columns = sym c.columns.ensures.value ∙ c.if-columns.false ∙ c.columns-else-rows-ne1.ensures.value };
      positive = subst (All (λ k. pos 1 ≤ℤ k)) (take_all c.loop-column.column c.row-row.result.now (omega arith) ∙ row) c.loop-column.invariant;
      product = subst (λ (w : List ℤ). IsFirstProduct c.args.lat.now w c.in-Some.lat_row c.in-Some.value) weights c.in-Some.ensures.found;
    } in
    (matrix_fits, rw (to_z-of_z w128 c.in-Some.value fits) mismatch))

-- the grade fits, where no product is other than 0
given_fits : (c : In-None) → c.row-row.result.now ≡ c.args.grade.now.entries → FitsGrade c.args.lat.now c.args.grade.now
given_fits c row =
    let one : c.args.grade.now.rows ≡ 1 = omega arith in
    record {
      shape = record { rows = one; columns = sym c.columns.ensures.value ∙ c.if-columns.false ∙ c.columns-else-rows-ne1.ensures.value };
      positive = subst (All (λ k. pos 1 ≤ℤ k)) (take_all c.loop-column.column c.row-row.result.now (omega arith) ∙ row) c.loop-column.invariant;
      products = subst (IsOrthogonal c.args.lat.now) (c.deref.ensures.value ∙ c.in_ok-weights.ensures ∙ row) c.in-None.ensures.none;
    }

pub returns-in-None-clause-value : goal.returns-in-None-clause-value
returns-in-None-clause-value c =
    let one : c.args.grade.now.rows ≡ 1 = omega arith in
    c.in_ok-weights.ensures ∙ row_is (goal.at.returns-in-None-clause-value c).After-row-row one

pub returns-in-None-clause-fits : goal.returns-in-None-clause-fits
returns-in-None-clause-fits c =
    let one : c.args.grade.now.rows ≡ 1 = omega arith in
    given_fits (goal.at.returns-in-None-clause-fits c).In-None (row_is (goal.at.returns-in-None-clause-fits c).After-row-row one)

pub returns-in-None-clause-graded : goal.returns-in-None-clause-graded
returns-in-None-clause-graded c =
    let one : c.args.grade.now.rows ≡ 1 = omega arith in
    let row = row_is (goal.at.returns-in-None-clause-graded c).After-row-row one in
    graded_by_grade c.args.lat.now c.columns-else-rows-ne1.ensures.kept.filled c.args.grade.now c.row-row.ensures.kept.filled (given_fits (goal.at.returns-in-None-clause-graded c).In-None row)
