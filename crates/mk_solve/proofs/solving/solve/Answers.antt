use Rattle.std.proofs.Common.{◌-◌, ◌∙◌, length, sym, subst, Some, Option, []}
use Rattle.mk_model.specs.Orders.{standard}
use Rattle.mk_model.specs.Tables.{rows_of}
use Rattle.mk_move.specs.MoveLists.{vectors_of}
use Rattle.mk_core.specs.Jobs.{JobView}
use Rattle.mk_saturate.specs.Saturations.{NoneLeft, IsJob, IsNextJob}
use Rattle.mk_solve.specs.Books.{Book, settled_of}
use Rattle.mk_solve.specs.declared.solving.RunStop.TheVariants.{Memory}
use Rattle.mk_solve.proofs.Endings.{table_solves, table_refused, solves_by_budget}
use Rattle.mk_solve.proofs.Faults.{the_error}
use Rattle.mk_solve.proofs.Columns.{IsSaturating, nothing_kept, begins, column_done, column_refused, fewer, all_done, last_refused}
use Rattle.mk_solve.proofs.Reached.{IsReached, reached_solves}
use Rattle.mk_solve.proofs.Tails.{reduction_refused}
use Rattle.mk_solve.proofs.Minimising.{minimising_solves}
use Rattle.mk_solve.proofs.solving.solve.Goals as goal
use Rattle.mk_solve.proofs.solving.solve.Given.{Over}
use Rattle.mk_solve.proofs.solving.solve.Goals.{In-Some, In_ok-saturate_column, In_default, In_ok-job-2, In_ok-saturated}

-- ---- the job of the next column
next_job : (g : Over) (c : In-Some g) → IsNextJob c.loop-saturation.saturation (c.args.budget - settled_of c.loop-saturation.book.phases) (Some c.in-Some.job)
next_job g c =
    subst (λ n. IsNextJob c.loop-saturation.saturation (c.args.budget - n) (Some c.in-Some.job)) c.settled.ensures
    (subst (λ (found : Option JobView). IsNextJob c.loop-saturation.saturation (c.args.budget - c.settled.result) found) c.in-Some.is c.in_ok-job.ensures)

saturated_more : (g : Over) (c : In_ok-saturate_column g) → IsNextJob c.loop-saturation.saturation (c.args.budget - settled_of c.loop-saturation.book.phases) (Some c.in-Some.job) →
    IsSaturating (rows_of c.args.lat.now) c.args.grading.now c.args.budget c.saturate_column.new.saturation c.saturate_column.new.book
saturated_more g c next =
    column_done (rows_of c.args.lat.now) c.args.grading.now c.args.budget c.loop-saturation.saturation c.loop-saturation.book c.loop-saturation.invariant c.in-Some.job next
    c.saturate_column.new.saturation c.saturate_column.new.book c.in_ok-saturate_column.ensures.0 c.in_ok-saturate_column.ensures.1

-- ---- the last job
none_left : (g : Over) (c : In_default g) → NoneLeft c.loop-saturation.saturation.left
none_left g c = subst (λ (found : Option JobView). IsNextJob c.loop-saturation.saturation (c.args.budget - c.settled.result) found) c.in_default.is c.in_ok-job.ensures

last_job : (g : Over) (c : In_ok-job-2 g) → IsJob c.loop-saturation.saturation.basis (standard (length c.loop-saturation.saturation.basis.grading)) (c.args.budget - settled_of c.loop-saturation.book.phases) c.in_ok-job-2.job
last_job g c =
    subst (λ n. IsJob c.loop-saturation.saturation.basis (standard (length c.loop-saturation.saturation.basis.grading)) (c.args.budget - n) c.in_ok-job-2.job) c.settled-2.ensures c.in_ok-job-2.ensures

pub returns-in_err-saturation : goal.returns-in_err-saturation
returns-in_err-saturation g c =
    let s = table_refused c.args.lat.now c.args.grading.now c.args.budget c.args.upto c.from_residual.result Memory c.args.book.now c.requires.columns (the_error c.from_residual.result Memory c.from_residual.ensures.1)
    (nothing_kept (rows_of c.args.lat.now) c.args.grading.now c.args.budget c.args.book.now c.requires.book) in
    record { solved = s; budget = solves_by_budget _ c.args.budget _ _ c.args.book.now s }

pub loop-saturation-init : goal.loop-saturation-init
loop-saturation-init g c =
    begins (rows_of c.args.lat.now) c.args.grading.now c.args.lat.now.columns c.args.budget c.in_ok-saturation.saturation c.free_columns.new.self c.args.book.now c.requires.columns
    c.in_ok-saturation.ensures.basis c.in_ok-saturation.ensures.left c.in_ok-saturation.ensures.lattice (record { freed = c.free_columns.ensures.left }) c.requires.book

pub loop-saturation-smaller : goal.loop-saturation-smaller
loop-saturation-smaller g c = fewer c.loop-saturation.saturation.left c.saturate_column.new.saturation.left c.in_ok-saturate_column.ensures.1

pub loop-saturation-preserved : goal.loop-saturation-preserved
loop-saturation-preserved g c =
    let at = goal.at.loop-saturation-preserved g c in
    saturated_more g at.In_ok-saturate_column (next_job g at.In-Some)

pub returns-in_err-job : goal.returns-in_err-job
returns-in_err-job g c =
    let book = c.loop-saturation.book in
    let s = table_refused c.args.lat.now c.args.grading.now c.args.budget c.args.upto c.from_residual-in_err-job.result Memory book c.requires.columns (the_error c.from_residual-in_err-job.result Memory c.from_residual-in_err-job.ensures.1)
    (reached_solves (rows_of c.args.lat.now) c.args.grading.now c.args.budget c.loop-saturation.invariant.rest c.loop-saturation.saturation.basis book _ c.loop-saturation.invariant.reached) in
    record { solved = s; budget = solves_by_budget _ c.args.budget _ _ book s }

pub returns-in_err-saturate_column : goal.returns-in_err-saturate_column
returns-in_err-saturate_column g c =
    let fault = c.in_err-saturate_column.field-0.0 in
    let after = c.saturate_column.new.book in
    let s = table_refused c.args.lat.now c.args.grading.now c.args.budget c.args.upto c.from_residual-in_err-saturate_column.result fault after c.requires.columns
    (the_error c.from_residual-in_err-saturate_column.result fault c.from_residual-in_err-saturate_column.ensures.1)
    (column_refused (rows_of c.args.lat.now) c.args.grading.now c.args.budget c.loop-saturation.saturation c.loop-saturation.book c.loop-saturation.invariant c.in-Some.job
    (next_job g (goal.at.returns-in_err-saturate_column g c).In-Some) c.saturate_column.new.saturation after fault c.in_err-saturate_column.ensures) in
    record { solved = s; budget = solves_by_budget _ c.args.budget _ _ after s }

pub returns-in_err-job-2 : goal.returns-in_err-job-2
returns-in_err-job-2 g c =
    let book = c.loop-saturation.book in
    let s = table_refused c.args.lat.now c.args.grading.now c.args.budget c.args.upto c.from_residual-in_err-job-2.result Memory book c.requires.columns (the_error c.from_residual-in_err-job-2.result Memory c.from_residual-in_err-job-2.ensures.1)
    (reached_solves (rows_of c.args.lat.now) c.args.grading.now c.args.budget c.loop-saturation.invariant.rest c.loop-saturation.saturation.basis book _ c.loop-saturation.invariant.reached) in
    record { solved = s; budget = solves_by_budget _ c.args.budget _ _ book s }

pub returns-in_err-saturated : goal.returns-in_err-saturated
returns-in_err-saturated g c =
    let fault = c.in_err-saturated.field-0.0 in
    let after = c.finish.new.book in
    let at = goal.at.returns-in_err-saturated g c in
    let s = table_refused c.args.lat.now c.args.grading.now c.args.budget c.args.upto c.from_residual-in_err-saturated.result fault after c.requires.columns
    (the_error c.from_residual-in_err-saturated.result fault c.from_residual-in_err-saturated.ensures.1)
    (last_refused (rows_of c.args.lat.now) c.args.grading.now c.args.budget c.loop-saturation.saturation c.loop-saturation.book c.loop-saturation.invariant (none_left g at.In_default)
    c.in_ok-job-2.job (last_job g at.In_ok-job-2) after fault c.in_err-saturated.ensures) in
    record { solved = s; budget = solves_by_budget _ c.args.budget _ _ after s }

-- every phase is ended
reached_all : (g : Over) (c : In_ok-saturated g) → NoneLeft c.loop-saturation.saturation.left →
    IsJob c.loop-saturation.saturation.basis (standard (length c.loop-saturation.saturation.basis.grading)) (c.args.budget - settled_of c.loop-saturation.book.phases) c.in_ok-job-2.job →
    IsReached (rows_of c.args.lat.now) c.args.grading.now c.args.budget (vectors_of c.in_ok-saturated.saturated.moves) c.in_ok-saturated.saturated c.finish.new.book []
reached_all g c none job =
    all_done (rows_of c.args.lat.now) c.args.grading.now c.args.budget c.loop-saturation.saturation c.loop-saturation.book c.loop-saturation.invariant none
    c.in_ok-job-2.job job c.in_ok-saturated.saturated c.finish.new.book c.in_ok-saturated.ensures

pub returns-in_err-reduced : goal.returns-in_err-reduced
returns-in_err-reduced g c =
    let fault = c.in_err-reduced.field-0.0 in
    let after = c.reduce.new.book in
    let at = goal.at.returns-in_err-reduced g c in
    let s = table_refused c.args.lat.now c.args.grading.now c.args.budget c.args.upto c.from_residual-in_err-reduced.result fault after c.requires.columns
    (the_error c.from_residual-in_err-reduced.result fault c.from_residual-in_err-reduced.ensures.1)
    (reduction_refused (rows_of c.args.lat.now) c.args.grading.now c.args.budget c.in_ok-saturated.saturated c.finish.new.book (reached_all g at.In_ok-saturated (none_left g at.In_default) (last_job g at.In_ok-job-2))
    fault after c.in_err-reduced.ensures) in
    record { solved = s; budget = solves_by_budget _ c.args.budget _ _ after s }

pub choose-requires-clause-grading : goal.choose-requires-clause-grading
choose-requires-clause-grading g c =
    let at = goal.at.choose-requires-clause-grading g c in
    let reached = reached_all g at.In_ok-saturated (none_left g at.In_default) (last_job g at.In_ok-job-2) in
    sym (c.in_ok-reduced.ensures.0.grading ∙ reached.grading)

pub returns : goal.returns
returns g c =
    let at = goal.at.returns g c in
    let reached = reached_all g at.In_ok-saturated (none_left g at.In_default) (last_job g at.In_ok-job-2) in
    let s = table_solves c.args.lat.now c.args.grading.now c.args.budget c.args.upto c.choose.result c.choose.new.book c.requires.columns
    (minimising_solves (rows_of c.args.lat.now) c.args.grading.now c.args.budget c.in_ok-saturated.saturated c.reduce.new.book
    (subst (λ (b : Book). IsReached (rows_of c.args.lat.now) c.args.grading.now c.args.budget (vectors_of c.in_ok-saturated.saturated.moves) c.in_ok-saturated.saturated b [])
    (sym c.in_ok-reduced.ensures.1) reached)
    c.in_ok-reduced.reduced c.in_ok-reduced.ensures.0 c.choose.result c.choose.new.book c.choose.ensures) in
    record { solved = s; budget = solves_by_budget _ c.args.budget _ _ c.choose.new.book s }
