use Rattle.std.proofs.Common.{List, Ok, Err, ap, ◌∙◌, subst, ℤ}
use Rattle.mk_model.specs.Orders.{lead, tail}
use Rattle.mk_model.specs.Reductions.{Divides}
use Rattle.mk_move.proofs.Belongings.{BelongsTo-lead}
use Rattle.mk_move.proofs.Entries.{entry_read}
use Rattle.mk_move.proofs.MoveVectors.{vector_at}
use Rattle.mk_inter.proofs.TailSteps.{stepped, stepped_below, never_zero, step_fault, taken_off}
use Rattle.mk_inter.proofs.tail.tail_step.Goals as goal

pub added_times-times-requires-clause-not_zero : goal.added_times-times-requires-clause-not_zero
added_times-times-requires-clause-not_zero c =
    let kept = c.requires.saturated.kept in
    BelongsTo-lead c.args.basis.now.priority c.args.basis.now.grading c.move_at-by.result.now kept.priority kept.grading kept.columns c.move_at-by.ensures.belongs

pub added_times-times-requires-clause-divides : goal.added_times-times-requires-clause-divides
added_times-times-requires-clause-divides c =
    subst (λ (x : List ℤ). Divides (lead x) (tail c.args.rest.entries)) (vector_at c.args.basis.now.moves c.args.place c.move_at-by.result.now c.move_at-by.ensures.value) c.requires.step.divides

pub unreachable-requires : goal.unreachable-requires
unreachable-requires c =
    let times = c.added_times-times in
    let by = c.move_at-by.result.now in
    let taken = taken_off c.args.rest.entries by.entries (entry_read times.result times.ensures.range) c.grading.ensures (c.in-Ok-None.is ∙ ap Ok c.in-Ok-None.field-0-is) c.subtract_times.ensures in
    never_zero c.args.basis.now c.requires.saturated c.args.index c.args.place c.args.rest by c.requires.step c.move_at-by.ensures.value times.result times.ensures.times taken

pub returns-in-Ok-Some-clause-reduced : goal.returns-in-Ok-Some-clause-reduced
returns-in-Ok-Some-clause-reduced c =
    let times = c.added_times-times in
    let by = c.move_at-by.result.now in
    let taken = taken_off c.args.rest.entries by.entries (entry_read times.result times.ensures.range) c.grading.ensures (c.in-Ok-Some.is ∙ ap Ok c.in-Ok-Some.field-0-is) c.subtract_times.ensures in
    stepped c.args.basis.now c.requires.saturated c.args.index c.args.place c.args.rest by c.requires.step c.move_at-by.ensures.value times.result times.ensures.times c.in-Ok-Some.next taken

pub returns-in-Ok-Some-clause-falls : goal.returns-in-Ok-Some-clause-falls
returns-in-Ok-Some-clause-falls c =
    let times = c.added_times-times in
    let by = c.move_at-by.result.now in
    let taken = taken_off c.args.rest.entries by.entries (entry_read times.result times.ensures.range) c.grading.ensures (c.in-Ok-Some.is ∙ ap Ok c.in-Ok-Some.field-0-is) c.subtract_times.ensures in
    stepped_below c.args.basis.now c.requires.saturated c.args.index c.args.place c.args.rest by c.requires.step c.move_at-by.ensures.value times.result times.ensures.times c.in-Ok-Some.next taken

pub returns-in-Err-Overflow-clause-refused : goal.returns-in-Err-Overflow-clause-refused
returns-in-Err-Overflow-clause-refused c =
    let times = c.added_times-times in
    let by = c.move_at-by.result.now in
    let taken = taken_off c.args.rest.entries by.entries (entry_read times.result times.ensures.range) c.grading.ensures (c.in-Err-Overflow.is ∙ ap Err c.in-Err-Overflow.field-0-is) c.subtract_times.ensures in
    step_fault c.args.basis.now c.requires.saturated c.args.index c.args.place c.args.rest by c.requires.step c.move_at-by.ensures.value times.result times.ensures.times c.in-Err-Overflow.at taken
