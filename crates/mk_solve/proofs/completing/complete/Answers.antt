use Rattle.mk_solve.proofs.JobStops.{stops_by_budget, stops_by_full, stops_by_overflow}
use Rattle.mk_solve.proofs.completing.complete.Goals as goal

pub returns-in-Err-OverBudget : goal.returns-in-Err-OverBudget
returns-in-Err-OverBudget g c =
    let kept = c.keep_stop-in-Err-OverBudget in
    stops_by_budget c.args.job c.args.book.now c.in-Err-OverBudget.phase c.settled.result c.len.result kept.result kept.new.book c.settled.ensures c.len.ensures.value
    (rw c.in-Err-OverBudget.field-0-is at c.in-Err-OverBudget.ensures.answer) kept.ensures

pub returns-in-Err-Overflow : goal.returns-in-Err-Overflow
returns-in-Err-Overflow g c =
    let kept = c.keep_stop in
    stops_by_overflow c.args.job c.args.book.now c.in-Err-Overflow.phase c.phase_count.result c.in-Err-Overflow.stop kept.result kept.new.book c.phase_count.ensures
    (rw c.in-Err-Overflow.field-0-is at c.in-Err-Overflow.ensures.answer) kept.ensures

pub returns-in-Err-BasisFull : goal.returns-in-Err-BasisFull
returns-in-Err-BasisFull g c =
    let kept = c.keep_stop-in-Err-BasisFull in
    stops_by_full c.args.job c.args.book.now c.in-Err-BasisFull.phase c.phase_count-number.result c.in-Err-BasisFull.i c.in-Err-BasisFull.j kept.result kept.new.book c.phase_count-number.ensures
    (rw c.in-Err-BasisFull.field-0-is at c.in-Err-BasisFull.ensures.answer) kept.ensures
