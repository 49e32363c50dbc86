use Rattle.std.proofs.Common.{◌+◌, ◌≤◌, length, Ok, ap, ◌∙◌, sym, subst, arith, List, ℤ, ℕ}
use Rattle.std.proofs.lemmas.List.{take_all}
use Rattle.mk_model.specs.Tables.{rows_of}
use Rattle.mk_model.proofs.TableRows.{length-cut}
use Rattle.mk_move.specs.Moves.{ReadsRow}
use Rattle.mk_move.specs.MoveLists.{BasisView}
use Rattle.mk_saturate.specs.Starts.{Starts}
use Rattle.mk_saturate.proofs.RowsTurned.{row_taken, length-with_move, puts_on}
use Rattle.mk_saturate.proofs.start.start_basis.Goals as goal

pub put-requires : goal.put-requires
put-requires c =
    let basis = c.loop-r.basis in
    let read = subst (λ (p : List ℕ). ReadsRow c.row.result.now basis.grading p (Ok c.in_ok-found.found)) c.priority.ensures
    (subst (λ (w : List ℤ). ReadsRow c.row.result.now w c.priority.result.now (Ok c.in_ok-found.found)) c.grading.ensures c.in_ok-found.ensures) in
    let columns = c.row.ensures.len ∙ sym c.requires.list ∙ sym (ap length c.loop-r.invariant.0.0.priority) in
    puts_on basis c.row.result.now c.in_ok-found.found c.loop-r.r columns read c.loop-r.invariant.1 (omega (arith, c.rows-r-end.ensures.value, c.rows-r-end.ensures.small))

pub loop-r-preserved : goal.loop-r-preserved
loop-r-preserved c =
    let rows = rows_of c.args.lat.now in
    let row = c.row.result.now in
    let read = subst (λ (p : List ℕ). ReadsRow row c.args.grading p (Ok c.in_ok-found.found)) (c.priority.ensures ∙ c.loop-r.invariant.0.0.priority)
    (subst (λ (w : List ℤ). ReadsRow row w c.priority.result.now (Ok c.in_ok-found.found)) (c.grading.ensures ∙ c.loop-r.invariant.0.0.grading) c.in_ok-found.ensures) in
    let put = c.in_ok-put.ensures in (
      row_taken rows c.loop-r.r row c.row.ensures.value c.args.grading c.args.priority c.loop-r.basis c.loop-r.invariant.0 c.in_ok-found.found c.put.new.basis read put,
      subst (λ (b : BasisView). length b.moves ≤ c.loop-r.r + 1) (sym put) (length-with_move c.loop-r.basis.moves c.in_ok-found.found c.loop-r.r c.loop-r.invariant.1),
    )

pub returns-clause-basis : goal.returns-clause-basis
returns-clause-basis c =
    let rows = rows_of c.args.lat.now in
    let count = length-cut c.args.lat.now.rows c.args.lat.now.columns c.args.lat.now.entries in
    subst (λ (xs : List (List ℤ)). Starts xs c.args.grading c.args.priority (Ok c.loop-r.basis)) (take_all c.loop-r.r rows (omega (arith, count))) c.loop-r.invariant.0
