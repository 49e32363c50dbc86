use Rattle.std.proofs.Common.{inr, Ok, subst, sym}
use Rattle.mk_model.specs.Tables.{ReadsTable}
use Rattle.mk_files.specs.Bounds.{limits_of}
use Rattle.mk_files.proofs.FaultsFound.{gives_grid, gives_fault, refused}
use Rattle.mk_files.proofs.reading.read_table.Goals as goal

pub returns-in_err-rows-clause-only : goal.returns-in_err-rows-clause-only
returns-in_err-rows-clause-only c =
    (refused c.args.bytes.now (limits_of c.args.bounds.now) c.from_residual.result c.in_err-rows.field-0.0 c.from_residual.ensures.1 (inr c.in_err-rows.ensures.fault)).0

pub returns-in_err-rows-clause-faulty : goal.returns-in_err-rows-clause-faulty
returns-in_err-rows-clause-faulty c =
    (refused c.args.bytes.now (limits_of c.args.bounds.now) c.from_residual.result c.in_err-rows.field-0.0 c.from_residual.ensures.1 (inr c.in_err-rows.ensures.fault)).1

pub returns-in_err-columns-clause-only : goal.returns-in_err-columns-clause-only
returns-in_err-columns-clause-only c =
    (refused c.args.bytes.now (limits_of c.args.bounds.now) c.from_residual-in_err-columns.result c.in_err-columns.field-0.0 c.from_residual-in_err-columns.ensures.1 (inr c.in_err-columns.ensures.fault)).0

pub returns-in_err-columns-clause-faulty : goal.returns-in_err-columns-clause-faulty
returns-in_err-columns-clause-faulty c =
    (refused c.args.bytes.now (limits_of c.args.bounds.now) c.from_residual-in_err-columns.result c.in_err-columns.field-0.0 c.from_residual-in_err-columns.ensures.1 (inr c.in_err-columns.ensures.fault)).1

pub returns-in_err-entries-clause-only : goal.returns-in_err-entries-clause-only
returns-in_err-entries-clause-only c =
    (refused c.args.bytes.now (limits_of c.args.bounds.now) c.from_residual-in_err-entries.result c.in_err-entries.field-0.0 c.from_residual-in_err-entries.ensures.1 c.in_err-entries.ensures.fault).0

pub returns-in_err-entries-clause-faulty : goal.returns-in_err-entries-clause-faulty
returns-in_err-entries-clause-faulty c =
    (refused c.args.bytes.now (limits_of c.args.bounds.now) c.from_residual-in_err-entries.result c.in_err-entries.field-0.0 c.from_residual-in_err-entries.ensures.1 c.in_err-entries.ensures.fault).1

pub returns-clause-only : goal.returns-clause-only
returns-clause-only c =
    let read = subst (ReadsTable c.args.bytes.now (limits_of c.args.bounds.now)) (sym c.from_entries.ensures.grid) c.in_ok-entries.ensures.ok in
    gives_grid c.args.bytes.now (limits_of c.args.bounds.now) (Ok c.from_entries.result) read tt

pub returns-clause-faulty : goal.returns-clause-faulty
returns-clause-faulty c =
    let read = subst (ReadsTable c.args.bytes.now (limits_of c.args.bounds.now)) (sym c.from_entries.ensures.grid) c.in_ok-entries.ensures.ok in
    gives_fault c.args.bytes.now (limits_of c.args.bounds.now) (Ok c.from_entries.result) read tt
