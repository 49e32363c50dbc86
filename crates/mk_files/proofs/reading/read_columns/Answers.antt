use Rattle.std.proofs.Common.{Err, ap, ◌∙◌}
use Rattle.mk_files.proofs.FaultsFound.{columns_read, no_columns, bad_columns, many_columns}
use Rattle.mk_files.proofs.reading.read_columns.Goals as goal

pub returns-in_default-clause-fault : goal.returns-in_default-clause-fault
returns-in_default-clause-fault c =
    no_columns c.args.bytes.now c.args.bounds.now c.args.rows c.args.end c.requires c.place_at.result c.place_at.ensures c.in_default.ensures

pub returns-in-Ok-clause-ok : goal.returns-in-Ok-clause-ok
returns-in-Ok-clause-ok c =
    columns_read c.args.bytes.now c.args.bounds.now c.args.rows c.args.end c.requires c.in-Some.second c.in-Ok.columns c.in-Some.ensures c.in-Ok.ensures.ok.1 c.in-Ok.ensures.ok.0

pub returns-in-Err-NoNumber-clause-fault : goal.returns-in-Err-NoNumber-clause-fault
returns-in-Err-NoNumber-clause-fault c =
    let never = c.count_of.ensures.no_number (c.in-Err-NoNumber.is ∙ ap Err c.in-Err-NoNumber.field-0-is) in
    bad_columns c.args.bytes.now c.args.bounds.now c.args.rows c.args.end c.requires c.in-Some.second c.place_at-in-Err-NoNumber.result c.in-Some.ensures c.place_at-in-Err-NoNumber.ensures never

pub returns-in-Err-OutOfRange-clause-fault : goal.returns-in-Err-OutOfRange-clause-fault
returns-in-Err-OutOfRange-clause-fault c =
    let many = c.count_of.ensures.out_of_range (c.in-Err-OutOfRange.is ∙ ap Err c.in-Err-OutOfRange.field-0-is) in
    many_columns c.args.bytes.now c.args.bounds.now c.args.rows c.args.end c.requires c.in-Some.second c.place_at-in-Err-OutOfRange.result c.in-Some.ensures c.place_at-in-Err-OutOfRange.ensures many
