use Rattle.std.proofs.Common.{Err, ap}
use Rattle.mk_files.specs.declared.numbers.NumberFault.TheVariants.{NoNumber}
use Rattle.mk_files.proofs.ErrorsPassed.{passed_on}
use Rattle.mk_files.proofs.numbers.entry_of.Goals as goal

pub returns-in_err-entry-clause-no_number : goal.returns-in_err-entry-clause-no_number
returns-in_err-entry-clause-no_number c =
    λ is.
    let e = passed_on c.from_residual.result c.in_err-entry.field-0.0 NoNumber c.from_residual.ensures.1 is in
    c.in_err-entry.ensures.no_number (ap Err e)
