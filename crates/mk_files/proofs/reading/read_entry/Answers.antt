use Rattle.std.proofs.Common.{Err, inl, ap, ◌∙◌}
use Rattle.mk_files.specs.declared.fault.TableFault.TheVariants.{BadNumber}
use Rattle.mk_files.proofs.reading.read_entry.Goals as goal

pub returns-in-Err-NoNumber-clause-fault : goal.returns-in-Err-NoNumber-clause-fault
returns-in-Err-NoNumber-clause-fault c =
    let never = c.entry_of.ensures.no_number (c.in-Err-NoNumber.is ∙ ap Err c.in-Err-NoNumber.field-0-is) in
    inl (never, ap BadNumber c.place_at.ensures)
