use Rattle.mk_journal.proofs.JournalRuns.{alone}
use Rattle.mk_journal.proofs.journal.Run.of.Goals as goal

pub returns-clause-entries : goal.returns-clause-entries
returns-clause-entries c = alone c.args.entry c.requires
