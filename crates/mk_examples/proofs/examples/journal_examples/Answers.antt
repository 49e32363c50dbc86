use Rattle.mk_examples.proofs.JournalExamples.{in_order, exchanged}
use Rattle.mk_examples.proofs.examples.journal_examples.Goals as goal

pub returns : goal.returns
returns c = record { in_order = in_order; exchanged = exchanged }
