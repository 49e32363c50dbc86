use Rattle.mk_examples.proofs.HaltExamples.{memory, full, overflow, no_claim}
use Rattle.mk_examples.proofs.examples.halt_examples.Goals as goal

pub returns : goal.returns
returns c = record { memory = memory; full = full; overflow = overflow; no_claim = no_claim }
