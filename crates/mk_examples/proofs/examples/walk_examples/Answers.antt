use Rattle.mk_examples.proofs.WalkExamples.{joined, apart, not_joined, not_markov}
use Rattle.mk_examples.proofs.examples.walk_examples.Goals as goal

pub returns : goal.returns
returns c = record { joined = joined; apart = apart; not_joined = not_joined; not_markov = not_markov }
