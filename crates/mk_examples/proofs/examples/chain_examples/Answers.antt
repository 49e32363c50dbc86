use Rattle.mk_examples.proofs.ChainExamples.{chain, too_early}
use Rattle.mk_examples.proofs.examples.chain_examples.Goals as goal

pub returns : goal.returns
returns c = record { chain = chain; too_early = too_early }
