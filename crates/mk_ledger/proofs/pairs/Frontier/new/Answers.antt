use Rattle.mk_ledger.proofs.PairNumbers.{number_first}
use Rattle.mk_ledger.proofs.pairs.Frontier.new.Goals as goal

pub returns : goal.returns
returns c = number_first
