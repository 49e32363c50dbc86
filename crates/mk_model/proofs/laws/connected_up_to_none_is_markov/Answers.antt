use Rattle.mk_model.proofs.Connections.{markov_from_connected, connected_from_markov}
use Rattle.mk_model.proofs.laws.connected_up_to_none_is_markov.Goals as goal

pub returns : goal.returns
returns c = λ n rows columns moves none inside. (
  markov_from_connected n rows columns moves none inside,
  connected_from_markov n rows columns moves,
)
