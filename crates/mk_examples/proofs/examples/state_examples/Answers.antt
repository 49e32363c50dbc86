use Rattle.std.proofs.Common.{refl}
use Rattle.mk_model.specs.Vectors.{combine, subtract}
use Rattle.mk_examples.proofs.StateExamples.{pair, no_pair, order, begun, legal, phase_ended}
use Rattle.mk_examples.proofs.examples.state_examples.Goals as goal

pub returns : goal.returns
unfolding subtract combine
returns c = record { pair = pair; no_pair = no_pair; order = order; difference = refl; begun = begun; legal = legal; ended = phase_ended }
