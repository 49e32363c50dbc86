use Rattle.std.proofs.Common.{refl}
use Rattle.mk_examples.proofs.PairExamples.{supported, joined_up_to, signed_rows, connected_up_to}
use Rattle.mk_examples.proofs.examples.saturation_examples.Goals as goal

pub returns : goal.returns
returns c = record {
  removed = (refl, refl);
  supported = supported;
  joined_up_to = joined_up_to;
  signed_rows = signed_rows;
  connected_up_to = connected_up_to;
}
