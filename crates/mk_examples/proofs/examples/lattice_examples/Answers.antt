use Rattle.std.proofs.Common.{refl}
use Rattle.mk_examples.proofs.VectorExamples.{inside, outside, same, grading}
use Rattle.mk_examples.proofs.examples.lattice_examples.Goals as goal

pub returns : goal.returns
returns c = record { inside = inside; outside = outside; nonzero = refl; same = same; grading = grading }
