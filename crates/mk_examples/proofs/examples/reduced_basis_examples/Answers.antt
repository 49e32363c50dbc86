use Rattle.mk_examples.proofs.TwistedCubic.{cubic_basis}
use Rattle.mk_examples.proofs.SmallCurve.{curve_basis}
use Rattle.mk_examples.proofs.ReducedBasisExamples.{reduced, least, none_lighter, components, star}
use Rattle.mk_examples.proofs.examples.reduced_basis_examples.Goals as goal

pub returns : goal.returns
returns c = record {
  of_twisted_cubic = cubic_basis;
  of_small_curve = curve_basis;
  reduced = reduced;
  least = least;
  none_lighter = none_lighter;
  components = components;
  star = star;
}
