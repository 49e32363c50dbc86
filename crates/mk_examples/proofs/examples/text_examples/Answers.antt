use Rattle.std.proofs.Common.{arith, refl}
use Rattle.std.proofs.lemmas.Fmt.{decimal_digit}
use Rattle.mk_examples.proofs.examples.text_examples.Goals as goal

pub returns : goal.returns
returns c = record {
  two = rw (decimal_digit 2 (omega arith), decimal_digit 3 (omega arith), decimal_digit 0 (omega arith), decimal_digit 1 (omega arith))
      refl;
  none = rw (decimal_digit 0 (omega arith), decimal_digit 4 (omega arith)) refl;
}
