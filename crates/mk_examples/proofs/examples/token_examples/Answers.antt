use Rattle.mk_examples.proofs.TokenExamples.{plus_zero, minus_zero, count_zero, no_count, plus, minus, plus_minus, spaces, no_spaces, split}
use Rattle.mk_examples.proofs.examples.token_examples.Goals as goal

pub returns : goal.returns
returns c = record {
  plus_zero = plus_zero;
  minus_zero = minus_zero;
  count_zero = count_zero;
  no_count = no_count;
  plus = plus;
  minus = minus;
  plus_minus = plus_minus;
  spaces = spaces;
  no_spaces = no_spaces;
  split = split;
}
