use Rattle.std.proofs.Common.{arith, ap, ◌∙◌}
use Rattle.mk_ledger.specs.PairFlags.{flag_at, flags_of}
use Rattle.mk_ledger.proofs.PairNumbers.{pairs_of_none}
use Rattle.mk_ledger.proofs.Words.{flag_without_words}
use Rattle.mk_ledger.proofs.bits.SettledBits.new.Goals as goal

pub invariant_of-result : goal.invariant_of-result
invariant_of-result c = record {
  few = omega arith;
  room = omega (arith, pairs_of_none);
  clear = λ k _. ap (λ ws. flag_at ws k) c.new.ensures.items ∙ flag_without_words k;
}

pub returns : goal.returns
returns c = ap (λ n. record { moves = 0; flags = flags_of c.new.result.items n }) pairs_of_none
