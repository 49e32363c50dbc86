use Rattle.std.proofs.Common.{◌≡◌, arith, ap, w64, inl, inr}
use lib.Count.{count_trailing_zeros}
use Rattle.std.proofs.lemmas.Bool.{cases_lt}
use Rattle.std.proofs.lemmas.Nat.Bits.{bit_at-trailing_zeros}
use Rattle.mk_support.proofs.bits.lowest_bit.Goals as goal

-- src/bits.rt:13:1
pub returns-clause-set : goal.returns-clause-set
unfolding count_trailing_zeros
returns-clause-set c low = elim (cases_lt 0 c.args.mask) [
  | inl some ↦ let (_, there, _) = bit_at-trailing_zeros w64 c.args.mask some c.ranges.mask.fits in there
  | inr none ↦
      let is_zero : c.args.mask ≡ 0 = omega (arith, none) in
      let past : count_trailing_zeros 64 c.args.mask ≡ 64 = ap (count_trailing_zeros 64) is_zero in
      absurd (omega (arith, low, past))
]
