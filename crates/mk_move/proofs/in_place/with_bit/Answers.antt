use Rattle.std.proofs.Common.{◌*◌, ◌^◌, ◌%◌, inl, inr, rules, arith, sym, ◌∙◌, w64}
use Rattle.std.specs.Int.{bit_not}
use Rattle.std.proofs.lemmas.Bool.{cases_lt}
use Rattle.std.proofs.lemmas.Nat.{and_le_l}
use Rattle.std.proofs.lemmas.Nat.Bits.{bit_at_above, bit_at_set_same, bit_at_set_other, bit_at_clear_same, bit_at_clear_other}
use Rattle.mk_move.proofs.in_place.with_bit.Goals as goal

pub returns-then-set-clause-there : goal.returns-then-set-clause-there
returns-then-set-clause-there c = ((λ b. search rules), (λ t. bit_at_set_same w64 c.args.mask c.args.place c.requires))

pub returns-then-set-clause-others : goal.returns-then-set-clause-others
returns-then-set-clause-others c = λ other d. bit_at_set_other w64 c.args.mask c.args.place c.requires other d

pub returns-else-set-clause-there : goal.returns-else-set-clause-there
returns-else-set-clause-there c =
    let clear = bit_at_clear_same w64 c.args.mask c.args.place c.requires in
    ((λ b. absurd (omega (arith, clear, b))), (λ t. absurd (search rules)))

-- past the width both numbers have no bit
pub returns-else-set-clause-others : goal.returns-else-set-clause-others
returns-else-set-clause-others c = λ other d. elim (cases_lt other 64) [
  | inl l ↦ bit_at_clear_other w64 c.args.mask c.args.place c.requires other l d
  | inr l ↦ bit_at_above _ 64 other (omega (arith, and_le_l c.args.mask (bit_not w64 (1 * 2 ^ c.args.place % 2 ^ 64)), c.ranges.mask.fits)) l ∙ sym (bit_at_above c.args.mask 64 other c.ranges.mask.fits l)
]
