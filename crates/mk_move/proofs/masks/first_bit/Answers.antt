use Rattle.std.proofs.Common.{◌≡◌, ◌≤◌, ◌<◌, ℕ, arith, sym, ap, ◌∙◌, w64}
use Rattle.std.specs.Int.{bit_at}
use Rattle.std.proofs.lemmas.Nat.{and_le_l}
use Rattle.std.proofs.lemmas.Nat.Bits.{bit_at-trailing_zeros}
use Rattle.mk_move.proofs.LowestBits.{lowest_cleared}
use Rattle.mk_move.proofs.masks.first_bit.Goals as goal

-- src/masks.rt:29:1
pub returns-clause-set : goal.returns-clause-set
returns-clause-set c =
    let (_, there, _) = bit_at-trailing_zeros w64 c.args.bits (omega arith) c.ranges.bits.fits in there

-- src/masks.rt:29:1
pub returns-clause-cleared : goal.returns-clause-cleared
returns-clause-cleared c =
    let (_, there, none) = bit_at-trailing_zeros w64 c.args.bits (omega arith) c.ranges.bits.fits in
    (lowest_cleared _ c.args.bits there none).0

-- src/masks.rt:29:1
pub returns-clause-others : goal.returns-clause-others
returns-clause-others c place l d =
    let (_, there, none) = bit_at-trailing_zeros w64 c.args.bits (omega arith) c.ranges.bits.fits in
    (lowest_cleared _ c.args.bits there none).1 place d

below : (a b k : ℕ) → a ≤ b → bit_at a k ≡ 0 → bit_at b k ≡ 1 → a < b
below a b k l none one = lt_of a b l (λ same. absurd (omega (arith, sym none ∙ ap (λ n. bit_at n k) same ∙ one)))
  where
    lt_of : (a b : ℕ) → a ≤ b → ¬ (a ≡ b) → a < b
    lt_of a b l d = omega arith

-- src/masks.rt:29:1
pub returns-clause-fewer : goal.returns-clause-fewer
returns-clause-fewer c = below _ c.args.bits _ (and_le_l c.args.bits _) (returns-clause-cleared c) (returns-clause-set c)
