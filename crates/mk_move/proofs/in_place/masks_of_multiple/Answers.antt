use Rattle.std.proofs.Common.{◌≢◌, arith, ℤ, pos, ◌<ℤ◌, ◌≤ℤ◌}
use Rattle.std.proofs.lemmas.Int.{ints, by_lt_z}
use Rattle.std.proofs.lemmas.Nat.{or_comm}
use Rattle.mk_move.proofs.Multiples.{masks_more, masks_less}
use Rattle.mk_move.proofs.in_place.masks_of_multiple.Goals as goal

pub returns-then-times-lt0-clause-masks : goal.returns-then-times-lt0-clause-masks
returns-then-times-lt0-clause-masks c y h some = masks_less c.args.times y c.args.plus c.args.minus (omega (arith, ints, c.if-times-lt0.true)) h

pub returns-else-times-lt0-clause-masks : goal.returns-else-times-lt0-clause-masks
returns-else-times-lt0-clause-masks c y h some = masks_more c.args.times y c.args.plus c.args.minus (positive c.args.times some (omega (arith, ints, c.if-times-lt0.false))) h
  where
    positive : (a : ℤ) → a ≢ pos 0 → pos 0 ≤ℤ a → pos 0 <ℤ a
    positive a d l = by_lt_z (pos 0) a (λ p. p) (λ p. absurd (d (omega (arith, ints))))

pub returns-then-times-lt0-clause-bits : goal.returns-then-times-lt0-clause-bits
returns-then-times-lt0-clause-bits c = or_comm c.args.minus c.args.plus
