-- What the code reads of weights, and what its comparisons of them say.
use Rattle.std.proofs.Common.{◌≡◌, ◌<◌, ◌^◌, ℤ, ◌+ℤ◌, unsigned_abs, arith}
use mir.Syntax.{w128}
use mir.Val.{SFits, to_z, of_z}
use lib.Signed.{mag}
use Rattle.std.proofs.lemmas.Int.{ints, to_z-of_z, fits_signed_from_abs}
use Rattle.mk_move.proofs.Entries.{abs_bounds, abs_from_bounds}

pub wide_same : (z : ℤ) → mag z < 170141183460469231731687303715884105728 → to_z w128 (of_z w128 z) ≡ z
wide_same z h = to_z-of_z w128 z (record { sfits = h })

-- two products stay so small that the code adds them
pub sum_fits : (a b : ℤ) → unsigned_abs a < 2 ^ 121 → unsigned_abs b < 2 ^ 121 → SFits w128 (a +ℤ b)
sum_fits a b h k =
    let first = abs_bounds a (2 ^ 121) (omega (arith, h)) in
    let second = abs_bounds b (2 ^ 121) (omega (arith, k)) in
    fits_signed_from_abs w128 (a +ℤ b) (omega (arith, abs_from_bounds (a +ℤ b) (2 ^ 122) (omega (arith, ints, first.0, second.0)) (omega (arith, ints, first.1, second.1))))
