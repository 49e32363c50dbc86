-- A small entry, as the code has it in 64 bits.
use Rattle.std.proofs.Common.{◌≡◌, ℤ, ap, ◌∙◌, arith}
use mir.Syntax.{w64}
use mir.Val.{to_z, of_z, SFits}
use Rattle.std.proofs.lemmas.Int.{to_z-of_z, fits_signed_from_abs}
use Rattle.mk_model.specs.ChosenGradings.{IsSmallEntry}
use Rattle.mk_move.proofs.Entries.{entry_width, as_entry, abs_from_bounds, fits_entry}

pub small_fits : (a : ℤ) → IsSmallEntry a → SFits w64 a
small_fits a h = fits_signed_from_abs w64 a (omega (arith, abs_from_bounds a 2147483647 h.0 h.1))

pub small_as_entry : (a : ℤ) → IsSmallEntry a → as_entry a ≡ a
small_as_entry a h = to_z-of_z entry_width a (fits_entry a (omega (arith, abs_from_bounds a 2147483647 h.0 h.1)))

pub small_read : (a : ℤ) → IsSmallEntry a → to_z w64 (of_z w64 (as_entry a)) ≡ a
small_read a h = ap (λ z. to_z w64 (of_z w64 z)) (small_as_entry a h) ∙ to_z-of_z w64 a (small_fits a h)
