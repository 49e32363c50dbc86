-- How the code has an entry: in how many bits, and within which range.
use Rattle.std.proofs.Common.{◌≡◌, ℕ, ◌≤◌, ℤ, pos, negsuc, neg_ℤ, ◌≤ℤ◌, unsigned_abs, arith}
use mir.Syntax.{Width, w128}
use mir.Val.{SFits, to_z, of_z}
use Rattle.std.proofs.lemmas.Int.{ints, to_z-of_z, fits_signed_from_abs}
use Rattle.mk_model.specs.declared.TheConstants.{ENTRY_MAX}
use Rattle.mk_model.specs.Vectors.{IsEntry}

abbrev pub entry_width : Width
entry_width = w128

-- a number that is read as an entry
abbrev pub as_entry : ℤ → ℤ
as_entry a = to_z entry_width (of_z entry_width a)

-- the largest entry
abbrev pub most_entry : ℕ
most_entry = unsigned_abs ENTRY_MAX

-- a number between minus n and n, by its absolute value
pub abs_bounds : (z : ℤ) (n : ℕ) → unsigned_abs z ≤ n → (neg_ℤ (pos n) ≤ℤ z) × (z ≤ℤ pos n)
abs_bounds (pos m) n h = (omega (arith, ints), omega (arith, ints))
abs_bounds (negsuc m) n h = (omega (arith, ints), omega (arith, ints))

pub abs_from_bounds : (z : ℤ) (n : ℕ) → neg_ℤ (pos n) ≤ℤ z → z ≤ℤ pos n → unsigned_abs z ≤ n
abs_from_bounds (pos m) n h l = omega (arith, ints)
abs_from_bounds (negsuc m) n h l = omega (arith, ints)

pub IsEntry-abs : (a : ℤ) → IsEntry a → unsigned_abs a ≤ most_entry
IsEntry-abs a h = abs_from_bounds a most_entry h.0 h.1

pub IsEntry-from_abs : (a : ℤ) → unsigned_abs a ≤ most_entry → IsEntry a
IsEntry-from_abs a h = abs_bounds a most_entry h

-- an absolute value that is no larger than that of an entry
pub fits_entry : (a : ℤ) → unsigned_abs a ≤ most_entry → SFits entry_width a
fits_entry a h = fits_signed_from_abs entry_width a (omega arith)

pub IsEntry-fits : (a : ℤ) → IsEntry a → SFits entry_width a
IsEntry-fits a h = fits_entry a (IsEntry-abs a h)

pub entry_read : (a : ℤ) → IsEntry a → as_entry a ≡ a
entry_read a h = to_z-of_z entry_width a (IsEntry-fits a h)
