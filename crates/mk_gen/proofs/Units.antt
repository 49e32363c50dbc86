-- Entries times 1, 0 or -1.
use Rattle.std.proofs.Common.{◌≡◌, ℕ, zero, suc, ◌≤◌, ℤ, pos, negsuc, neg_ℤ, ◌*ℤ◌, ◌≤ℤ◌, unsigned_abs, ap, ◌∙◌, arith, Bool, true, false, ◌+◌}
use mir.Syntax.{w128}
use mir.Val.{to_z, of_z}
use Rattle.std.proofs.lemmas.Int.{ints, to_z-of_z, fits_signed_from_abs}
use Rattle.mk_model.specs.declared.TheConstants.{ENTRY_MAX}
use Rattle.std.specs.Prelude.{◌==◌, if◌then◌else◌}
use Rattle.mk_model.specs.Vectors.{IsEntry}
use Rattle.mk_gen.specs.Models.{neighbour_entry}

-- a number that is read as an entry
abbrev pub as_entry : ℤ → ℤ
as_entry a = to_z w128 (of_z w128 a)

abs_within : (a : ℤ) → IsEntry a → unsigned_abs a ≤ unsigned_abs ENTRY_MAX
abs_within (pos m) h = omega (arith, ints, h.0, h.1)
abs_within (negsuc m) h = omega (arith, ints, h.0, h.1)

pub entry_read : (a : ℤ) → IsEntry a → as_entry a ≡ a
entry_read a h = to_z-of_z w128 a (fits_signed_from_abs w128 a (omega (arith, abs_within a h)))

-- a factor 1, 0 or -1
abbrev pub IsUnit : ℤ → Type 0
IsUnit k = (neg_ℤ (pos 1) ≤ℤ k) × (k ≤ℤ pos 1)

pub unit_times : (k a : ℤ) → IsUnit k → IsEntry a → IsEntry (k *ℤ a)
unit_times (pos zero) a h j = (omega (arith, ints), omega (arith, ints))
unit_times (pos (suc zero)) a h j = (omega (arith, ints, j.0, j.1), omega (arith, ints, j.0, j.1))
unit_times (pos (suc (suc k))) a h j = absurd (omega (arith, ints, h.0, h.1))
unit_times (negsuc zero) a h j = (omega (arith, ints, j.0, j.1), omega (arith, ints, j.0, j.1))
unit_times (negsuc (suc k)) a h j = absurd (omega (arith, ints, h.0, h.1))

pub unit_is_entry : (k : ℤ) → IsUnit k → IsEntry k
unit_is_entry k h = (omega (arith, ints, h.0, h.1), omega (arith, ints, h.0, h.1))

-- a product as the code has it
pub product_read : (k a : ℤ) → IsUnit k → IsEntry a → as_entry (as_entry k *ℤ as_entry a) ≡ k *ℤ a
product_read k a h j =
    ap (λ z. as_entry (z *ℤ as_entry a)) (entry_read k (unit_is_entry k h)) ∙ ap (λ z. as_entry (k *ℤ z)) (entry_read a j) ∙ entry_read (k *ℤ a) (unit_times k a h j)

pub difference_is_unit : (s p : ℕ) → IsUnit (neighbour_entry s p)
difference_is_unit s p = go (p == s) (p == s + 1) where
  go : (a b : Bool) → IsUnit (if a then pos 1 else (if b then neg_ℤ (pos 1) else pos 0))
  go true b = (omega (arith, ints), omega (arith, ints))
  go false true = (omega (arith, ints), omega (arith, ints))
  go false false = (omega (arith, ints), omega (arith, ints))
