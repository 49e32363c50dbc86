-- What the code reads of entries and of parts, and what its comparisons say.
use Rattle.std.proofs.Common.{◌≡◌, ℕ, ◌/◌, ◌≤◌, true, false, arith, ap, ◌∙◌, ℤ, pos, ◌-ℤ◌, ◌*ℤ◌, ◌≤ℤ◌, ◌<ℤ◌}
use lib.Signed.{lt_z, quot_z}
use Rattle.std.specs.Int.{int_max}
use Rattle.std.proofs.Math.Nat.{div-le_self}
use Rattle.std.proofs.lemmas.Int.{ints, to_z-of_z}
use Rattle.mk_model.specs.Vectors.{IsEntry}
use Rattle.mk_move.specs.declared.side.Side.{Side}
use Rattle.mk_move.specs.declared.side.Side.TheVariants.{Plus}
use Rattle.mk_move.specs.Sides.{entry_on}
use Rattle.mk_move.proofs.Entries.{entry_width, as_entry, most_entry, fits_entry, entry_read}
use Rattle.mk_move.proofs.Divisions.{entry_on_range}

pub less : (x y a b : ℤ) → x ≡ a → y ≡ b → lt_z x y ≡ true → a <ℤ b
less x y a b e f h = grind (arith, ints)

pub not_less : (x y a b : ℤ) → x ≡ a → y ≡ b → lt_z x y ≡ false → b ≤ℤ a
not_less x y a b e f h = grind (arith, ints)

pub part_read : (side : Side) (a r : ℤ) → IsEntry a → r ≡ entry_on side (as_entry a) → as_entry r ≡ entry_on side a
part_read side a r h e =
    ap (λ z. as_entry z) (e ∙ ap (entry_on side) (entry_read a h)) ∙ entry_read (entry_on side a) (entry_on_range side a h)

pub lead_read : (a r : ℤ) → IsEntry a → r ≡ int_max (as_entry a) (pos 0) → as_entry r ≡ int_max a (pos 0)
lead_read a r h e = part_read Plus a r h e

-- a quotient of natural numbers
pub quotient_read : (x y : ℤ) (a b : ℕ) → x ≡ pos a → y ≡ pos b → a ≤ most_entry → as_entry (quot_z x y) ≡ pos (a / b)
quotient_read x y a b e f most =
    ap (λ z. as_entry (quot_z z y)) e ∙ ap (λ z. as_entry (quot_z (pos a) z)) f
    ∙ to_z-of_z entry_width (pos (a / b)) (fits_entry (pos (a / b)) (omega (arith, div-le_self a b)))

-- the number that an entry less so many times another is, as it is handed to a function
pub less_read : (left times right : ℤ) → IsEntry left → IsEntry times → IsEntry right → as_entry left -ℤ (as_entry times *ℤ as_entry right) ≡ left -ℤ (times *ℤ right)
less_read left times right h k l =
    ap (λ x. x -ℤ (as_entry times *ℤ as_entry right)) (entry_read left h)
    ∙ ap (λ x. left -ℤ (x *ℤ as_entry right)) (entry_read times k) ∙ ap (λ x. left -ℤ (times *ℤ x)) (entry_read right l)
