-- The range of the numbers that a pivot computes.
use Rattle.std.specs.Prelude.{ℤ, ◌-ℤ◌, ◌*ℤ◌, neg_ℤ, ◌≤ℤ◌}
use Rattle.mk_grader.specs.declared.numbers.TheConstants.{PIVOT_MAX}

abbrev pub IsInRange : ℤ → Type 0
IsInRange z = (neg_ℤ PIVOT_MAX ≤ℤ z) × (z ≤ℤ PIVOT_MAX)

-- what a pivot divides at an entry can be computed: both products and their difference are in range
pub record IsComputed (a p f g : ℤ) : Type 0 where
  pub product : IsInRange (a *ℤ p)
  pub other : IsInRange (f *ℤ g)
  pub difference : IsInRange ((a *ℤ p) -ℤ (f *ℤ g))
