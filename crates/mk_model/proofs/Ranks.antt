-- The rank of a nonnegative vector along a priority list: a natural number that is smaller for what is below.
use Rattle.std.proofs.Common.{◌≡◌, ◌⊎◌, inl, inr, ℕ, suc, ◌+◌, ◌-◌, ◌*◌, ◌^◌, ◌≤◌, ◌<◌, List, [], ◌∷◌, length, ℤ, pos, negsuc, ◌≤ℤ◌, arith}
use Rattle.std.proofs.Common.{ap, refl}
use Rattle.std.proofs.lemmas.Int.{ints}
use borrow.Author.Differences.{up, down}
use Rattle.std.proofs.Math.Nat.{pow-suc, pow-zero, mul-le-mul_right}
use Rattle.mk_model.specs.Vectors.{entry, weight, IsPoint}
use Rattle.mk_model.specs.Lattices.{lattice_of, HasGrading}
use Rattle.mk_model.specs.Orders.{IsBelow}
use Rattle.mk_model.proofs.VectorAlgebra.{entry_within_weight}
use Rattle.std.proofs.lemmas.List.{get_or_past}

-- the entries along the list, each as its distance from the bound, as digits
abbrev pub rank : ℕ → List ℕ → List ℤ → ℕ
rank bound [] x = 0
rank bound (c ∷ p) x = (bound - up (entry x c)) * (suc bound ^ length p) + rank bound p x

-- the entries are from 0 to the bound
pub record IsBounded (bound : ℕ) (x : List ℤ) : Type 0 where
  pub nonnegative : (c : ℕ) → pos 0 ≤ℤ entry x c
  pub within : (c : ℕ) → up (entry x c) ≤ bound

pub down_of_nonnegative : (a : ℤ) → pos 0 ≤ℤ a → down a ≡ 0
down_of_nonnegative (pos a) h = refl
down_of_nonnegative (negsuc a) h = absurd (omega (arith, ints))

pub rank_limit : (bound : ℕ) (p : List ℕ) (x : List ℤ) → rank bound p x < suc bound ^ length p
rank_limit bound [] x = omega (arith, pow-zero (suc bound))
rank_limit bound (c ∷ p) x =
    omega (
      arith,
      rank_limit bound p x,
      pow-suc (suc bound) (length p),
      mul-le-mul_right (suc bound ^ length p) (digit bound (up (entry x c))),
    )
  where
    digit : (b a : ℕ) → b - a ≤ b
    digit b a = omega arith

pub rank_below : (bound : ℕ) (p : List ℕ) (x y : List ℤ) → IsBounded bound x → IsBounded bound y → IsBelow p x y →
    rank bound p x < rank bound p y
rank_below bound [] x y g h b = absurd b
rank_below bound (c ∷ p) x y g h (inl b) =
    omega (arith, rank_limit bound p x, mul-le-mul_right (suc bound ^ length p) digits)
  where
    digits : suc (bound - up (entry x c)) ≤ bound - up (entry y c)
    digits = omega (arith, ints, down_of_nonnegative _ (g.nonnegative c), down_of_nonnegative _ (h.nonnegative c), g.within c, h.within c)
rank_below bound (c ∷ p) x y g h (inr (e, b)) =
    omega (arith, rank_below bound p x y g h b, ap (λ a. (bound - up a) * (suc bound ^ length p)) e)

-- a point of a graded lattice is bounded by its weight
pub IsBounded-weight : {n : ℕ} {rows : List (List ℤ)} {w x : List ℤ} → HasGrading (lattice_of n rows w) → IsPoint n x →
    IsBounded (up (weight w x)) x
IsBounded-weight {n} {rows} {w} {x} g p = record { nonnegative = p.nonnegative; within = λ c. go c (cases c n) }
  where
    cases : (c n : ℕ) → (c < n) ⊎ (n ≤ c)
    cases c n = grind arith

    go : (c : ℕ) → (c < n) ⊎ (n ≤ c) → up (entry x c) ≤ up (weight w x)
    go c (inl l) =
        omega (
          arith,
          ints,
          entry_within_weight w x c (λ c h. g.positive c (omega (arith, g.columns))) p.nonnegative
              (omega (arith, g.columns)),
          down_of_nonnegative _ (p.nonnegative c),
        )
    go c (inr l) = rw (get_or_past x c (pos 0) (omega (arith, p.columns))) (omega arith)
