-- Least common multiples, and vectors that divide others.
use Rattle.std.proofs.Common.{◌≡◌, ◌⊎◌, inl, inr, ℕ, ◌+◌, ◌≤◌, ◌<◌, max, List, length, ℤ, pos, ◌-ℤ◌, ◌≤ℤ◌, true, arith, refl, ⊎_elim}
use Rattle.std.proofs.lemmas.Int.{ints, clamps, int_max_is}
use Rattle.std.specs.Int.{int_max}
use borrow.Author.Differences.{up, down}
use Rattle.mk_model.specs.Vectors.{entry, subtract, positive_part, negative_part, IsPoint}
use Rattle.mk_model.specs.Orders.{lead}
use Rattle.mk_model.specs.Reductions.{lcm, Divides}
use Rattle.std.specs.Prelude.{int_le, All}
use Rattle.std.specs.Bool.{Decides}
use Rattle.std.specs.List.{list_all}
use Rattle.std.proofs.lemmas.Bool.{cases_lt, cases_Bool, both_ways}
use Rattle.std.proofs.lemmas.Bool.Decides.{Decides-like, Decides-by_and}
use Rattle.std.proofs.lemmas.List.{get_or_past, get_or_default}
use Rattle.mk_model.specs.Saturation.{divides}
use Rattle.mk_model.proofs.VectorAlgebra.{lengths, columns, same_vectors, length-combine, entry-combine, entry-positive_part}
use Rattle.mk_model.proofs.VectorAlgebra.{entry-subtract, positive_part-negate, negate-subtract}
use Rattle.mk_model.proofs.Integers.{max_within}

pub length-lcm : (x y : List ℤ) → length (lcm x y) ≡ max (length x) (length y)
unfolding lcm
length-lcm x y = length-combine int_max x y

pub entry-lcm : (x y : List ℤ) (c : ℕ) → entry (lcm x y) c ≡ int_max (entry x c) (entry y c)
unfolding lcm
entry-lcm x y c = entry-combine int_max refl x y c

pub lcm_at : (x y : List ℤ) (c : ℕ) → up (entry (lcm x y) c) + down (entry x c) + down (entry y c) ≡ down (entry (lcm x y) c) + max
    (up (entry x c) + down (entry y c)) (up (entry y c) + down (entry x c))
lcm_at x y c = simp entry-lcm (int_max_is (entry x c) (entry y c))

pub lcm-comm : (x y : List ℤ) → lcm x y ≡ lcm y x
lcm-comm x y = same_vectors _ _ (omega (arith, length-lcm)) (λ c. omega (arith, ints, lcm_at x y c, lcm_at y x c))

pub Divides-itself : (x : List ℤ) → Divides x x
Divides-itself x = record { entries = λ c. omega (arith, ints) }

pub Divides-transitive : {x y z : List ℤ} → Divides x y → Divides y z → Divides x z
Divides-transitive h k = record { entries = λ c. omega (arith, ints, h.entries c, k.entries c) }

pub Divides-lcm_first : (x y : List ℤ) → Divides x (lcm x y)
Divides-lcm_first x y = record { entries = λ c. omega (arith, ints, lcm_at x y c) }

pub Divides-lcm_second : (x y : List ℤ) → Divides y (lcm x y)
Divides-lcm_second x y = record { entries = λ c. omega (arith, ints, lcm_at x y c) }

pub lcm_divides : {x y z : List ℤ} → Divides x z → Divides y z → Divides (lcm x y) z
lcm_divides {x} {y} {z} h k = record { entries = λ c. omega (arith, ints, lcm_at x y c, h.entries c, k.entries c) }

pub IsPoint-lcm : {n : ℕ} {x y : List ℤ} → IsPoint n x → IsPoint n y → IsPoint n (lcm x y)
IsPoint-lcm {n} {x} {y} p q =
    record {
      columns = omega (arith, length-lcm, p.columns, q.columns);
      nonnegative = λ c. omega (arith, ints, lcm_at x y c, p.nonnegative c, q.nonnegative c);
    }

-- what divides a point leaves a point
pub IsPoint-quotient : {n : ℕ} {x y : List ℤ} → IsPoint n x → length y ≤ n → Divides y x → IsPoint n (subtract x y)
IsPoint-quotient p l h =
    record { columns = omega (arith, lengths, p.columns); nonnegative = λ c. omega (arith, ints, columns, h.entries c) }

-- a move whose lead divides a point leaves a point
pub IsPoint-lower : {n : ℕ} {x : List ℤ} (m : List ℤ) → IsPoint n x → length m ≤ n → Divides (lead m) x → IsPoint n (subtract x m)
IsPoint-lower m p l h =
    record { columns = omega (arith, lengths, p.columns); nonnegative = λ c. omega (arith, ints, columns, h.entries c) }

-- and back: where a point less a move is a point, the lead divides it
pub lead_divides : {n : ℕ} (x m : List ℤ) → IsPoint n x → IsPoint n (subtract x m) → Divides (lead m) x
lead_divides x m p q = record { entries = λ c. go c (p.nonnegative c) (q.nonnegative c) }
  where
    go : (c : ℕ) → pos 0 ≤ℤ entry x c → pos 0 ≤ℤ entry (subtract x m) c → entry (lead m) c ≤ℤ entry x c
    go c h k = simp entry-positive_part (max_within (entry m c) (entry x c) h (omega (arith, ints, columns)))

-- the parts of the difference of two points divide them
pub Divides-positive_part : {n : ℕ} {a b : List ℤ} → IsPoint n a → IsPoint n b → Divides (positive_part (subtract a b)) a
Divides-positive_part {n} {a} {b} p q = record {
  entries = λ c. simp (entry-positive_part, entry-subtract)
      (clamp (entry a c) (entry b c) (p.nonnegative c) (q.nonnegative c));
}
  where
    clamp : (a b : ℤ) → pos 0 ≤ℤ a → pos 0 ≤ℤ b → int_max (a -ℤ b) (pos 0) ≤ℤ a
    clamp a b h k = omega (arith, ints, clamps)

pub Divides-negative_part : {n : ℕ} {a b : List ℤ} → IsPoint n a → IsPoint n b → Divides (negative_part (subtract a b)) b
Divides-negative_part {n} {a} {b} p q = rw (← positive_part-negate, negate-subtract) (Divides-positive_part q p)

-- ---- the test
Decides-int_le : (a b : ℤ) → Decides (int_le a b) (a ≤ℤ b)
Decides-int_le a b = ((λ e. grind (arith, ints)), (λ h. grind (arith, ints)))

pub Decides-divides : (x y : List ℤ) → Decides (divides x y) (Divides x y)
unfolding divides
Decides-divides x y =
    Decides-like (divides x y) there back (Decides-by_and (λ a. int_le a (pos 0)) (λ a. a ≤ℤ pos 0) (list_all (λ a. int_le a (pos 0)))
    (λ a. Decides-int_le a (pos 0)) refl (λ _ _. refl) (subtract x y))
  where
    there : All (λ a. a ≤ℤ pos 0) (subtract x y) → Divides x y
    there h = record { entries = λ c. at h c (cases_lt c (length (subtract x y))) }
      where
        at : All (λ a. a ≤ℤ pos 0) (subtract x y) → (c : ℕ) → (c < length (subtract x y)) ⊎ (length (subtract x y) ≤ c) →
            entry x c ≤ℤ entry y c
        at h c (inl l) = omega (arith, ints, columns, h c (pos 0) l)
        at h c (inr l) =
            let f : entry x c ≡ pos 0 = get_or_past x c (pos 0) (omega (arith, lengths)) in
            let g : entry y c ≡ pos 0 = get_or_past y c (pos 0) (omega (arith, lengths)) in
            omega (arith, ints)

    back : Divides x y → All (λ a. a ≤ℤ pos 0) (subtract x y)
    back h k d l = rw (get_or_default (subtract x y) k d (pos 0) l) (omega (arith, ints, columns, h.entries k))

pub divides_true : (x y : List ℤ) → divides x y ≡ true → Divides x y
divides_true x y e = (Decides-divides x y).0 e

pub divides_or_not : (x y : List ℤ) → Divides x y ⊎ (Divides x y → ⊥)
divides_or_not x y =
    ⊎_elim (λ e. inl ((Decides-divides x y).0 e)) (λ e. inr (λ d. both_ways (divides x y) e ((Decides-divides x y).1 d)))
    (cases_Bool (divides x y))
