-- Products of integers, and their order.
use Rattle.std.proofs.Common.{◌≡◌, ℕ, suc, ◌+◌, ◌*◌, ◌≤◌, ℤ, pos, negsuc, ◌+ℤ◌, ◌*ℤ◌, neg_ℤ, ◌≤ℤ◌, ◌<ℤ◌, arith, ap, refl, ◌∙◌}
use Rattle.std.proofs.lemmas.Int.{ints, clamps, by_lt_z}
use Rattle.std.specs.Int.{int_max}
use borrow.Author.Differences.{up, down, sum_is_lem, neg_is, product_is, le_out}
use lib.IntN.{*ℤ_comm}
use Rattle.std.proofs.Math.Nat.{mul-le-mul_left}

pub *ℤ-+ℤ : (k a b : ℤ) → k *ℤ (a +ℤ b) ≡ (k *ℤ a) +ℤ (k *ℤ b)
*ℤ-+ℤ k a b = omega (arith, ints, ap (λ z. up k * z) (sum_is_lem a b), ap (λ z. down k * z) (sum_is_lem a b))

pub +ℤ-*ℤ : (k l a : ℤ) → (k +ℤ l) *ℤ a ≡ (k *ℤ a) +ℤ (l *ℤ a)
+ℤ-*ℤ k l a = omega (arith, ints, ap (λ z. z * up a) (sum_is_lem k l), ap (λ z. z * down a) (sum_is_lem k l))

pub *ℤ-neg_ℤ : (k a : ℤ) → k *ℤ neg_ℤ a ≡ neg_ℤ (k *ℤ a)
*ℤ-neg_ℤ k a =
    let (p, q) = neg_is a in
    omega (arith, ints, ap (λ z. up k * z) p, ap (λ z. down k * z) p, ap (λ z. up k * z) q, ap (λ z. down k * z) q)

pub neg_ℤ-*ℤ : (k a : ℤ) → neg_ℤ k *ℤ a ≡ neg_ℤ (k *ℤ a)
neg_ℤ-*ℤ k a = *ℤ_comm (neg_ℤ k) a ∙ *ℤ-neg_ℤ a k ∙ ap neg_ℤ (*ℤ_comm a k)

pub *ℤ-assoc : (k l a : ℤ) → (k *ℤ l) *ℤ a ≡ k *ℤ (l *ℤ a)
*ℤ-assoc k l a =
    let (p, q) = product_is l a in
    let (r, s) = product_is k l in
    omega (
      arith,
      ints,
      ap (λ z. up k * z) p,
      ap (λ z. down k * z) p,
      ap (λ z. up k * z) q,
      ap (λ z. down k * z) q,
      ap (λ z. z * up a) r,
      ap (λ z. z * down a) r,
      ap (λ z. z * up a) s,
      ap (λ z. z * down a) s,
    )

pub *ℤ-swap : (k l a : ℤ) → k *ℤ (l *ℤ a) ≡ l *ℤ (k *ℤ a)
*ℤ-swap k l a =
    let (p, q) = product_is l a in
    let (r, s) = product_is k a in
    omega (
      arith,
      ints,
      ap (λ z. up k * z) p,
      ap (λ z. down k * z) p,
      ap (λ z. up k * z) q,
      ap (λ z. down k * z) q,
      ap (λ z. up l * z) r,
      ap (λ z. down l * z) r,
      ap (λ z. up l * z) s,
      ap (λ z. down l * z) s,
    )

pub one-*ℤ : (a : ℤ) → pos 1 *ℤ a ≡ a
one-*ℤ a = omega (arith, ints)

-- ---- order
pub product_nonnegative : (k a : ℤ) → pos 0 ≤ℤ k → pos 0 ≤ℤ a → pos 0 ≤ℤ (k *ℤ a)
product_nonnegative (pos k) (pos a) h j = omega (arith, ints)
product_nonnegative (pos k) (negsuc a) h j = absurd (omega (arith, ints))
product_nonnegative (negsuc k) a h j = absurd (omega (arith, ints))

-- a product with a factor of at least 1 is at least the other factor
pub product_at_least : (k a : ℤ) → pos 1 ≤ℤ k → pos 0 ≤ℤ a → a ≤ℤ (k *ℤ a)
product_at_least (pos (suc k)) (pos a) h j = omega (arith, ints)
product_at_least (pos k) (pos a) h j = absurd (omega (arith, ints))
product_at_least (pos k) (negsuc a) h j = absurd (omega (arith, ints))
product_at_least (negsuc k) a h j = absurd (omega (arith, ints))

-- two or more times a positive number is greater
pub product_more : (k : ℕ) (a : ℤ) → pos 1 ≤ℤ a → a <ℤ (pos (suc (suc k)) *ℤ a)
product_more k (pos a) h = omega (arith, ints)
product_more k (negsuc a) h = absurd (omega (arith, ints))

-- the larger of an integer and 0
pub clamped : (a : ℤ) → (up (int_max a (pos 0)) ≡ up a) × (down (int_max a (pos 0)) ≡ 0)
clamped (pos a) = let e : int_max (pos a) (pos 0) ≡ pos a = omega (arith, ints, clamps) in rw e (refl, refl)
clamped (negsuc a) = (refl, refl)

pub max_zero : (a : ℤ) → a ≤ℤ pos 0 → int_max a (pos 0) ≡ pos 0
max_zero a h = omega (arith, ints, clamps)

pub max_within : (a b : ℤ) → pos 0 ≤ℤ b → a ≤ℤ b → int_max a (pos 0) ≤ℤ b
max_within a b h k = omega (arith, ints, clamps)

-- a positive factor keeps the order, and is cancelled
pub below_product : (k : ℕ) (a b : ℤ) → (pos (suc k) *ℤ a) <ℤ (pos (suc k) *ℤ b) → a <ℤ b
below_product k a b h = by_lt_z a b (λ l. l) (λ l. absurd (omega (arith, ints, mul-le-mul_left k (le_out b a l))))

pub product_below : (k : ℕ) (a b : ℤ) → a <ℤ b → (pos (suc k) *ℤ a) <ℤ (pos (suc k) *ℤ b)
product_below k a b h = let l : up a + down b ≤ up b + down a = omega (arith, ints) in omega (arith, ints, mul-le-mul_left k l)

pub same_from_product : (k : ℕ) (a b : ℤ) → pos (suc k) *ℤ a ≡ pos (suc k) *ℤ b → a ≡ b
same_from_product k a b e =
    by_lt_z a b (λ l. absurd (omega (arith, ints, product_below k a b l)))
    (λ l. by_lt_z b a (λ r. absurd (omega (arith, ints, product_below k b a r))) (λ r. omega (arith, ints)))

-- x + k a lies between x and x + (k + 1) a
pub between : (k : ℕ) (x a : ℤ) → pos 0 ≤ℤ x → pos 0 ≤ℤ (x +ℤ (pos (suc k) *ℤ a)) → pos 0 ≤ℤ (x +ℤ (pos k *ℤ a))
between k x (pos a) p q = omega (arith, ints)
between k x (negsuc a) p q = omega (arith, ints)
