-- Vectors entry by entry: lengths, entries and weights of sums, multiples and parts.
use Rattle.std.proofs.Common.{◌≡◌, ℕ, zero, suc, ◌+◌, ◌*◌, ◌≤◌, ◌<◌, max, List, [], ◌∷◌, length, map, ℤ, pos, negsuc, ◌+ℤ◌, ◌-ℤ◌, ◌*ℤ◌}
use Rattle.std.proofs.Common.{neg_ℤ, ◌≤ℤ◌, arith, ap, refl, sym, ◌∙◌}
use Rattle.std.proofs.lemmas.Int.{ints}
use Rattle.std.proofs.lemmas.List.{ext_get_or, length-map, length-replicate}
use Rattle.std.specs.Int.{int_max}
use borrow.Author.Differences.{up, down, sum_is_lem, neg_is, product_is}
use lib.IntN.{*ℤ-zero, +ℤ_idl, +ℤ_idr}
use Rattle.mk_model.specs.Vectors.{entry, zeros, combine, add, subtract, negate, scale, positive_part, negative_part, weight, IsPoint}
use Rattle.mk_model.proofs.Integers.{*ℤ-+ℤ, *ℤ-neg_ℤ, neg_ℤ-*ℤ, *ℤ-assoc, *ℤ-swap, clamped, product_at_least, between}

-- ---- lengths
pub length-combine : (f : ℤ → ℤ → ℤ) (x y : List ℤ) → length (combine f x y) ≡ max (length x) (length y)
unfolding combine
length-combine f [] [] = refl
length-combine f [] (b ∷ y) = omega (arith, length-combine f [] y)
length-combine f (a ∷ x) [] = omega (arith, length-combine f x [])
length-combine f (a ∷ x) (b ∷ y) = omega (arith, length-combine f x y)

pub length-add : (x y : List ℤ) → length (add x y) ≡ max (length x) (length y)
unfolding add
length-add x y = length-combine ◌+ℤ◌ x y

pub length-subtract : (x y : List ℤ) → length (subtract x y) ≡ max (length x) (length y)
unfolding subtract
length-subtract x y = length-combine ◌-ℤ◌ x y

pub length-negate : (x : List ℤ) → length (negate x) ≡ length x
unfolding negate
length-negate x = length-map x neg_ℤ

pub length-scale : (k : ℤ) (x : List ℤ) → length (scale k x) ≡ length x
unfolding scale
length-scale k x = length-map x (λ a. k *ℤ a)

pub length-positive_part : (x : List ℤ) → length (positive_part x) ≡ length x
unfolding positive_part
length-positive_part x = length-map x (λ a. int_max a (pos 0))

pub length-negative_part : (x : List ℤ) → length (negative_part x) ≡ length x
unfolding negative_part
length-negative_part x = length-positive_part (negate x) ∙ length-negate x

pub length-zeros : (n : ℕ) → length (zeros n) ≡ n
length-zeros n = length-replicate n (pos 0)

pub ruleset lengths = (length-add, length-subtract, length-negate, length-scale, length-positive_part, length-negative_part, length-zeros)

-- ---- entries
pub entry-combine : (f : ℤ → ℤ → ℤ) → f (pos 0) (pos 0) ≡ pos 0 → (x y : List ℤ) (c : ℕ) →
    entry (combine f x y) c ≡ f (entry x c) (entry y c)
unfolding combine
entry-combine f e [] [] c = sym e
entry-combine f e [] (b ∷ y) zero = refl
entry-combine f e [] (b ∷ y) (suc c) = entry-combine f e [] y c
entry-combine f e (a ∷ x) [] zero = refl
entry-combine f e (a ∷ x) [] (suc c) = entry-combine f e x [] c
entry-combine f e (a ∷ x) (b ∷ y) zero = refl
entry-combine f e (a ∷ x) (b ∷ y) (suc c) = entry-combine f e x y c

pub entry-map : (f : ℤ → ℤ) → f (pos 0) ≡ pos 0 → (x : List ℤ) (c : ℕ) → entry (map f x) c ≡ f (entry x c)
entry-map f e [] c = sym e
entry-map f e (a ∷ x) zero = refl
entry-map f e (a ∷ x) (suc c) = entry-map f e x c

pub entry-add : (x y : List ℤ) (c : ℕ) → entry (add x y) c ≡ entry x c +ℤ entry y c
unfolding add
entry-add x y c = entry-combine ◌+ℤ◌ refl x y c

pub entry-subtract : (x y : List ℤ) (c : ℕ) → entry (subtract x y) c ≡ entry x c -ℤ entry y c
unfolding subtract
entry-subtract x y c = entry-combine ◌-ℤ◌ refl x y c

pub entry-negate : (x : List ℤ) (c : ℕ) → entry (negate x) c ≡ neg_ℤ (entry x c)
unfolding negate
entry-negate x c = entry-map neg_ℤ refl x c

pub entry-scale : (k : ℤ) (x : List ℤ) (c : ℕ) → entry (scale k x) c ≡ k *ℤ entry x c
unfolding scale
entry-scale k x c = entry-map (λ a. k *ℤ a) (*ℤ-zero k) x c

pub entry-positive_part : (x : List ℤ) (c : ℕ) → entry (positive_part x) c ≡ int_max (entry x c) (pos 0)
unfolding positive_part
entry-positive_part x c = entry-map (λ a. int_max a (pos 0)) refl x c

pub entry-negative_part : (x : List ℤ) (c : ℕ) → entry (negative_part x) c ≡ int_max (neg_ℤ (entry x c)) (pos 0)
unfolding negative_part
entry-negative_part x c = entry-positive_part (negate x) c ∙ ap (λ a. int_max a (pos 0)) (entry-negate x c)

pub entry-zeros : (n c : ℕ) → entry (zeros n) c ≡ pos 0
entry-zeros zero c = refl
entry-zeros (suc n) zero = refl
entry-zeros (suc n) (suc c) = entry-zeros n c

pub ruleset entries = (entry-add, entry-subtract, entry-negate, entry-scale, entry-positive_part, entry-negative_part, entry-zeros)

-- the same for `omega`, which reads an integer z as `up z - down z`
pub add_at : (x y : List ℤ) (c : ℕ) → up (entry (add x y) c) + down (entry x c) + down (entry y c) ≡ down (entry (add x y) c) + up
    (entry x c) + up (entry y c)
add_at x y c = simp entry-add (sum_is_lem (entry x c) (entry y c))

pub subtract_at : (x y : List ℤ) (c : ℕ) → up (entry (subtract x y) c) + down (entry x c) + up (entry y c) ≡ down
    (entry (subtract x y) c) + up (entry x c) + down (entry y c)
subtract_at x y c = simp entry-subtract (omega (arith, sum_is_lem (entry x c) (neg_ℤ (entry y c)), neg_is (entry y c)))

pub negate_at : (x : List ℤ) (c : ℕ) → (up (entry (negate x) c) ≡ down (entry x c)) × (down (entry (negate x) c) ≡ up (entry x c))
negate_at x c = simp entry-negate (neg_is (entry x c))

pub scale_at : (k : ℤ) (x : List ℤ) (c : ℕ) → (up (entry (scale k x) c) ≡ up k * up (entry x c) + down k * down (entry x c))
    × (down (entry (scale k x) c) ≡ up k * down (entry x c) + down k * up (entry x c))
scale_at k x c = simp entry-scale (product_is k (entry x c))

pub positive_part_at : (x : List ℤ) (c : ℕ) → (up (entry (positive_part x) c) ≡ up (entry x c)) × (down (entry (positive_part x) c) ≡ 0)
positive_part_at x c = simp entry-positive_part (clamped (entry x c))

pub negative_part_at : (x : List ℤ) (c : ℕ) → (up (entry (negative_part x) c) ≡ down (entry x c)) × (down (entry (negative_part x) c) ≡ 0)
negative_part_at x c = simp entry-negative_part (omega (arith, clamped (neg_ℤ (entry x c)), neg_is (entry x c)))

pub zeros_at : (n c : ℕ) → (up (entry (zeros n) c) ≡ 0) × (down (entry (zeros n) c) ≡ 0)
zeros_at n c = simp entry-zeros (refl, refl)

pub ruleset columns = (add_at, subtract_at, negate_at, scale_at, positive_part_at, negative_part_at, zeros_at)

-- vectors of one length with the same entries are equal
pub same_vectors : (x y : List ℤ) → length x ≡ length y → ((c : ℕ) → entry x c ≡ entry y c) → x ≡ y
same_vectors x y l e = ext_get_or (pos 0) x y l (λ c h. e c)

-- ---- weights
pub weight-nil : (w : List ℤ) → weight w [] ≡ pos 0
unfolding weight
weight-nil [] = refl
weight-nil (k ∷ w) = refl

pub weight-add : (w x y : List ℤ) → weight w (add x y) ≡ weight w x +ℤ weight w y
unfolding weight add combine
weight-add [] x y = refl
weight-add (k ∷ w) [] [] = refl
weight-add (k ∷ w) [] (b ∷ y) = omega (arith, ints, weight-add w [] y, weight-nil w, ap (λ a. k *ℤ a) (+ℤ_idl b))
weight-add (k ∷ w) (a ∷ x) [] = omega (arith, ints, weight-add w x [], weight-nil w, ap (λ b. k *ℤ b) (+ℤ_idr a))
weight-add (k ∷ w) (a ∷ x) (b ∷ y) = omega (arith, ints, weight-add w x y, *ℤ-+ℤ k a b)

pub weight-scale : (w : List ℤ) (k : ℤ) (x : List ℤ) → weight w (scale k x) ≡ k *ℤ weight w x
unfolding weight scale
weight-scale [] k x = sym (*ℤ-zero k)
weight-scale (v ∷ w) k [] = sym (*ℤ-zero k)
weight-scale (v ∷ w) k (a ∷ x) = omega (arith, ints, weight-scale w k x, *ℤ-swap v k a, *ℤ-+ℤ k (v *ℤ a) (weight w x))

pub weight-negate : (w x : List ℤ) → weight w (negate x) ≡ neg_ℤ (weight w x)
unfolding weight negate
weight-negate [] x = refl
weight-negate (v ∷ w) [] = refl
weight-negate (v ∷ w) (a ∷ x) = omega (arith, ints, weight-negate w x, *ℤ-neg_ℤ v a)

pub weight-zeros : (w : List ℤ) (n : ℕ) → weight w (zeros n) ≡ pos 0
unfolding weight
weight-zeros [] n = refl
weight-zeros (v ∷ w) zero = refl
weight-zeros (v ∷ w) (suc n) = omega (arith, ints, weight-zeros w n, *ℤ-zero v)

-- a vector is its positive part minus its negative part
pub parts : (x : List ℤ) → subtract (positive_part x) (negative_part x) ≡ x
parts x = same_vectors _ _ (omega (arith, lengths)) (λ c. omega (arith, ints, columns))

pub subtract-add : (x y : List ℤ) → length y ≤ length x → subtract (add x y) y ≡ x
subtract-add x y l = same_vectors _ _ (omega (arith, lengths)) (λ c. omega (arith, ints, columns))

pub add-subtract : (x y : List ℤ) → length y ≤ length x → add (subtract x y) y ≡ x
add-subtract x y l = same_vectors _ _ (omega (arith, lengths)) (λ c. omega (arith, ints, columns))

-- the difference taken off the first vector gives the second, and put to the second gives the first
pub add_difference : (x y : List ℤ) → length x ≡ length y → add y (subtract x y) ≡ x
add_difference x y l = same_vectors _ _ (omega (arith, lengths)) (λ c. omega (arith, ints, columns))

pub weight-subtract : (w x y : List ℤ) → length y ≤ length x → weight w (subtract x y) ≡ weight w x -ℤ weight w y
weight-subtract w x y l = omega (arith, ints, ap (weight w) (add-subtract x y l), weight-add w (subtract x y) y)

pub weight-parts : (w x : List ℤ) → weight w (positive_part x) -ℤ weight w (negative_part x) ≡ weight w x
weight-parts w x = sym (weight-subtract w (positive_part x) (negative_part x) (omega (arith, lengths))) ∙ ap (weight w) (parts x)

-- parts of a multiple
pub positive_part-scale : (k : ℕ) (x : List ℤ) → positive_part (scale (pos k) x) ≡ scale (pos k) (positive_part x)
positive_part-scale k x = same_vectors _ _ (omega (arith, lengths))
    (λ c. let (p, q) = positive_part_at x c in omega (arith, ints, columns, ap (λ z. k * z) p, ap (λ z. k * z) q))

pub negative_part-scale : (k : ℕ) (x : List ℤ) → negative_part (scale (pos k) x) ≡ scale (pos k) (negative_part x)
negative_part-scale k x = same_vectors _ _ (omega (arith, lengths))
    (λ c. let (p, q) = negative_part_at x c in omega (arith, ints, columns, ap (λ z. k * z) p, ap (λ z. k * z) q))

pub positive_part-negate : (x : List ℤ) → positive_part (negate x) ≡ negative_part x
positive_part-negate x = same_vectors _ _ (omega (arith, lengths)) (λ c. omega (arith, ints, columns))

pub negative_part-negate : (x : List ℤ) → negative_part (negate x) ≡ positive_part x
negative_part-negate x = same_vectors _ _ (omega (arith, lengths)) (λ c. omega (arith, ints, columns))

pub scale-negsuc : (k : ℕ) (x : List ℤ) → scale (negsuc k) x ≡ scale (pos (suc k)) (negate x)
scale-negsuc k x = same_vectors _ _ (omega (arith, lengths))
    (λ c. let (p, q) = negate_at x c in omega (arith, ints, columns, ap (λ z. suc k * z) p, ap (λ z. suc k * z) q))

pub scale-one : (x : List ℤ) → scale (pos 1) x ≡ x
scale-one x = same_vectors _ _ (omega (arith, lengths)) (λ c. omega (arith, ints, columns))

-- one more of x
pub scale-suc : (k : ℕ) (x : List ℤ) → scale (pos (suc k)) x ≡ add (scale (pos k) x) x
scale-suc k x = same_vectors _ _ (omega (arith, lengths)) (λ c. omega (arith, ints, columns))

pub negate-negate : (x : List ℤ) → negate (negate x) ≡ x
negate-negate x = same_vectors _ _ (omega (arith, lengths)) (λ c. omega (arith, ints, columns))

pub negate-subtract : (x y : List ℤ) → negate (subtract x y) ≡ subtract y x
negate-subtract x y = same_vectors _ _ (omega (arith, lengths)) (λ c. omega (arith, ints, columns))

pub scale-negate : (k : ℤ) (x : List ℤ) → scale k (negate x) ≡ scale (neg_ℤ k) x
scale-negate k x = same_vectors _ _ (omega (arith, lengths))
    (λ c. simp entries (*ℤ-neg_ℤ k (entry x c) ∙ sym (neg_ℤ-*ℤ k (entry x c))))

pub scale-scale : (k l : ℤ) (x : List ℤ) → scale k (scale l x) ≡ scale (k *ℤ l) x
scale-scale k l x = same_vectors _ _ (omega (arith, lengths)) (λ c. simp entries (sym (*ℤ-assoc k l (entry x c))))

pub negate-scale : (k : ℤ) (x : List ℤ) → negate (scale k x) ≡ scale (neg_ℤ k) x
negate-scale k x = same_vectors _ _ (omega (arith, lengths)) (λ c. simp entries (sym (neg_ℤ-*ℤ k (entry x c))))

pub scale-add : (k : ℤ) (x y : List ℤ) → scale k (add x y) ≡ add (scale k x) (scale k y)
scale-add k x y = same_vectors _ _ (omega (arith, lengths)) (λ c. simp entries (*ℤ-+ℤ k (entry x c) (entry y c)))

pub scale-minus_one : (x : List ℤ) → scale (negsuc 0) x ≡ negate x
scale-minus_one x = same_vectors _ _ (omega (arith, lengths)) (λ c. omega (arith, ints, columns))

pub add-negate : (x y : List ℤ) → add x (negate y) ≡ subtract x y
add-negate x y = same_vectors _ _ (omega (arith, lengths)) (λ c. omega (arith, ints, columns))

pub scale-zero : (k : ℤ) (n : ℕ) → scale k (zeros n) ≡ zeros n
scale-zero k n = same_vectors _ _ (omega (arith, lengths)) (λ c. simp entries (*ℤ-zero k))

pub zero-scale : (x : List ℤ) → scale (pos 0) x ≡ zeros (length x)
zero-scale x = same_vectors _ _ (omega (arith, lengths)) (λ c. omega (arith, ints, columns))

pub add-zeros : (x : List ℤ) (n : ℕ) → n ≤ length x → add x (zeros n) ≡ x
add-zeros x n l = same_vectors _ _ (omega (arith, lengths)) (λ c. omega (arith, ints, columns))

pub add_comm : (x y : List ℤ) → add x y ≡ add y x
add_comm x y = same_vectors _ _ (omega (arith, lengths)) (λ c. omega (arith, ints, columns))

pub add_assoc : (x y z : List ℤ) → add (add x y) z ≡ add x (add y z)
add_assoc x y z = same_vectors _ _ (omega (arith, lengths)) (λ c. omega (arith, ints, columns))

-- a vector with no entry but 0
pub only_zeros : (x : List ℤ) → ((c : ℕ) → entry x c ≡ pos 0) → x ≡ zeros (length x)
only_zeros x e = same_vectors _ _ (omega (arith, lengths)) (λ c. omega (arith, ints, columns, e c))

-- ---- points
pub IsPoint-positive_part : {n : ℕ} (x : List ℤ) → length x ≡ n → IsPoint n (positive_part x)
IsPoint-positive_part x l = record { columns = omega (arith, lengths); nonnegative = λ c. omega (arith, ints, columns) }

pub IsPoint-negative_part : {n : ℕ} (x : List ℤ) → length x ≡ n → IsPoint n (negative_part x)
IsPoint-negative_part x l = record { columns = omega (arith, lengths); nonnegative = λ c. omega (arith, ints, columns) }

pub IsPoint-add : {n : ℕ} {x y : List ℤ} → IsPoint n x → IsPoint n y → IsPoint n (add x y)
IsPoint-add {x = x} {y = y} p q =
    record { columns = omega (arith, lengths); nonnegative = λ c. omega (arith, ints, columns, p.nonnegative c, q.nonnegative c) }

-- along a line: a vector between two points is a point
pub IsPoint-between : {n : ℕ} {x : List ℤ} (k : ℕ) (v : List ℤ) → IsPoint n x → IsPoint n (add x (scale (pos (suc k)) v)) →
    IsPoint n (add x (scale (pos k) v))
IsPoint-between {x = x} k v p q =
    record {
      columns = omega (arith, lengths);
      nonnegative = λ c. simp entries
          (between k (entry x c) (entry v c) (p.nonnegative c) (simp entries at (q.nonnegative c)));
    }

pub weight_nonnegative : (w x : List ℤ) → ((c : ℕ) → c < length w → pos 1 ≤ℤ entry w c) → ((c : ℕ) → pos 0 ≤ℤ entry x c) →
    pos 0 ≤ℤ weight w x
unfolding weight
weight_nonnegative [] x p q = omega (arith, ints)
weight_nonnegative (k ∷ w) [] p q = omega (arith, ints)
weight_nonnegative (k ∷ w) (a ∷ x) p q =
    omega (
      arith,
      ints,
      weight_nonnegative w x (λ c h. p (suc c) (omega arith)) (λ c. q (suc c)),
      product_at_least k a (p 0 (omega arith)) (q 0),
      q 0,
    )

pub entry_within_weight : (w x : List ℤ) (c : ℕ) → ((c : ℕ) → c < length w → pos 1 ≤ℤ entry w c) → ((c : ℕ) → pos 0 ≤ℤ entry x c) →
    c < length w → entry x c ≤ℤ weight w x
unfolding weight
entry_within_weight [] x c p q h = absurd (omega arith)
entry_within_weight (k ∷ w) [] c p q h = omega (arith, ints)
entry_within_weight (k ∷ w) (a ∷ x) zero p q h =
    omega (
      arith,
      ints,
      weight_nonnegative w x (λ c h. p (suc c) (omega arith)) (λ c. q (suc c)),
      product_at_least k a (p 0 (omega arith)) (q 0),
      q 0,
    )
entry_within_weight (k ∷ w) (a ∷ x) (suc c) p q h =
    omega (
      arith,
      ints,
      entry_within_weight w x c (λ c h. p (suc c) (omega arith)) (λ c. q (suc c)) (omega arith),
      product_at_least k a (p 0 (omega arith)) (q 0),
      q 0,
    )
