-- The order along a priority list of columns, and the order of moves.
use Rattle.std.proofs.Common.{◌≡◌, ◌⊎◌, inl, inr, ℕ, zero, suc, ◌≤◌, ◌<◌, List, [], ◌∷◌, length, ℤ, pos, negsuc, ◌<ℤ◌, arith, ap, refl, sym}
use Rattle.std.proofs.Common.{◌∙◌, subst, ⊎_elim, All, Contains, ◌*ℤ◌}
use Rattle.std.proofs.lemmas.Int.{ints, by_lt_z}
use Rattle.std.proofs.lemmas.List.{ext_get_or}
use Rattle.std.proofs.lemmas.List.Elements.{All-nil, All-cons, All-head, All-tail, All-weaker, All-contains, All-contains_itself}
use Rattle.mk_model.specs.Vectors.{entry, add, subtract, negate, scale, positive_part, negative_part}
use Rattle.mk_model.specs.Orders.{IsBelow, IsOriented, standard, lead, tail, ComesBefore}
use Rattle.mk_model.proofs.Integers.{below_product, product_below, same_from_product}
use Rattle.mk_model.proofs.VectorAlgebra.{columns, entries, negative_part-scale, positive_part-scale, positive_part-negate}
use Rattle.mk_model.proofs.VectorAlgebra.{negative_part-negate, scale-negsuc}

pub IsBelow-irreflexive : (p : List ℕ) (x y : List ℤ) → ((c : ℕ) → entry x c ≡ entry y c) → IsBelow p x y → ⊥
IsBelow-irreflexive [] x y e h = h
IsBelow-irreflexive (c ∷ p) x y e (inl h) = omega (arith, ints, e c)
IsBelow-irreflexive (c ∷ p) x y e (inr (_, h)) = IsBelow-irreflexive p x y e h

pub IsBelow-not_same : (p : List ℕ) (x y : List ℤ) → x ≡ y → IsBelow p x y → ⊥
IsBelow-not_same p x y e h = IsBelow-irreflexive p x y (λ c. ap (λ v. entry v c) e) h

pub IsBelow-asymmetric : (p : List ℕ) (x y : List ℤ) → IsBelow p x y → IsBelow p y x → ⊥
IsBelow-asymmetric [] x y h k = h
IsBelow-asymmetric (c ∷ p) x y (inl h) (inl k) = omega (arith, ints)
IsBelow-asymmetric (c ∷ p) x y (inl h) (inr (e, k)) = omega (arith, ints)
IsBelow-asymmetric (c ∷ p) x y (inr (e, h)) (inl k) = omega (arith, ints)
IsBelow-asymmetric (c ∷ p) x y (inr (e, h)) (inr (f, k)) = IsBelow-asymmetric p x y h k

pub IsBelow-transitive : (p : List ℕ) (x y z : List ℤ) → IsBelow p x y → IsBelow p y z → IsBelow p x z
IsBelow-transitive [] x y z h k = h
IsBelow-transitive (c ∷ p) x y z (inl h) (inl k) = inl (omega (arith, ints))
IsBelow-transitive (c ∷ p) x y z (inl h) (inr (e, k)) = inl (omega (arith, ints))
IsBelow-transitive (c ∷ p) x y z (inr (e, h)) (inl k) = inl (omega (arith, ints))
IsBelow-transitive (c ∷ p) x y z (inr (e, h)) (inr (f, k)) = inr (e ∙ f, IsBelow-transitive p x y z h k)

-- one is below the other, or they have the same entries in the columns of the list
pub IsBelow-total : (p : List ℕ) (x y : List ℤ) → (IsBelow p x y ⊎ IsBelow p y x) ⊎ All (λ c. entry x c ≡ entry y c) p
IsBelow-total [] x y = inr (All-nil (λ c. entry x c ≡ entry y c))
IsBelow-total (c ∷ p) x y =
    by_lt_z (entry y c) (entry x c) (λ h. inl (inl (inl h)))
    (λ h. by_lt_z (entry x c) (entry y c) (λ k. inl (inr (inl k))) (λ k. go (omega (arith, ints)) (IsBelow-total p x y)))
  where
    go : entry x c ≡ entry y c → (IsBelow p x y ⊎ IsBelow p y x) ⊎ All (λ c. entry x c ≡ entry y c) p →
        (IsBelow (c ∷ p) x y ⊎ IsBelow (c ∷ p) y x) ⊎ All (λ c. entry x c ≡ entry y c) (c ∷ p)
    go e (inl (inl h)) = inl (inl (inr (e, h)))
    go e (inl (inr h)) = inl (inr (inr (sym e, h)))
    go e (inr h) = inr (All-cons (λ c. entry x c ≡ entry y c) c p e h)

pub All-standard : (P : ℕ → Type 0) (n : ℕ) → All P (standard n) → (c : ℕ) → c < n → P c
All-standard P zero h c l = absurd (omega arith)
All-standard P (suc n) h c l =
    ⊎_elim (λ k. All-standard P n (All-tail P n (standard n) h) c k) (λ k. subst P k (All-head P n (standard n) h))
    (cases c n (omega arith))
  where
    cases : (c n : ℕ) → c ≤ n → (c < n) ⊎ (n ≡ c)
    cases c n l = grind arith

-- the standard list has every column
pub standard_has : (n c : ℕ) → c < n → Contains (standard n) c
standard_has n c l = All-standard (Contains (standard n)) n (All-contains_itself (standard n)) c l

-- two vectors of n columns, and a list that has every column: one is below the other along it, or they are equal
pub IsBelow-total_along : (n : ℕ) (p : List ℕ) (x y : List ℤ) → length x ≡ n → length y ≡ n → ((c : ℕ) → c < n → Contains p c) →
    (IsBelow p x y ⊎ IsBelow p y x) ⊎ (x ≡ y)
IsBelow-total_along n p x y l k f =
    ⊎_elim inl (λ h. inr (ext_get_or (pos 0) x y (omega arith) (λ c j. All-contains (λ c. entry x c ≡ entry y c) p c h
    (f c (omega arith))))) (IsBelow-total p x y)

-- two vectors of n columns: one is below the other by the standard list, or they are equal
pub IsBelow-total_standard : (n : ℕ) (x y : List ℤ) → length x ≡ n → length y ≡ n → (IsBelow (standard n) x y ⊎ IsBelow (standard n) y x)
    ⊎ (x ≡ y)
IsBelow-total_standard n x y l k =
    ⊎_elim inl (λ h. inr (ext_get_or (pos 0) x y (omega arith) (λ c j. All-standard (λ c. entry x c ≡ entry y c) n h c (omega arith))))
    (IsBelow-total (standard n) x y)

-- the column that decides
pub IsBelow-decided : (P : ℕ → Type 0) (p : List ℕ) (x y : List ℤ) → All P p → IsBelow p x y → (c : ℕ) × P c × (entry y c <ℤ entry x c)
IsBelow-decided P [] x y a h = absurd h
IsBelow-decided P (c ∷ p) x y a (inl h) = (c, All-head P c p a, h)
IsBelow-decided P (c ∷ p) x y a (inr (e, h)) = IsBelow-decided P p x y (All-tail P c p a) h

pub standard_within : (n : ℕ) → All (λ c. c < n) (standard n)
standard_within zero = All-nil (λ c. c < 0)
standard_within (suc n) =
    All-cons (λ c. c < suc n) n (standard n) (omega arith)
    (All-weaker (λ c. c < n) (λ c. c < suc n) (λ c h. omega arith) (standard n) (standard_within n))

-- the same vector added to both keeps the order
pub IsBelow-add : (p : List ℕ) (x y z : List ℤ) → IsBelow p x y → IsBelow p (add x z) (add y z)
IsBelow-add [] x y z h = h
IsBelow-add (c ∷ p) x y z (inl h) = inl (omega (arith, ints, columns))
IsBelow-add (c ∷ p) x y z (inr (e, h)) = inr (omega (arith, ints, columns), IsBelow-add p x y z h)

-- an oriented vector taken off leads down
pub IsBelow-subtract : (p : List ℕ) (x m : List ℤ) → IsOriented p m → IsBelow p (subtract x m) x
IsBelow-subtract [] x m h = h
IsBelow-subtract (c ∷ p) x m (inl h) = inl (omega (arith, ints, columns))
IsBelow-subtract (c ∷ p) x m (inr (e, h)) = inr (omega (arith, ints, columns), IsBelow-subtract p x m h)

-- one positive factor for both is cancelled
-- one positive factor for both keeps the order
pub IsBelow-scale : (p : List ℕ) (k : ℕ) (x y : List ℤ) → IsBelow p x y → IsBelow p (scale (pos (suc k)) x) (scale (pos (suc k)) y)
IsBelow-scale [] k x y h = h
IsBelow-scale (c ∷ p) k x y (inl h) = inl (simp entries (product_below k (entry y c) (entry x c) h))
IsBelow-scale (c ∷ p) k x y (inr (e, h)) = inr (simp entries (ap (λ a. pos (suc k) *ℤ a) e), IsBelow-scale p k x y h)

pub IsBelow-scale_back : (p : List ℕ) (k : ℕ) (x y : List ℤ) → IsBelow p (scale (pos (suc k)) x) (scale (pos (suc k)) y) → IsBelow p x y
IsBelow-scale_back [] k x y h = h
IsBelow-scale_back (c ∷ p) k x y (inl h) = inl (below_product k (entry y c) (entry x c) (simp entries at h))
IsBelow-scale_back (c ∷ p) k x y (inr (e, h)) =
    inr (same_from_product k (entry x c) (entry y c) (simp entries at e), IsBelow-scale_back p k x y h)

-- ---- orientation
pub IsOriented-not_zero : (p : List ℕ) (m : List ℤ) → ((c : ℕ) → entry m c ≡ pos 0) → IsOriented p m → ⊥
IsOriented-not_zero p m e h = IsBelow-irreflexive p _ _ (λ c. omega (arith, ints, columns, e c)) h

pub IsOriented-not_negated : (p : List ℕ) (m : List ℤ) → IsOriented p m → IsOriented p (negate m) → ⊥
IsOriented-not_negated p m h k = IsBelow-asymmetric p _ _ h (simp (positive_part-negate, negative_part-negate) at k)

pub IsOriented-scale : (p : List ℕ) (k : ℕ) (m : List ℤ) → IsOriented p m → IsOriented p (scale (pos (suc k)) m)
IsOriented-scale p k m h = simp (positive_part-scale, negative_part-scale) (IsBelow-scale p k (negative_part m) (positive_part m) h)

pub IsOriented-scale_back : (p : List ℕ) (k : ℕ) (m : List ℤ) → IsOriented p (scale (pos (suc k)) m) → IsOriented p m
IsOriented-scale_back p k m h = IsBelow-scale_back p k _ _ (simp (positive_part-scale, negative_part-scale) at h)

-- a multiple of an oriented vector is oriented only for a positive factor
pub factor_is_positive : (p : List ℕ) (k : ℤ) (m : List ℤ) → IsOriented p m → IsOriented p (scale k m) → (j : ℕ) × (k ≡ pos (suc j))
factor_is_positive p (pos zero) m h g = absurd (IsOriented-not_zero p (scale (pos 0) m) (λ c. omega (arith, ints, columns)) g)
factor_is_positive p (pos (suc j)) m h g = (j, refl)
factor_is_positive p (negsuc j) m h g =
    absurd (IsOriented-not_negated p m h (IsOriented-scale_back p j (negate m) (simp scale-negsuc at g)))

pub IsOriented-lead_not_tail : (p : List ℕ) (m : List ℤ) → IsOriented p m → lead m ≡ tail m → ⊥
IsOriented-lead_not_tail p m h e = IsBelow-not_same p _ _ (sym e) h

-- ---- the order of moves
pub ComesBefore-asymmetric : (n : ℕ) (w a b : List ℤ) → ComesBefore n w a b → ComesBefore n w b a → ⊥
ComesBefore-asymmetric n w a b (inl h) (inl k) = omega (arith, ints)
ComesBefore-asymmetric n w a b (inl h) (inr (e, k)) = omega (arith, ints)
ComesBefore-asymmetric n w a b (inr (e, h)) (inl k) = omega (arith, ints)
ComesBefore-asymmetric n w a b (inr (_, inl h)) (inr (_, inl k)) = IsBelow-asymmetric (standard n) _ _ h k
ComesBefore-asymmetric n w a b (inr (_, inl h)) (inr (_, inr (e, k))) = IsBelow-not_same (standard n) _ _ (sym e) h
ComesBefore-asymmetric n w a b (inr (_, inr (e, h))) (inr (_, inl k)) = IsBelow-not_same (standard n) _ _ (sym e) k
ComesBefore-asymmetric n w a b (inr (_, inr (e, h))) (inr (_, inr (f, k))) = IsBelow-asymmetric (standard n) _ _ h k

pub ComesBefore-irreflexive : (n : ℕ) (w m : List ℤ) → ComesBefore n w m m → ⊥
ComesBefore-irreflexive n w m h = ComesBefore-asymmetric n w m m h h
