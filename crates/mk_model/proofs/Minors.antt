-- Minors of rows, by expansion along one row, and the expansion along one column.
use Rattle.std.proofs.Common.{◌≡◌, ℕ, zero, suc, ◌<◌, Bool, true, false, List, [], ◌∷◌, length, ℤ, pos, ◌+ℤ◌, ◌-ℤ◌, ◌*ℤ◌, neg_ℤ, arith, ap, refl, ◌∙◌}
use Rattle.std.proofs.lemmas.Int.{ints}
use lib.IntN.{*ℤ-zero}
use Rattle.mk_model.specs.Vectors.{entry}
use Rattle.mk_model.proofs.Integers.{*ℤ-+ℤ, +ℤ-*ℤ, *ℤ-neg_ℤ, neg_ℤ-*ℤ, *ℤ-assoc, *ℤ-swap}

pub *ℤ-less : (k a b : ℤ) → k *ℤ (a -ℤ b) ≡ (k *ℤ a) -ℤ (k *ℤ b)
*ℤ-less k a b = *ℤ-+ℤ k a (neg_ℤ b) ∙ ap (λ z. (k *ℤ a) +ℤ z) (*ℤ-neg_ℤ k b)

pub less-*ℤ : (k l a : ℤ) → (k -ℤ l) *ℤ a ≡ (k *ℤ a) -ℤ (l *ℤ a)
less-*ℤ k l a = +ℤ-*ℤ k (neg_ℤ l) a ∙ ap (λ z. (k *ℤ a) +ℤ z) (neg_ℤ-*ℤ l a)

-- A set of columns has a flag for each. From the minors of some rows at all sets: those with one more row on top.
unfoldable pub expand : (ℕ → ℤ) → (List Bool → ℤ) → List Bool → ℤ
expand v x [] = pos 0
expand v x (false ∷ s) = expand (λ c. v (suc c)) (λ t. x (false ∷ t)) s
expand v x (true ∷ s) = (v 0 *ℤ x (false ∷ s)) -ℤ expand (λ c. v (suc c)) (λ t. x (true ∷ t)) s

-- the minor of no row: 1 at the empty set
unfoldable pub empty_minor : List Bool → ℤ
empty_minor [] = pos 1
empty_minor (false ∷ s) = empty_minor s
empty_minor (true ∷ s) = pos 0

unfoldable pub minor : List (List ℤ) → List Bool → ℤ
minor [] s = empty_minor s
minor (v ∷ rows) s = expand (entry v) (minor rows) s

-- the minors at the sets with one column more
unfoldable pub contract : ℕ → (List Bool → ℤ) → List Bool → ℤ
contract e x [] = pos 0
contract zero x (false ∷ s) = x (true ∷ s)
contract zero x (true ∷ s) = pos 0
contract (suc e) x (false ∷ s) = contract e (λ t. x (false ∷ t)) s
contract (suc e) x (true ∷ s) = neg_ℤ (contract e (λ t. x (true ∷ t)) s)

-- ---- linear
pub expand-less : (k : ℤ) (v : ℕ → ℤ) (x y : List Bool → ℤ) (s : List Bool) →
    expand v (λ t. (k *ℤ x t) -ℤ y t) s ≡ (k *ℤ expand v x s) -ℤ expand v y s
unfolding expand
expand-less k v x y [] = omega (arith, ints, *ℤ-zero k)
expand-less k v x y (false ∷ s) = expand-less k (λ c. v (suc c)) (λ t. x (false ∷ t)) (λ t. y (false ∷ t)) s
expand-less k v x y (true ∷ s) =
    let h = expand-less k (λ c. v (suc c)) (λ t. x (true ∷ t)) (λ t. y (true ∷ t)) s in
    let a = x (false ∷ s) in
    let b = y (false ∷ s) in
    let e = expand (λ c. v (suc c)) (λ t. x (true ∷ t)) s in
    omega (arith, ints, h, *ℤ-less (v 0) (k *ℤ a) b, *ℤ-swap (v 0) k a, *ℤ-less k (v 0 *ℤ a) e)

pub expand-zero : (v : ℕ → ℤ) (s : List Bool) → expand v (λ t. pos 0) s ≡ pos 0
unfolding expand
expand-zero v [] = refl
expand-zero v (false ∷ s) = expand-zero (λ c. v (suc c)) s
expand-zero v (true ∷ s) = omega (arith, ints, *ℤ-zero (v 0), expand-zero (λ c. v (suc c)) s)

pub expand-neg : (v : ℕ → ℤ) (x : List Bool → ℤ) (s : List Bool) → expand v (λ t. neg_ℤ (x t)) s ≡ neg_ℤ (expand v x s)
unfolding expand
expand-neg v x [] = refl
expand-neg v x (false ∷ s) = expand-neg (λ c. v (suc c)) (λ t. x (false ∷ t)) s
expand-neg v x (true ∷ s) =
    omega (arith, ints, *ℤ-neg_ℤ (v 0) (x (false ∷ s)), expand-neg (λ c. v (suc c)) (λ t. x (true ∷ t)) s)

pub expand-same : (a b : ℤ) (v : ℕ → ℤ) (x z : List Bool → ℤ) (s : List Bool) →
    ((t : List Bool) → length t ≡ length s → a *ℤ x t ≡ b *ℤ z t) → a *ℤ expand v x s ≡ b *ℤ expand v z s
unfolding expand
expand-same a b v x z [] h = omega (arith, ints, *ℤ-zero a, *ℤ-zero b)
expand-same a b v x z (false ∷ s) h =
    expand-same a b (λ c. v (suc c)) (λ t. x (false ∷ t)) (λ t. z (false ∷ t)) s (λ t l. h (false ∷ t) (ap suc l))
expand-same a b v x z (true ∷ s) h =
    let k = expand-same a b (λ c. v (suc c)) (λ t. x (true ∷ t)) (λ t. z (true ∷ t)) s (λ t l. h (true ∷ t) (ap suc l)) in
    let e = expand (λ c. v (suc c)) (λ t. x (true ∷ t)) s in
    let d = expand (λ c. v (suc c)) (λ t. z (true ∷ t)) s in
    let m = ap (λ q. v 0 *ℤ q) (h (false ∷ s) refl) in
    omega (arith, ints, k, m, *ℤ-less a (v 0 *ℤ x (false ∷ s)) e, *ℤ-less b (v 0 *ℤ z (false ∷ s)) d, *ℤ-swap a (v 0) (x (false ∷ s)), *ℤ-swap b (v 0) (z (false ∷ s)))

pub expand-row : (d p f : ℤ) (u v r : ℕ → ℤ) (x : List Bool → ℤ) (s : List Bool) →
    ((c : ℕ) → c < length s → d *ℤ u c ≡ (p *ℤ v c) -ℤ (f *ℤ r c)) →
    d *ℤ expand u x s ≡ (p *ℤ expand v x s) -ℤ (f *ℤ expand r x s)
unfolding expand
expand-row d p f u v r x [] h = omega (arith, ints, *ℤ-zero d, *ℤ-zero p, *ℤ-zero f)
expand-row d p f u v r x (false ∷ s) h =
    expand-row d p f (λ c. u (suc c)) (λ c. v (suc c)) (λ c. r (suc c)) (λ t. x (false ∷ t)) s (λ c l. h (suc c) (omega arith))
expand-row d p f u v r x (true ∷ s) h =
    let k = expand-row d p f (λ c. u (suc c)) (λ c. v (suc c)) (λ c. r (suc c)) (λ t. x (true ∷ t)) s (λ c l. h (suc c) (omega arith)) in
    let y = x (false ∷ s) in
    let e = expand (λ c. u (suc c)) (λ t. x (true ∷ t)) s in
    let g = expand (λ c. v (suc c)) (λ t. x (true ∷ t)) s in
    let q = expand (λ c. r (suc c)) (λ t. x (true ∷ t)) s in
    let m = ap (λ z. z *ℤ y) (h 0 (omega arith)) in
    omega (arith, ints, k, m, *ℤ-less d (u 0 *ℤ y) e, *ℤ-less p (v 0 *ℤ y) g, *ℤ-less f (r 0 *ℤ y) q, *ℤ-assoc d (u 0) y, *ℤ-assoc p (v 0) y, *ℤ-assoc f (r 0) y, less-*ℤ (p *ℤ v 0) (f *ℤ r 0) y)

-- ---- alternating
pub expand-twice : (v : ℕ → ℤ) (x : List Bool → ℤ) (s : List Bool) → expand v (expand v x) s ≡ pos 0
unfolding expand
expand-twice v x [] = refl
expand-twice v x (false ∷ s) = expand-twice (λ c. v (suc c)) (λ t. x (false ∷ t)) s
expand-twice v x (true ∷ s) =
    omega (arith, ints, expand-twice (λ c. v (suc c)) (λ t. x (true ∷ t)) s, expand-less (v 0) (λ c. v (suc c)) (λ t. x (false ∷ t)) (expand (λ c. v (suc c)) (λ t. x (true ∷ t))) s)

pub expand-swap : (v u : ℕ → ℤ) (x : List Bool → ℤ) (s : List Bool) → expand v (expand u x) s ≡ neg_ℤ (expand u (expand v x) s)
unfolding expand
expand-swap v u x [] = refl
expand-swap v u x (false ∷ s) = expand-swap (λ c. v (suc c)) (λ c. u (suc c)) (λ t. x (false ∷ t)) s
expand-swap v u x (true ∷ s) =
    let k = expand-swap (λ c. v (suc c)) (λ c. u (suc c)) (λ t. x (true ∷ t)) s in
    let a = expand-less (u 0) (λ c. v (suc c)) (λ t. x (false ∷ t)) (expand (λ c. u (suc c)) (λ t. x (true ∷ t))) s in
    let b = expand-less (v 0) (λ c. u (suc c)) (λ t. x (false ∷ t)) (expand (λ c. v (suc c)) (λ t. x (true ∷ t))) s in
    omega (arith, ints, k, a, b)

-- ---- along one column
pub contract-less : (k : ℤ) (e : ℕ) (x y : List Bool → ℤ) (s : List Bool) →
    contract e (λ t. (k *ℤ x t) -ℤ y t) s ≡ (k *ℤ contract e x s) -ℤ contract e y s
unfolding contract
contract-less k e x y [] = omega (arith, ints, *ℤ-zero k)
contract-less k zero x y (false ∷ s) = refl
contract-less k zero x y (true ∷ s) = omega (arith, ints, *ℤ-zero k)
contract-less k (suc e) x y (false ∷ s) = contract-less k e (λ t. x (false ∷ t)) (λ t. y (false ∷ t)) s
contract-less k (suc e) x y (true ∷ s) =
    omega (arith, ints, contract-less k e (λ t. x (true ∷ t)) (λ t. y (true ∷ t)) s, *ℤ-neg_ℤ k (contract e (λ t. x (true ∷ t)) s))

pub contract-expand : (e : ℕ) (v : ℕ → ℤ) (x : List Bool → ℤ) (s : List Bool) → e < length s →
    contract e (expand v x) s ≡ (v e *ℤ x s) -ℤ expand v (contract e x) s
unfolding contract expand
contract-expand e v x [] h = absurd (omega arith)
contract-expand zero v x (false ∷ s) h = refl
contract-expand zero v x (true ∷ s) h = omega (arith, ints, expand-zero (λ c. v (suc c)) s)
contract-expand (suc e) v x (false ∷ s) h = contract-expand e (λ c. v (suc c)) (λ t. x (false ∷ t)) s (omega arith)
contract-expand (suc e) v x (true ∷ s) h =
    let k = contract-expand e (λ c. v (suc c)) (λ t. x (true ∷ t)) s (omega arith) in
    let a = contract-less (v 0) e (λ t. x (false ∷ t)) (expand (λ c. v (suc c)) (λ t. x (true ∷ t))) s in
    let b = expand-neg (λ c. v (suc c)) (contract e (λ t. x (true ∷ t))) s in
    omega (arith, ints, k, a, b)

pub contract-same : (a b : ℤ) (e : ℕ) (x z : List Bool → ℤ) (s : List Bool) →
    ((t : List Bool) → length t ≡ length s → a *ℤ x t ≡ b *ℤ z t) → a *ℤ contract e x s ≡ b *ℤ contract e z s
unfolding contract
contract-same a b e x z [] h = omega (arith, ints, *ℤ-zero a, *ℤ-zero b)
contract-same a b zero x z (false ∷ s) h = h (true ∷ s) refl
contract-same a b zero x z (true ∷ s) h = omega (arith, ints, *ℤ-zero a, *ℤ-zero b)
contract-same a b (suc e) x z (false ∷ s) h =
    contract-same a b e (λ t. x (false ∷ t)) (λ t. z (false ∷ t)) s (λ t l. h (false ∷ t) (ap suc l))
contract-same a b (suc e) x z (true ∷ s) h =
    let k = contract-same a b e (λ t. x (true ∷ t)) (λ t. z (true ∷ t)) s (λ t l. h (true ∷ t) (ap suc l)) in
    omega (arith, ints, k, *ℤ-neg_ℤ a (contract e (λ t. x (true ∷ t)) s), *ℤ-neg_ℤ b (contract e (λ t. z (true ∷ t)) s))

pub contract-none : (e : ℕ) (s : List Bool) → contract e empty_minor s ≡ pos 0
unfolding contract empty_minor
contract-none e [] = refl
contract-none zero (false ∷ s) = refl
contract-none zero (true ∷ s) = refl
contract-none (suc e) (false ∷ s) = contract-none e s
contract-none (suc e) (true ∷ s) = ap neg_ℤ (contract-zero e s)
  where
    contract-zero : (e : ℕ) (s : List Bool) → contract e (λ t. pos 0) s ≡ pos 0
    contract-zero e [] = refl
    contract-zero zero (false ∷ s) = refl
    contract-zero zero (true ∷ s) = refl
    contract-zero (suc e) (false ∷ s) = contract-zero e s
    contract-zero (suc e) (true ∷ s) = ap neg_ℤ (contract-zero e s)
