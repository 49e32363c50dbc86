-- Products of two rows of numbers, column by column.
use Rattle.std.proofs.Common.{◌≡◌, ◌≢◌, ℕ, zero, suc, ◌+◌, ◌<◌, List, [], ◌∷◌, length, get_or, ℤ, pos, negsuc, ◌+ℤ◌, ◌-ℤ◌, ◌*ℤ◌, ◌≤ℤ◌, arith, ap, refl, sym, ◌∙◌}
use Rattle.std.proofs.lemmas.Int.{ints}
use lib.IntN.{*ℤ-zero, *ℤ_comm}
use Rattle.mk_model.specs.Vectors.{entry, zeros, weight}
use Rattle.mk_model.specs.Lattices.{combination}
use Rattle.mk_model.proofs.Integers.{*ℤ-+ℤ, *ℤ-assoc}
use Rattle.mk_model.proofs.VectorAlgebra.{entry-add, entry-scale, entry-zeros, weight-add, weight-scale, weight-zeros, weight-nil}
use Rattle.mk_model.proofs.Minors.{less-*ℤ}

unfoldable pub dot : ℕ → (ℕ → ℤ) → (ℕ → ℤ) → ℤ
dot zero u y = pos 0
dot (suc n) u y = (u 0 *ℤ y 0) +ℤ dot n (λ c. u (suc c)) (λ c. y (suc c))

pub dot-same : (n : ℕ) (u v y z : ℕ → ℤ) → ((c : ℕ) → c < n → u c ≡ v c) → ((c : ℕ) → c < n → y c ≡ z c) → dot n u y ≡ dot n v z
unfolding dot
dot-same zero u v y z h k = refl
dot-same (suc n) u v y z h k =
    let r = dot-same n (λ c. u (suc c)) (λ c. v (suc c)) (λ c. y (suc c)) (λ c. z (suc c)) (λ c l. h (suc c) (omega arith)) (λ c l. k (suc c) (omega arith)) in
    let a : u 0 ≡ v 0 = h 0 (omega arith) in
    let b : y 0 ≡ z 0 = k 0 (omega arith) in
    rw (a, b, r) refl

pub dot_comm : (n : ℕ) (u y : ℕ → ℤ) → dot n u y ≡ dot n y u
unfolding dot
dot_comm zero u y = refl
dot_comm (suc n) u y = omega (arith, ints, *ℤ_comm (u 0) (y 0), dot_comm n (λ c. u (suc c)) (λ c. y (suc c)))

pub dot-none : (n : ℕ) (u y : ℕ → ℤ) → ((c : ℕ) → c < n → u c *ℤ y c ≡ pos 0) → dot n u y ≡ pos 0
unfolding dot
dot-none zero u y h = refl
dot-none (suc n) u y h = omega (arith, ints, h 0 (omega arith), dot-none n (λ c. u (suc c)) (λ c. y (suc c)) (λ c l. h (suc c) (omega arith)))

pub dot-row : (n : ℕ) (d p f : ℤ) (u v r y : ℕ → ℤ) → ((c : ℕ) → c < n → d *ℤ u c ≡ (p *ℤ v c) -ℤ (f *ℤ r c)) →
    d *ℤ dot n u y ≡ (p *ℤ dot n v y) -ℤ (f *ℤ dot n r y)
unfolding dot
dot-row zero d p f u v r y h = omega (arith, ints, *ℤ-zero d, *ℤ-zero p, *ℤ-zero f)
dot-row (suc n) d p f u v r y h =
    let k = dot-row n d p f (λ c. u (suc c)) (λ c. v (suc c)) (λ c. r (suc c)) (λ c. y (suc c)) (λ c l. h (suc c) (omega arith)) in
    let m = ap (λ z. z *ℤ y 0) (h 0 (omega arith)) in
    let a = dot n (λ c. u (suc c)) (λ c. y (suc c)) in
    let b = dot n (λ c. v (suc c)) (λ c. y (suc c)) in
    let e = dot n (λ c. r (suc c)) (λ c. y (suc c)) in
    omega (arith, ints, k, m, *ℤ-+ℤ d (u 0 *ℤ y 0) a, *ℤ-+ℤ p (v 0 *ℤ y 0) b, *ℤ-+ℤ f (r 0 *ℤ y 0) e, *ℤ-assoc d (u 0) (y 0), *ℤ-assoc p (v 0) (y 0), *ℤ-assoc f (r 0) (y 0), less-*ℤ (p *ℤ v 0) (f *ℤ r 0) (y 0))

-- the first n columns, and those behind them
pub dot-split : (n m all : ℕ) (u y v z : ℕ → ℤ) → all ≡ n + m → ((c : ℕ) → u (n + c) ≡ v c) → ((c : ℕ) → y (n + c) ≡ z c) →
    dot all u y ≡ dot n u y +ℤ dot m v z
unfolding dot
dot-split zero m all u y v z e h k =
    let same : all ≡ m = omega arith in
    let r = dot-same m u v y z (λ c l. ap u (omega arith) ∙ h c) (λ c l. ap y (omega arith) ∙ k c) in
    rw same (omega (arith, ints, r))
dot-split (suc n) m zero u y v z e h k = absurd (omega arith)
dot-split (suc n) m (suc all) u y v z e h k =
    let r = dot-split n m all (λ c. u (suc c)) (λ c. y (suc c)) v z (omega arith) (λ c. ap u (omega arith) ∙ h c) (λ c. ap y (omega arith) ∙ k c) in
    omega (arith, ints, r)

-- a number put at one column that had 0
pub dot-put : (n b : ℕ) (a : ℤ) (u y z : ℕ → ℤ) → b < n → z b ≡ a → y b ≡ pos 0 → ((c : ℕ) → c ≢ b → z c ≡ y c) →
    dot n u z ≡ dot n u y +ℤ (u b *ℤ a)
unfolding dot
dot-put zero b a u y z l p q h = absurd (omega arith)
dot-put (suc n) zero a u y z l p q h =
    let r = dot-same n (λ c. u (suc c)) (λ c. u (suc c)) (λ c. z (suc c)) (λ c. y (suc c)) (λ c k. refl) (λ c k. h (suc c) (λ e. absurd (omega arith))) in
    omega (arith, ints, r, ap (λ w. u 0 *ℤ w) p, ap (λ w. u 0 *ℤ w) q, *ℤ-zero (u 0))
dot-put (suc n) (suc b) a u y z l p q h =
    let r = dot-put n b a (λ c. u (suc c)) (λ c. y (suc c)) (λ c. z (suc c)) (omega arith) p q (λ c k. h (suc c) (λ e. k (omega arith))) in
    omega (arith, ints, r, ap (λ w. u 0 *ℤ w) (h 0 (λ e. absurd (omega arith))))

-- ---- weights and combinations
entry_of_none : (n : ℕ) (w : ℕ → ℤ) → dot n w (λ c. pos 0) ≡ pos 0
entry_of_none n w = dot-none n w (λ c. pos 0) (λ c l. *ℤ-zero (w c))

pub weight-dot : (n : ℕ) (w x : List ℤ) → length w ≡ n → weight w x ≡ dot n (entry w) (entry x)
unfolding weight dot
weight-dot zero [] x l = refl
weight-dot zero (k ∷ w) x l = absurd (omega arith)
weight-dot (suc n) [] x l = absurd (omega arith)
weight-dot (suc n) (k ∷ w) [] l = omega (arith, ints, *ℤ-zero k, entry_of_none n (entry w))
weight-dot (suc n) (k ∷ w) (a ∷ x) l = omega (arith, ints, weight-dot n w x (omega arith))

pub entry-combination : (n : ℕ) (f : ℕ → ℤ) (rows : List (List ℤ)) (c : ℕ) →
    entry (combination n f rows) c ≡ dot (length rows) f (λ k. entry (get_or rows k []) c)
unfolding combination dot
entry-combination n f [] c = entry-zeros n c
entry-combination n f (row ∷ rows) c =
    simp (entry-add, entry-scale, entry-combination n (λ i. f (suc i)) rows c) refl

pub weight-of_combination : (w : List ℤ) (n : ℕ) (f : ℕ → ℤ) (rows : List (List ℤ)) →
    weight w (combination n f rows) ≡ dot (length rows) f (λ k. weight w (get_or rows k []))
unfolding combination dot
weight-of_combination w n f [] = weight-zeros w n
weight-of_combination w n f (row ∷ rows) =
    simp (weight-add, weight-scale, weight-of_combination w n (λ i. f (suc i)) rows) refl

pub weight-swap : (w x : List ℤ) → weight w x ≡ weight x w
unfolding weight
weight-swap [] x = sym (weight-nil x)
weight-swap (k ∷ w) [] = refl
weight-swap (k ∷ w) (a ∷ x) = omega (arith, ints, *ℤ_comm k a, weight-swap w x)

-- the last column apart
pub dot-last : (n : ℕ) (u y : ℕ → ℤ) → dot (suc n) u y ≡ dot n u y +ℤ (u n *ℤ y n)
unfolding dot
dot-last zero u y = omega (arith, ints)
dot-last (suc n) u y = omega (arith, ints, dot-last n (λ c. u (suc c)) (λ c. y (suc c)))

-- a row that is 1 at one column and 0 else
pub dot-unit : (n i : ℕ) (u y : ℕ → ℤ) → i < n → y i ≡ pos 1 → ((c : ℕ) → c ≢ i → y c ≡ pos 0) → dot n u y ≡ u i
dot-unit n i u y l e h =
    let p = dot-put n i (pos 1) u (λ c. pos 0) y l e refl h in
    omega (arith, ints, p, entry_of_none n u, *ℤ_comm (u i) (pos 1))

pub dot-products : (n : ℕ) (u v y z : ℕ → ℤ) → ((c : ℕ) → c < n → u c *ℤ y c ≡ v c *ℤ z c) → dot n u y ≡ dot n v z
unfolding dot
dot-products zero u v y z h = refl
dot-products (suc n) u v y z h =
    let r = dot-products n (λ c. u (suc c)) (λ c. v (suc c)) (λ c. y (suc c)) (λ c. z (suc c)) (λ c l. h (suc c) (omega arith)) in
    let a = h 0 (omega arith) in
    rw (a, r) refl

-- a sum of numbers that are not below 0 is not below 0, and is 0 only where all are
pub sum_nonnegative : (n : ℕ) (y : ℕ → ℤ) → ((c : ℕ) → c < n → pos 0 ≤ℤ y c) → pos 0 ≤ℤ dot n (λ c. pos 1) y
unfolding dot
sum_nonnegative zero y h = omega (arith, ints)
sum_nonnegative (suc n) y h =
    omega (arith, ints, sum_nonnegative n (λ c. y (suc c)) (λ c l. h (suc c) (omega arith)), h 0 (omega arith))

pub sum_zero : (n : ℕ) (y : ℕ → ℤ) → ((c : ℕ) → c < n → pos 0 ≤ℤ y c) → dot n (λ c. pos 1) y ≡ pos 0 → (c : ℕ) → c < n → y c ≡ pos 0
unfolding dot
sum_zero zero y h e c l = absurd (omega arith)
sum_zero (suc n) y h e zero l =
    let r = sum_nonnegative n (λ c. y (suc c)) (λ c l. h (suc c) (omega arith)) in
    omega (arith, ints, r, e, h 0 (omega arith))
sum_zero (suc n) y h e (suc c) l =
    let r = sum_nonnegative n (λ c. y (suc c)) (λ c l. h (suc c) (omega arith)) in
    let f : dot n (λ c. pos 1) (λ c. y (suc c)) ≡ pos 0 = omega (arith, ints, r, e, h 0 (omega arith)) in
    sum_zero n (λ c. y (suc c)) (λ c l. h (suc c) (omega arith)) f c (omega arith)

-- a combination's product, row by row
pub dot-of_combination : (n : ℕ) (f : ℕ → ℤ) (rows : List (List ℤ)) (y : ℕ → ℤ) →
    dot n (entry (combination n f rows)) y ≡ dot (length rows) f (λ k. dot n (entry (get_or rows k [])) y)
unfolding combination dot
dot-of_combination n f [] y = dot-none n (entry (zeros n)) y (λ c l. ap (λ z. z *ℤ y c) (entry-zeros n c) ∙ *ℤ_comm (pos 0) (y c) ∙ *ℤ-zero (y c))
dot-of_combination n f (row ∷ rows) y = go (dot-of_combination n (λ i. f (suc i)) rows y)
  where
    rest : List ℤ
    rest = combination n (λ i. f (suc i)) rows

    unfolded : (c : ℕ) → entry (combination n f (row ∷ rows)) c ≡ (f 0 *ℤ entry row c) +ℤ entry rest c
    unfolded c = simp (entry-add, entry-scale) refl

    go : dot n (entry rest) y ≡ dot (length rows) (λ i. f (suc i)) (λ k. dot n (entry (get_or rows k [])) y) →
        dot n (entry (combination n f (row ∷ rows))) y ≡ dot (suc (length rows)) f (λ k. dot n (entry (get_or (row ∷ rows) k [])) y)
    go h =
        let r = dot-row n (pos 1) (f 0) (negsuc 0) (entry (combination n f (row ∷ rows))) (entry row) (entry rest) y (λ c l. omega (arith, ints, unfolded c)) in
        omega (arith, ints, r, h)
