-- The numbers of pairs: how many pairs one move more brings, and that a number names one pair.
use Rattle.std.proofs.Common.{◌≡◌, ◌⊎◌, inl, inr, ℕ, zero, suc, ◌+◌, ◌-◌, ◌*◌, ◌/◌, ◌<◌, ◌≤◌, arith, refl, sym, ap, ◌∙◌, subst}
use Rattle.std.proofs.Math.Nat.{add-mul-div_right}
use Rattle.std.proofs.lemmas.Bool.{cases_lt, cases_order}
use Rattle.mk_model.specs.CoreStates.{Pair, pair_of}
use Rattle.mk_ledger.specs.PairFlags.{pairs_of, pair_number}
use Rattle.mk_ledger.specs.Ledgers.{number_of}

product_more : (m : ℕ) → (m + 1) * (m + 1 - 1) ≡ m * (m - 1) + m * 2
product_more zero = refl
product_more (suc m) =
    let e : suc m + 1 - 1 ≡ m + 1 = omega arith in
    let f : suc m - 1 ≡ m = omega arith in
    let g : (suc m + 1) * (m + 1) ≡ suc m * m + suc m * 2 = omega arith in
    ap (λ k. (suc m + 1) * k) e ∙ g ∙ ap (λ k. suc m * k + suc m * 2) (sym f)

pub pairs_of_more : (m : ℕ) → pairs_of (m + 1) ≡ pairs_of m + m
unfolding pairs_of
pairs_of_more m = ap (λ k. k / 2) (product_more m) ∙ add-mul-div_right (m * (m - 1)) m (omega arith)

pub pairs_of_none : pairs_of 0 ≡ 0
unfolding pairs_of
pairs_of_none = refl

pairs_of_further : (m k : ℕ) → pairs_of m ≤ pairs_of (m + k)
pairs_of_further m zero = let e : m + zero ≡ m = omega arith in subst (λ n. pairs_of m ≤ pairs_of n) (sym e) (omega arith)
pairs_of_further m (suc k) =
    let e : m + suc k ≡ m + k + 1 = omega arith in
    subst (λ n. pairs_of m ≤ pairs_of n) (sym e) (omega (arith, pairs_of_further m k, pairs_of_more (m + k)))

-- no fewer pairs of no fewer moves
pub pairs_of_least : (m n : ℕ) → m ≤ n → pairs_of m ≤ pairs_of n
pairs_of_least m n l =
    let e : m + (n - m) ≡ n = omega arith in
    subst (λ k. pairs_of m ≤ pairs_of k) e (pairs_of_further m (n - m))

-- the numbers of the pairs of so many moves are below their count
pub number_below : (i j m : ℕ) → i < j → j < m → pair_number i j < pairs_of m
number_below i j m l k = omega (arith, pairs_of_more j, pairs_of_least (j + 1) m (omega arith))

-- a greater second place has the greater number
pub number_of_less : (i j k l : ℕ) → i < j → j < l → pair_number i j < pair_number k l
number_of_less i j k l h g = omega (arith, number_below i j l h g)

-- one number is that of one pair
pub number_of_one : (i j k l : ℕ) → i < j → k < l → pair_number i j ≡ pair_number k l → (i ≡ k) × (j ≡ l)
number_of_one i j k l h g e = go (cases_order j l)
  where
    go : (j ≡ l) ⊎ ((j < l) ⊎ (l < j)) → (i ≡ k) × (j ≡ l)
    go (inr (inl f)) = absurd (omega (arith, number_of_less i j k l h f))
    go (inl f) = (omega (arith, ap pairs_of f), f)
    go (inr (inr f)) = absurd (omega (arith, number_of_less k l i j g f))

-- two pairs of one number are one pair
pub same_pair : (p q : Pair) → p.first < p.second → q.first < q.second → number_of p ≡ number_of q → p ≡ q
same_pair p q h k e =
    let (f, g) = number_of_one p.first p.second q.first q.second h k e in
    ap (λ i. pair_of i p.second) f ∙ ap (λ j. pair_of q.first j) g

-- the number of a pair tells whether its places are below a count
pub within_by_number : (i j m : ℕ) → i < j → pair_number i j < pairs_of m → j < m
within_by_number i j m l h = go (cases_lt j m)
  where
    go : (j < m) ⊎ (m ≤ j) → j < m
    go (inl f) = f
    go (inr f) = absurd (omega (arith, h, pairs_of_least m j f))

-- the next number is that of the next first place, or of the next second place
pub number_in_row : (i j : ℕ) → pair_number (i + 1) j ≡ pair_number i j + 1
number_in_row i j = omega arith

pub number_next_row : (i j : ℕ) → i < j → j ≤ i + 1 → pair_number 0 (j + 1) ≡ pair_number i j + 1
number_next_row i j l h = omega (arith, pairs_of_more j)

pub number_first : pair_number 0 1 ≡ 0
unfolding pairs_of
number_first = refl
