-- The list that names one column first is a priority list.
use Rattle.std.proofs.Common.{◌≡◌, ◌≢◌, ◌⊎◌, ℕ, zero, suc, ◌-◌, ◌<◌, ◌≤◌, ◌^◌, ◌==◌, not, true, false, List, [], ◌∷◌, ◌++◌, length, All, Contains, refl, ap, arith, append_assoc, sub-one, sym, subst, ◌∙◌, inl, inr}
use Rattle.std.proofs.lemmas.Bool.{cases_eq, false_from_ne_true}
use Rattle.std.proofs.lemmas.Bool.Decides.{Decides-eqb}
use Rattle.std.proofs.lemmas.List.Elements.{All-cons, All-filter}
use Rattle.mk_model.specs.Orders.{standard}
use Rattle.mk_model.proofs.OrderLaws.{standard_within}
use Rattle.mk_model.proofs.Lists.{Contains-here, Contains-there}
use Rattle.mk_move.specs.Priorities.{IsPriority, others}

eq_true : (a b : ℕ) → a ≡ b → (a == b) ≡ true
eq_true a b h = (Decides-eqb a b).1 h

eq_false : (a b : ℕ) → a ≢ b → (a == b) ≡ false
eq_false a b h = false_from_ne_true (a == b) (λ e. h ((Decides-eqb a b).0 e))

-- one column less, where it is the one or another
pub others_same : (column n : ℕ) → n ≡ column → others column (suc n) ≡ others column n
others_same column n h = rw (eq_true n column h) refl

pub others_more : (column n : ℕ) → n ≢ column → others column (suc n) ≡ n ∷ others column n
others_more column n h = rw (eq_false n column h) refl

others_past : (column n : ℕ) → n ≤ column → length (others column n) ≡ n
others_past column zero h = refl
others_past column (suc n) h = ap length (others_more column n (λ e. omega arith)) ∙ ap suc (others_past column n (omega arith))

pub length-others : (column n : ℕ) → column < n → suc (length (others column n)) ≡ n
length-others column zero h = absurd (omega arith)
length-others column (suc n) h =
    elim (cases_eq n column) [
      | inl same ↦ ap suc (ap length (others_same column n same) ∙ others_past column n (omega arith))
      | inr other ↦ ap suc (ap length (others_more column n other) ∙ length-others column n (omega arith))
    ]

others_every : (column n c : ℕ) → c < n → c ≢ column → Contains (others column n) c
others_every column zero c h d = absurd (omega arith)
others_every column (suc n) c h d =
    elim (cases_eq n column) [
      | inl same ↦
          subst (λ (xs : List ℕ). Contains xs c) (sym (others_same column n same))
          (others_every column n c (elim (cases_eq c n) [ inl e ↦ absurd (d (e ∙ same)) | inr u ↦ omega arith ]) d)
      | inr other ↦
          subst (λ (xs : List ℕ). Contains xs c) (sym (others_more column n other))
          (elim (cases_eq c n) [
            | inl e ↦ subst (λ (k : ℕ). Contains (n ∷ others column n) k) (sym e) (Contains-here n (others column n))
            | inr u ↦ Contains-there n (others column n) c (others_every column n c (omega arith) d)
          ])
    ]

pub first_priority : (column n : ℕ) → column < n → n < 2 ^ 32 → IsPriority (column ∷ others column n)
first_priority column n h few = record {
  few = omega (arith, length-others column n h);
  within = subst (λ (k : ℕ). All (λ c. c < k) (column ∷ others column n)) (sym (length-others column n h))
      (All-cons (λ c. c < n) column (others column n) h (All-filter (λ c. not (c == column)) (λ c. c < n) (standard n) (standard_within n)));
  every = λ c l. at c l (cases_eq c column);
}
  where
    at : (c : ℕ) → c < length (column ∷ others column n) → (c ≡ column) ⊎ (c ≢ column) → Contains (column ∷ others column n) c
    at c l (inl e) = subst (λ (k : ℕ). Contains (column ∷ others column n) k) (sym e) (Contains-here column (others column n))
    at c l (inr u) = Contains-there column (others column n) c (others_every column n c (omega (arith, length-others column n h)) u)

-- the next column at the end of a list leaves the columns before it
pub others_next : (xs : List ℕ) (column k : ℕ) → 0 < k → k - 1 ≢ column → (xs ++ (k - 1) ∷ []) ++ others column (k - 1) ≡ xs ++ others column k
others_next xs column zero h d = absurd (omega arith)
others_next xs column (suc k) h d =
    rw (sub-one, append_assoc) (ap (λ ys. xs ++ ys) (sym (others_more column k (λ e. d (rw sub-one e)))))

pub others_skip : (xs : List ℕ) (column k : ℕ) → 0 < k → k - 1 ≡ column → xs ++ others column (k - 1) ≡ xs ++ others column k
others_skip xs column zero h d = absurd (omega arith)
others_skip xs column (suc k) h d = rw sub-one (ap (λ ys. xs ++ ys) (sym (others_same column k (rw sub-one at d))))
