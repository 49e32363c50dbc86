-- The standard list of columns is a priority list.
use Rattle.std.proofs.Common.{◌≡◌, ℕ, zero, suc, ◌-◌, ◌<◌, ◌^◌, List, [], ◌∷◌, ◌++◌, length, All, refl, ap, arith, append_assoc, sub-one, sym, subst}
use Rattle.mk_model.specs.Orders.{standard}
use Rattle.mk_model.proofs.OrderLaws.{standard_within, standard_has}
use Rattle.mk_move.specs.Priorities.{IsPriority}

pub length-standard : (n : ℕ) → length (standard n) ≡ n
length-standard zero = refl
length-standard (suc n) = ap suc (length-standard n)

pub standard_priority : (n : ℕ) → n < 2 ^ 32 → IsPriority (standard n)
standard_priority n h = record {
  few = omega (arith, length-standard n);
  within = subst (λ (k : ℕ). All (λ c. c < k) (standard n)) (sym (length-standard n)) (standard_within n);
  every = λ c l. standard_has n c (omega (arith, length-standard n));
}

-- the next column at the end of a list completes the standard list from its front
pub standard_next : (xs : List ℕ) (k : ℕ) → 0 < k → (xs ++ (k - 1) ∷ []) ++ standard (k - 1) ≡ xs ++ standard k
standard_next xs zero h = absurd (omega arith)
standard_next xs (suc k) h = rw sub-one (append_assoc xs (k ∷ []) (standard k))
