-- The least of the claims, one worker after another.
use Rattle.std.proofs.Common.{◌≡◌, ◌⊎◌, inl, inr, ℕ, ◌+◌, ◌<◌, List, length, get_or, Option, None, Some, arith, sym, ap, ◌∙◌, subst, ⊎_elim}
use Rattle.std.proofs.lemmas.Bool.{cases_lt}
use Rattle.std.proofs.lemmas.Option.{none-some, same_Some}
use Rattle.std.proofs.lemmas.List.{get_or_past}
use Rattle.mk_model.specs.CoreStates.{Pair, IsLesser}
use Rattle.mk_ledger.specs.HeldClaims.{NoneHeld, IsLeastHeld}

lesser_trans : (p q r : Pair) → IsLesser p q → IsLesser q r → IsLesser p r
lesser_trans p q r (inl h) (inl k) = inl (omega (arith, h, k))
lesser_trans p q r (inl h) (inr (e, k)) = inl (omega (arith, h, e))
lesser_trans p q r (inr (e, h)) (inl k) = inl (omega (arith, e, k))
lesser_trans p q r (inr (e, h)) (inr (f, k)) = inr (e ∙ f, omega (arith, h, k))

not_itself : (p : Pair) → ¬ (IsLesser p p)
not_itself p (inl h) = omega (arith, h)
not_itself p (inr (e, h)) = omega (arith, h)

last_or_before : (i n : ℕ) → i < n + 1 → (i < n) ⊎ (i ≡ n)
last_or_before i n l = ⊎_elim inl (λ h. inr (omega (arith, l, h))) (cases_lt i n)

module _ (claims : List (Option Pair)) (worker : ℕ) where
  -- a lesser claim
  pub least_taken : (known : ℕ) (least pair : Pair) → IsLeastHeld claims worker known least → get_or claims worker None ≡ Some pair →
      IsLesser pair least → IsLeastHeld claims (worker + 1) worker pair
  least_taken known least pair h e lesser = record {
    held = e;
    least = λ i q l f. ⊎_elim (λ k. λ less. h.least i q k f (lesser_trans q pair least less lesser)) (λ k. λ less. not_itself pair
        (subst (λ p. IsLesser p pair) (sym (same_Some pair q (sym e ∙ ap (λ i. get_or claims i None) (sym k) ∙ f))) less))
        (last_or_before i worker l);
  }

-- ---- all workers
pub none_of_all : (claims : List (Option Pair)) → NoneHeld claims (length claims) → (worker : ℕ) → get_or claims worker None ≡ None
none_of_all claims h worker = ⊎_elim (λ l. h worker l) (λ l. get_or_past claims worker None l) (cases_lt worker (length claims))

pub least_of_all : (claims : List (Option Pair)) (worker : ℕ) (pair : Pair) → IsLeastHeld claims (length claims) worker pair →
    (other : ℕ) (q : Pair) → get_or claims other None ≡ Some q → ¬ (IsLesser q pair)
least_of_all claims worker pair h other q e =
    ⊎_elim (λ l. h.least other q l e) (λ l. absurd (none-some q (sym (get_or_past claims other None l) ∙ e)))
    (cases_lt other (length claims))
