-- The next pair of a ledger in which no worker has a claim, or why there is none.
use Rattle.std.proofs.Common.{◌≡◌, ℕ, suc, ◌<◌, List, [], ◌∷◌, length, get_or, Option, None, Some, arith, ap, refl, sym, ◌∙◌, subst}
use Rattle.std.proofs.lemmas.Option.{none-some}
use Rattle.mk_model.specs.CoreStates.{Pair, CoreState}
use Rattle.mk_model.specs.Legal.{claims_held, IsEnded}
use Rattle.mk_ledger.specs.Claims.{IsGiven, ClaimIsOverBudget, IsNotYet}
use Rattle.mk_ledger.specs.Ledgers.{LedgerView, IsLedger}
use Rattle.mk_core.specs.declared.completion.Ending.TheVariants.{Ended, OverBudget, Halted}
use Rattle.mk_core.specs.GoingOn.{NoneClaims, IsPairGiven, EndsBy}
use Rattle.mk_core.proofs.GoingOn.{claim_goes_on, first_claims}

pub workers_within : (ledger : LedgerView) → IsLedger ledger → 0 < ledger.state.workers
workers_within ledger kept = omega (arith, kept.some)

pub pair_given : (ledger after : LedgerView) (pair : Pair) → IsLedger ledger → NoneClaims ledger.state → IsGiven ledger.state 0 pair after.state → after.basis ≡ ledger.basis → IsPairGiven ledger after pair
pair_given ledger after pair kept none h e = record {
  goes_on = claim_goes_on ledger after 0 h.claim e;
  basis = e;
  claims = first_claims ledger.state after.state pair (omega (arith, kept.some, kept.legal.claims_by_workers)) none h.claim.no_halt h.changed;
  made = omega (arith, ap (λ s. s.claims_made) h.changed);
  within_budget = h.claim.within_budget;
}

-- no claim is held where no worker has one
pub none_held : (claims : List (Option Pair)) → ((worker : ℕ) → get_or claims worker None ≡ None) → claims_held claims ≡ 0
none_held [] none = refl
none_held (None ∷ claims) none = none_held claims (λ worker. none (suc worker))
none_held (Some pair ∷ claims) none = absurd (none-some pair (sym (none 0)))

-- the claim of the first worker is held
pub some_held : (claims : List (Option Pair)) (pair : Pair) → get_or claims 0 None ≡ Some pair → 0 < claims_held claims
some_held [] pair e = absurd (none-some pair e)
some_held (None ∷ claims) pair e = absurd (none-some pair e)
some_held (Some other ∷ claims) pair e = omega arith

pub ends_over_budget : (ledger after : LedgerView) (made : ℕ) → IsLedger ledger → NoneClaims ledger.state → ledger.state.first_halted ≡ None → ClaimIsOverBudget ledger.state made → after.state ≡ ledger.state → EndsBy after.state OverBudget
ends_over_budget ledger after made kept none no_halt h e = subst (λ state. EndsBy state OverBudget) (sym e) (no_halt, used_up, (h.pair, h.free))
  where
    used_up : length ledger.state.journal ≡ ledger.state.budget
    used_up =
        omega (arith, h.used_up, h.none_given_up, kept.legal.claims_counted, none_held ledger.state.claims none)

pub ends_ended : (state after : CoreState) → state.first_halted ≡ None → IsEnded state → after ≡ state → EndsBy after Ended
ends_ended state after no_halt ended e = subst (λ state. EndsBy state Ended) (sym e) (no_halt, ended)

pub ends_halted : (state after : CoreState) (worker : ℕ) → state.first_halted ≡ Some worker → after ≡ state → EndsBy after Halted
ends_halted state after worker h e = λ f. none-some worker (sym f ∙ ap (λ s. s.first_halted) e ∙ h)

pub never_waits : (state : CoreState) (holder : ℕ) (pair : Pair) → NoneClaims state → IsNotYet state holder pair → ⊥
never_waits state holder pair none h = none-some pair (sym (none holder) ∙ h.held)

pub same_ledger : (ledger after : LedgerView) → after.state ≡ ledger.state → after.basis ≡ ledger.basis → after ≡ ledger
same_ledger ledger after e f = ap (λ s. record { basis = after.basis; state = s }) e ∙ ap (λ b. record { basis = b; state = ledger.state }) f
