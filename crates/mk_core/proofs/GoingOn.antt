-- What keeps a completion going on: each event of one worker does, and from one ledger to the next and the one after.
use Rattle.std.proofs.Common.{◌≡◌, ◌≢◌, ◌⊎◌, inl, inr, ℕ, zero, suc, ◌≤◌, ◌<◌, ◌-◌, ◌+◌, List, [], ◌∷◌, ◌++◌, length, get_or, set, take, Option, None, Some, ℤ, arith, ap, refl, sym, ◌∙◌, subst, append_assoc}
use Rattle.std.proofs.lemmas.Bool.{cases_eq}
use Rattle.std.proofs.lemmas.List.Elements.{All-nil, All-cons, All-append}
use Rattle.std.proofs.lemmas.List.{append-nil, take-append-le, get_or-set_same, get_or-set_other}
use Rattle.mk_model.specs.CoreStates.{Pair, Way, settle, Halt, CoreState, claim_of, start_of, new_state}
use Rattle.mk_model.specs.Events.{IsClaim, IsSettling, IsHalting, first_of, given_up, with_claim}
use Rattle.mk_model.proofs.Journals.{Grows, moves_grow}
use Rattle.mk_model.proofs.LegalEvents.{cleared_here}
use Rattle.mk_ledger.specs.Ledgers.{LedgerView}
use Rattle.mk_core.specs.Phases.{IsByFirst, IsHaltedOrWithin}
use Rattle.mk_core.specs.GoingOn.{ContinuesLedger, NoneClaims, FirstClaims, IsPairGiven}

pub GoesOn-here : (ledger : LedgerView) → ContinuesLedger ledger ledger
GoesOn-here ledger = record {
  priority = refl;
  grading = refl;
  start_length = refl;
  start = refl;
  budget = refl;
  limit = refl;
  made = omega arith;
  more = [];
  journal = sym (append-nil ledger.state.journal);
  by_first = All-nil IsByFirst;
  stays = λ e. refl;
  halts_within = λ e. inl e;
}

pub GoesOn-then : (before middle after : LedgerView) → ContinuesLedger before middle → ContinuesLedger middle after → ContinuesLedger before after
GoesOn-then before middle after g h = record {
  priority = h.priority ∙ g.priority;
  grading = h.grading ∙ g.grading;
  start_length = h.start_length ∙ g.start_length;
  start = h.start ∙ g.start;
  budget = h.budget ∙ g.budget;
  limit = h.limit ∙ g.limit;
  made = omega (arith, g.made, h.made);
  more = g.more ++ h.more;
  journal = h.journal ∙ ap (λ j. j ++ h.more) g.journal ∙ append_assoc before.state.journal g.more h.more;
  by_first = All-append IsByFirst g.more h.more g.by_first h.by_first;
  stays = λ e. h.stays (subst (λ (l : LedgerView). l.state.first_halted ≢ None) (sym (g.stays e)) e) ∙ g.stays e;
  halts_within = λ e. later (h.halts_within e);
}
  where
    earlier : after ≡ middle → IsHaltedOrWithin before (length middle.state.journal) → IsHaltedOrWithin before (length after.state.journal)
    earlier e within = subst (λ (l : LedgerView). IsHaltedOrWithin before (length l.state.journal)) (sym e) within

    later : IsHaltedOrWithin middle (length after.state.journal) → IsHaltedOrWithin before (length after.state.journal)
    later (inl e) = earlier (h.stays e) (g.halts_within e)
    later (inr l) = inr (omega (arith, l, g.budget))

-- ---- each event of a ledger
-- all but what the workers are at is as it was
abbrev with_workers : CoreState → List (Option Pair) → ℕ → ℕ → List (Option Halt) → Option ℕ → CoreState
with_workers state claims made up halts first =
    record state { claims = claims; claims_made = made; claims_given_up = up; halts = halts; first_halted = first }

module _ (ledger after : LedgerView) where
  workers_go_on : (claims : List (Option Pair)) (made up : ℕ) (halts : List (Option Halt)) (first : Option ℕ) → after.state ≡ with_workers ledger.state claims made up halts first → after.basis ≡ ledger.basis →
      ledger.state.first_halted ≡ None → ledger.state.claims_made ≤ made → (after.state.first_halted ≢ None → IsHaltedOrWithin ledger (length after.state.journal)) → ContinuesLedger ledger after
  workers_go_on claims made up halts first e b no_halt l within = record {
    priority = ap (λ b. b.priority) b;
    grading = ap (λ b. b.grading) b;
    start_length = ap (λ s. s.start_length) e;
    start = ap start_of e;
    budget = ap (λ s. s.budget) e;
    limit = ap (λ s. s.limit) e;
    made = omega (arith, l, ap (λ s. s.claims_made) e);
    more = [];
    journal = ap (λ s. s.journal) e ∙ sym (append-nil ledger.state.journal);
    by_first = All-nil IsByFirst;
    stays = λ f. absurd (f no_halt);
    halts_within = within;
  }

  pub claim_goes_on : (worker : ℕ) → IsClaim ledger.state worker after.state → after.basis ≡ ledger.basis → ContinuesLedger ledger after
  claim_goes_on worker h e =
      workers_go_on (set ledger.state.claims worker (Some h.pair)) (ledger.state.claims_made + 1) ledger.state.claims_given_up ledger.state.halts ledger.state.first_halted
      h.changed e h.no_halt (omega arith) (λ f. absurd (f (ap (λ s. s.first_halted) h.changed ∙ h.no_halt)))

  pub halting_goes_on : (halt : Halt) → ledger.state.first_halted ≡ None → length ledger.state.journal < ledger.state.budget → IsHalting ledger.state 0 halt after.state → after.basis ≡ ledger.basis → ContinuesLedger ledger after
  halting_goes_on halt no_halt within h e =
      workers_go_on (set ledger.state.claims 0 None) ledger.state.claims_made (ledger.state.claims_given_up + given_up (claim_of ledger.state 0)) (set ledger.state.halts 0 (Some halt)) (first_of ledger.state.first_halted 0)
      h.changed e no_halt (omega arith) (λ f. inr (omega (arith, within, ap (λ s. length s.journal) h.changed)))

  pub settling_goes_on : (n : ℕ) (priority : List ℕ) (way : Way) → ledger.state.start_length ≤ length ledger.state.basis → ledger.state.first_halted ≡ None → IsSettling n priority ledger.state 0 way after.state →
      after.basis.priority ≡ ledger.basis.priority → after.basis.grading ≡ ledger.basis.grading → ContinuesLedger ledger after
  settling_goes_on n priority way within no_halt h p w = record {
    priority = p;
    grading = w;
    start_length = ap (λ s. s.start_length) h.changed;
    start = ap start_of h.changed ∙ same_start;
    budget = ap (λ s. s.budget) h.changed;
    limit = ap (λ s. s.limit) h.changed;
    made = omega (arith, ap (λ s. s.claims_made) h.changed);
    more = settle 0 h.pair way ∷ [];
    journal = ap (λ s. s.journal) h.changed;
    by_first = All-cons IsByFirst (settle 0 h.pair way) [] refl (All-nil IsByFirst);
    stays = λ f. absurd (f no_halt);
    halts_within = λ f. absurd (f (ap (λ s. s.first_halted) h.changed ∙ no_halt));
  }
    where
      grows : Grows ledger.state.limit ledger.state.basis h.moves
      grows = moves_grow n priority ledger.state.limit ledger.state.basis ledger.state.journal h.pair way h.moves h.settled

      same_start : take ledger.state.start_length h.moves ≡ start_of ledger.state
      same_start =
          ap (take ledger.state.start_length) grows.longer ∙ take-append-le ledger.state.start_length ledger.state.basis grows.more within

-- ---- who has a claim
-- where no worker had one, the first has the pair that it is given
pub first_claims : (state after : CoreState) (pair : Pair) → 0 < length state.claims → NoneClaims state → state.first_halted ≡ None → after ≡ with_claim state 0 pair → FirstClaims after pair
first_claims state after pair l none no_halt e = record {
  no_halt = ap (λ s. s.first_halted) e ∙ no_halt;
  claimed = ap (λ s. claim_of s 0) e ∙ get_or-set_same state.claims 0 (Some pair) None l;
  others = λ worker d. ap (λ s. claim_of s worker) e ∙ get_or-set_other state.claims 0 worker (Some pair) None d ∙ none worker;
}

-- once its claim is cleared, no worker has one
pub none_claims : (state after : CoreState) (pair : Pair) → FirstClaims state pair → after.claims ≡ set state.claims 0 None → NoneClaims after
none_claims state after pair h e worker = ap (λ claims. get_or claims worker None) e ∙ cleared (cases_eq worker 0)
  where
    cleared : (worker ≡ 0) ⊎ (worker ≡ 0 → ⊥) → get_or (set state.claims 0 None) worker None ≡ None
    cleared (inl d) = ap (λ k. get_or (set state.claims 0 None) k None) d ∙ cleared_here state.claims 0
    cleared (inr d) = get_or-set_other state.claims 0 worker None None d ∙ h.others worker d

-- ---- the measure: how many claims the budget has left
pub fewer_left : (ledger given after : LedgerView) (pair : Pair) → IsPairGiven ledger given pair → ContinuesLedger given after → after.state.budget - after.state.claims_made < ledger.state.budget - ledger.state.claims_made
fewer_left ledger given after pair g h = omega (arith, g.made, g.within_budget, g.goes_on.budget, h.budget, h.made)

-- no worker has one where a completion begins
pub none_claims_new : (start : List (List ℤ)) (budget limit : ℕ) → NoneClaims (new_state start budget limit 1)
none_claims_new start budget limit zero = refl
none_claims_new start budget limit (suc worker) = refl
