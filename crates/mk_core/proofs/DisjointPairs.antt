-- A completion goes on where the first worker claims and settles pairs of disjoint leads, one after another.
use Rattle.std.proofs.Common.{◌≡◌, ◌≢◌, inl, ℕ, List, [], ◌∷◌, map, All, None, arith, refl, ap, ◌∙◌}
use Rattle.std.proofs.lemmas.List.Elements.{All-nil, All-cons}
use Rattle.mk_model.specs.CoreStates.{Pair, Settle, CoreState, settle, claim_of, start_of}
use Rattle.mk_model.specs.CoreStates.Way.{Coprime}
use Rattle.mk_model.specs.Events.{HappenInTurn}
use Rattle.mk_ledger.specs.Ledgers.{LedgerView}
use Rattle.mk_ledger.specs.DisjointPairs.{coprime_events, SettlesDisjoint}
use Rattle.mk_core.specs.Phases.{IsByFirst}
use Rattle.mk_core.specs.GoingOn.{GoesOnUnclaimed, NoneClaims}
use Rattle.mk_core.proofs.Endings.{same_ledger}

abbrev entry_for : Pair → Settle
entry_for pair = settle 0 pair Coprime

all_by_first : (pairs : List Pair) → All IsByFirst (map entry_for pairs)
all_by_first [] = All-nil IsByFirst
all_by_first (pair ∷ pairs) = All-cons IsByFirst (entry_for pair) (map entry_for pairs) refl (all_by_first pairs)

-- where a halt stands, no pair is claimed
none_where_halted : (n : ℕ) (priority : List ℕ) (state after : CoreState) (pairs : List Pair) → HappenInTurn n priority state (coprime_events 0 pairs) after → state.first_halted ≢ None → after ≡ state
none_where_halted n priority state after [] e halted = e
none_where_halted n priority state after (pair ∷ pairs) (middle, claim, rest) halted = absurd (halted claim.no_halt)

pub disjoint_unclaimed : (n : ℕ) (priority : List ℕ) (ledger after : LedgerView) → NoneClaims ledger.state → SettlesDisjoint n priority ledger.state 0 after.state → after.basis ≡ ledger.basis → GoesOnUnclaimed ledger after
disjoint_unclaimed n priority ledger after none h e = record {
  goes_on = record {
    priority = ap (λ b. b.priority) e;
    grading = ap (λ b. b.grading) e;
    start_length = ap (λ s. s.start_length) h.changed;
    start = ap start_of h.changed;
    budget = ap (λ s. s.budget) h.changed;
    limit = ap (λ s. s.limit) h.changed;
    made = omega (arith, ap (λ s. s.claims_made) h.changed);
    more = map entry_for h.pairs;
    journal = ap (λ s. s.journal) h.changed;
    by_first = all_by_first h.pairs;
    stays = λ halted. same_ledger ledger after (none_where_halted n priority ledger.state after.state h.pairs h.events halted) e;
    halts_within = λ halted. inl (λ f. halted (ap (λ s. s.first_halted) h.changed ∙ f));
  };
  unclaimed = λ worker. ap (λ s. claim_of s worker) h.changed ∙ none worker;
}
