-- A claim of the next pair, over the fields of a ledger.
use Rattle.std.proofs.Common.{◌≡◌, ℕ, ◌+◌, ◌<◌, ◌≤◌, length, set, Some, arith, refl, sym, subst}
use Rattle.std.specs.Vec.{with_item}
use Rattle.mk_model.specs.CoreStates.{Pair, pair_of, CoreState, IsPairOf}
use Rattle.mk_model.specs.Events.{IsClaim, with_claim}
use Rattle.mk_model.specs.Events.Event.{Claims}
use Rattle.mk_model.proofs.LegalEvents.{events_keep}
use Rattle.mk_ledger.specs.PairFlags.{pairs_of}
use Rattle.mk_ledger.specs.DisjointPairs.{IsNextPair}
use Rattle.mk_ledger.specs.Ledgers.{LedgerView, IsLedger, AreInOrder}
use Rattle.mk_ledger.specs.LedgerFields.{ledger_of, AreFields}
use Rattle.mk_ledger.specs.declared.ledger.Ledger.TheInside.{Inside}
use Rattle.mk_ledger.specs.Claims.{IsGiven}
use Rattle.mk_ledger.specs.HeldClaims.{MayClaim}
use Rattle.mk_ledger.proofs.PairNumbers.{pairs_of_least, within_by_number}
use Rattle.mk_ledger.proofs.InOrder.{is_claim, claim_in_order, claim_flagged}

module _ {ledger : LedgerView} (kept : IsLedger ledger) (order : AreInOrder ledger.state) {worker : ℕ}
    (may : MayClaim ledger.state worker) {pair : Pair} (next : IsNextPair ledger.state pair) where
  of_basis : IsPairOf ledger.state.basis pair
  of_basis = record {
    ordered = next.ordered;
    within = within_by_number pair.first pair.second (length ledger.state.basis) next.ordered (omega (arith, next.number_is, may.left));
  }

  pub the_claim : IsClaim ledger.state worker (with_claim ledger.state worker pair)
  the_claim = is_claim order worker pair may.within may.no_halt may.idle may.budget of_basis next.number_is

  pub claim_given : IsGiven ledger.state worker pair (with_claim ledger.state worker pair)
  claim_given = record { claim = the_claim; changed = refl }

  pub claim_kept : IsLedger (record ledger { state = with_claim ledger.state worker pair })
  claim_kept = record {
    basis = kept.basis;
    moves = kept.moves;
    legal = events_keep (length ledger.basis.grading) ledger.basis.priority ledger.state (Claims worker)
        (with_claim ledger.state worker pair) kept.legal the_claim;
    limit = kept.limit;
    some = kept.some;
    workers = kept.workers;
  }

  pub order_kept : AreInOrder (with_claim ledger.state worker pair)
  order_kept = claim_in_order order worker pair (omega (arith, may.within, kept.legal.claims_by_workers)) may.no_halt may.idle of_basis
      next.number_is

-- there are no more pairs than of 65,536 moves
pub few_pairs : {ledger : LedgerView} → IsLedger ledger → pairs_of (length ledger.state.basis) ≤ pairs_of 65536
few_pairs {ledger = ledger} kept = pairs_of_least (length ledger.state.basis) 65536 (omega (arith, kept.limit, kept.legal.basis_within))

-- the fields after a claim
pub claimed_fields : (fields : Inside) (worker i j next : ℕ) → AreFields fields → MayClaim (ledger_of fields).state worker →
    IsNextPair (ledger_of fields).state (pair_of i j) → next ≡ fields.next + 1 →
    AreFields (record fields { claims = with_item fields.claims worker (Some (pair_of i j)); next = next })
claimed_fields fields worker i j next kept may here e =
    subst (λ n. AreFields (record fields { claims = with_item fields.claims worker (Some (pair_of i j)); next = n })) (sym e) (record {
      ledger = claim_kept kept.ledger kept.in_order may here;
      flags_moves = kept.flags_moves;
      flagged = claim_flagged worker (pair_of i j) kept.flagged;
      in_order = order_kept kept.ledger kept.in_order may here;
    })

pub claimed_answer : (fields : Inside) (worker i j next : ℕ) → AreFields fields → MayClaim (ledger_of fields).state worker →
    IsNextPair (ledger_of fields).state (pair_of i j) → next ≡ fields.next + 1 →
    IsGiven (ledger_of fields).state worker (pair_of i j) (record (ledger_of fields).state {
      claims = set fields.claims.items worker
          (Some (pair_of i j));
      claims_made = next;
    })
claimed_answer fields worker i j next kept may here e =
    subst (λ n. IsGiven (ledger_of fields).state worker (pair_of i j)
    (record (ledger_of fields).state { claims = set fields.claims.items worker (Some (pair_of i j)); claims_made = n })) (sym e)
    (claim_given kept.ledger kept.in_order may here)
