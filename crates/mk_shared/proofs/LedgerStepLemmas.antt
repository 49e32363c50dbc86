-- What is done to a ledger while one seat has the turn is nothing, or one event of that seat.
use Rattle.std.proofs.Common.{◌≡◌, inl, inr, ℕ, [], ◌∷◌, Result, Ok, Err, refl, sym, ap, subst, length}
use Rattle.mk_model.specs.CoreStates.{Way, CoreState, Halt}
use Rattle.mk_model.specs.CoreStates.Way.{Chain, Place}
use Rattle.mk_model.specs.CoreStates.Halt.{Full}
use Rattle.mk_model.specs.Events.{Event, Happens, IsClaim, IsSettling, IsHalting}
use Rattle.mk_model.specs.Events.Event.{Claims, Settles, Halts}
use Rattle.mk_move.specs.Moves.{Weighed}
use Rattle.mk_ledger.specs.declared.claims.Claim.{Claim}
use Rattle.mk_ledger.specs.declared.claims.Claim.TheVariants.{Claimed, NotYet, Ended, OverBudget, Stopped}
use Rattle.mk_ledger.specs.declared.ledger.ChainFault.{ChainFault}
use Rattle.mk_ledger.specs.declared.ledger.ChainFault.TheVariants as chain
use Rattle.mk_ledger.specs.declared.ledger.PlaceFault.{PlaceFault}
use Rattle.mk_ledger.specs.declared.ledger.PlaceFault.TheVariants as place
use Rattle.mk_ledger.specs.Claims.{AnswersClaim}
use Rattle.mk_ledger.specs.Ledgers.{LedgerView, IsLedger}
use Rattle.mk_ledger.specs.Settlings.{AnswersChain, IsPlacing}
use Rattle.mk_core.specs.GrownBases.{IsLonger}
use Rattle.mk_core.proofs.GrownBases.{longer_same}
use Rattle.mk_shared.specs.LedgerTurns.{acting_worker}
use Rattle.mk_shared.specs.LedgerSteps.{FollowsLegal, ClaimsInTurn, SettlesInTurn, ChainsInTurn, HaltsInTurn, PlacesInTurn}

-- a ledger with this basis and this state
with_state : (x y : LedgerView) (state : CoreState) → y.basis ≡ x.basis → y.state ≡ state → y ≡ record x { state = state }
with_state x y state e f = rw (← e, ← f) refl

module _ (x y : LedgerView) (legal : IsLedger x) (legal_then : IsLedger y) where
  by_event : (worker : ℕ) (event : Event) → acting_worker event ≡ worker →
      Happens (length x.basis.grading) x.basis.priority x.state event y.state → IsLonger x.basis y.basis → FollowsLegal worker x y
  by_event worker event by happens longer = (
    legal,
    inr (record {
      legal = legal;
      stays_legal = legal_then;
      event = event;
      by = by;
      happens = happens;
      longer = longer;
    }),
  )

  unchanged : (worker : ℕ) → y ≡ x → FollowsLegal worker x y
  unchanged worker e = (legal, inl (sym e))

  pub claims_in_turn : (worker : ℕ) (answer : Claim) → AnswersClaim x.state worker answer y.state → y.basis ≡ x.basis →
      ClaimsInTurn x worker answer y
  claims_in_turn worker (Claimed i j) h e = record {
    follows = by_event worker (Claims worker) refl h.claim (longer_same x.basis y.basis e);
    answers = record { claim = subst (IsClaim x.state worker) h.changed h.claim; changed = refl };
    changed = with_state x y _ e h.changed;
  }
  claims_in_turn worker Ended h e = record {
    follows = unchanged worker (with_state x y x.state e h.2);
    answers = (h.0, h.1, refl);
    changed = with_state x y x.state e h.2;
  }
  claims_in_turn worker (OverBudget made) h e = record {
    follows = unchanged worker (with_state x y x.state e h.2);
    answers = (h.0, h.1, refl);
    changed = with_state x y x.state e h.2;
  }
  claims_in_turn worker (NotYet other i j) h e = record {
    follows = unchanged worker (with_state x y x.state e h.2);
    answers = (h.0, h.1, refl);
    changed = with_state x y x.state e h.2;
  }
  claims_in_turn worker (Stopped other) h e = record {
    follows = unchanged worker (with_state x y x.state e h.1);
    answers = (h.0, refl);
    changed = with_state x y x.state e h.1;
  }

  pub settles_in_turn : (worker : ℕ) (way : Way) → IsSettling (length x.basis.grading) x.basis.priority x.state worker way y.state →
      y.basis ≡ x.basis → SettlesInTurn x worker way y
  settles_in_turn worker way h e = record {
    follows = by_event worker (Settles worker way) refl h (longer_same x.basis y.basis e);
    settling = h;
    basis = e;
  }

  pub chains_in_turn : (worker third : ℕ) (answer : Result Unit ChainFault) → AnswersChain x worker third answer y →
      ChainsInTurn x worker third answer y
  chains_in_turn worker third (Ok done) h = settles_in_turn worker (Chain third) h.0 h.1
  chains_in_turn worker third (Err chain.Memory) h = (legal, h.1)
  chains_in_turn worker third (Err (chain.Unsettled i j)) h = ((legal, h.1), h.0)

  pub halts_in_turn : (worker : ℕ) (halt : Halt) → IsHalting x.state worker halt y.state → y.basis ≡ x.basis → HaltsInTurn x worker halt y
  halts_in_turn worker halt h e = record {
    follows = by_event worker (Halts worker halt) refl h (longer_same x.basis y.basis e);
    halting = subst (IsHalting x.state worker halt) h.changed h;
    changed = with_state x y _ e h.changed;
  }

  pub places_in_turn : (worker front : ℕ) (m : Weighed) (answer : Result ℕ PlaceFault) → IsPlacing x worker front m answer y →
      PlacesInTurn x worker front m answer y
  places_in_turn worker front m (Ok p) h = (
    by_event worker (Settles worker (Place p)) refl h.settling
        (record {
          priority = ap (λ b. b.priority) h.pushed;
          grading = ap (λ b. b.grading) h.pushed;
          more = m ∷ [];
          moves = ap (λ b. b.moves) h.pushed;
        }),
    h,
  )
  places_in_turn worker front m (Err (place.Memory given)) h = (unchanged worker h.3, h)
  places_in_turn worker front m (Err (place.Behind count given)) h = (unchanged worker h.3, h)
  places_in_turn worker front m (Err place.BasisFull) h = (
    by_event worker (Halts worker (Full h.2.pair)) refl h.2.halting
        (longer_same x.basis y.basis h.3),
    h,
  )
