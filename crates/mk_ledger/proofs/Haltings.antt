-- A worker that halts: the order of the claims and the flags afterwards.
use Rattle.std.proofs.Common.{◌≡◌, ◌≢◌, ◌⊎◌, inl, inr, ℕ, Bool, List, Option, Some, None, arith, refl, sym, ap, ◌∙◌, ⊎_elim}
use Rattle.std.proofs.lemmas.Option.{none-some}
use Rattle.std.proofs.lemmas.List.{get_or-set_other}
use Rattle.mk_model.specs.CoreStates.{Pair, Halt, CoreState, claim_of}
use Rattle.mk_model.specs.Events.{with_halt, given_up, first_of}
use Rattle.mk_model.specs.Legal.{IsLegal}
use Rattle.mk_model.proofs.LegalEvents.{cleared}
use Rattle.mk_ledger.specs.Ledgers.{AreFlagged, AreAllTaken, IsOneLeft, AreInOrder}

-- once a worker halted, there is a first that did
some_first : (o : Option ℕ) (worker : ℕ) → first_of o worker ≢ None
some_first None worker e = none-some worker (sym e)
some_first (Some earlier) worker e = none-some earlier (sym e)

module _ {n : ℕ} {priority : List ℕ} {state : CoreState} (legal : IsLegal n priority state) (order : AreInOrder state) (worker : ℕ)
    (halt : Halt) where
  abbrev after : CoreState
  after = with_halt state worker halt

  -- a pair that the worker gives up is free
  left_free : (pair : Pair) → claim_of state worker ≡ Some pair → IsOneLeft after
  left_free pair e = record {
    given_up = omega (arith, ap given_up e);
    halted = some_first state.first_halted worker;
    pair = pair;
    free = record {
      of_basis = (legal.claims_unsettled worker pair e).0;
      unsettled = (legal.claims_unsettled worker pair e).1;
      unclaimed = λ (a, f). let (g, k) = cleared state.claims worker a pair f in g (legal.claims_differ a worker pair k e);
    };
  }

  all_taken : claim_of state worker ≡ None → AreAllTaken state → AreAllTaken after
  all_taken e h = record {
    none_given_up = omega (arith, ap given_up e, h.none_given_up);
    taken = λ p b l. ⊎_elim inl (λ (a, f). inr (a, other p a f)) (h.taken p b l);
  }
    where
      other : (p : Pair) (a : ℕ) → claim_of state a ≡ Some p → claim_of after a ≡ Some p
      other p a f = get_or-set_other state.claims worker a None None (λ g. none-some p (sym e ∙ ap (λ k. claim_of state k) (sym g) ∙ f)) ∙ f

  one_left : claim_of state worker ≡ None → IsOneLeft state → IsOneLeft after
  one_left e h = record {
    given_up = omega (arith, h.given_up);
    halted = some_first state.first_halted worker;
    pair = h.pair;
    free = record {
      of_basis = h.free.of_basis;
      unsettled = h.free.unsettled;
      unclaimed = λ (a, f). h.free.unclaimed (a, (cleared state.claims worker a h.pair f).1);
    };
  }

  before : (o : Option Pair) → claim_of state worker ≡ o → AreAllTaken state ⊎ IsOneLeft state → AreAllTaken after ⊎ IsOneLeft after
  before (Some pair) e h = inr (left_free pair e)
  before None e (inl h) = inl (all_taken e h)
  before None e (inr h) = inr (one_left e h)

  pub halt_keeps_order : AreInOrder after
  halt_keeps_order = record {
    made = order.made;
    settled = order.settled;
    claimed = λ p (a, e). order.claimed p (a, (cleared state.claims worker a p e).1);
    before = before (claim_of state worker) refl order.before;
  }

pub halt_keeps_flags : {state : CoreState} (flags : List Bool) → AreFlagged state flags →
    (worker : ℕ) (halt : Halt) → AreFlagged (with_halt state worker halt) flags
halt_keeps_flags flags h worker halt = record { count = h.count; each = h.each }
