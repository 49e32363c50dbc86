-- A worker whose claim and copy are as before is where it was; and what a miss, a look, a settle or a halt leaves it at.
use Rattle.std.proofs.Common.{◌≡◌, ℕ, true, false, ◌||◌, List, take, None, Some, IfSome, ℤ, ap, refl, sym, ◌∙◌, subst}
use Rattle.std.proofs.lemmas.Bool.{or_left, or_right}
use Rattle.mk_model.specs.CoreStates.{Pair, Way, Halt, move_at, IsPairOf}
use Rattle.mk_model.specs.CoreStates.Halt.{Overflow, Full, Memory}
use Rattle.mk_model.specs.Orders.{lead}
use Rattle.mk_model.specs.Pairs.{AreDisjoint}
use Rattle.mk_model.specs.Events.{HaveCommonColumn, IsPairOverflow}
use Rattle.mk_model.specs.Reductions.{IsNormal}
use Rattle.mk_move.specs.Moves.{Weighed}
use Rattle.mk_move.specs.MoveLists.{BasisView, vectors_of}
use Rattle.mk_reduce.specs.Works.{TheWork, WorkOf}
use Rattle.mk_ledger.specs.Halts.{halt_as}
use Rattle.mk_ledger.specs.Ledgers.{LedgerView}
use Rattle.mk_ledger.specs.declared.halt.Halt.TheVariants as kept
use Rattle.mk_shared.specs.SharedSeats.{SeatView, HasClaim, HasCoprimeClaim, HasWorkDone, IsStop, after_look}
use Rattle.mk_shared.specs.SharedAnswers.{IsMissed, IsSettledTurn, IsPlacedTurn, IsFullTurn, IsHaltedTurn}
use Rattle.mk_workers.specs.declared.stage.SeatStage.{SeatStage}
use Rattle.mk_workers.specs.declared.stage.SeatStage.TheVariants.{Idle, Fresh, Tests, Disjoint, Thirds, Ready, Reduced, Stale, Stopping, Gone}
use Rattle.mk_workers.specs.Stages.{IsSameSeat, HasSeatWork, IsSeatAt, AreFirstLeads, Steps}

-- the same seat with the same claim and copy, and done where it was
pub record IsStill (before after : SeatView) : Type 0 where
  pub same : IsSameSeat before after
  pub claim : after.sight.claim ≡ before.sight.claim
  pub copy : after.copy ≡ before.copy
  pub nothing_left : after.nothing_left ≡ before.nothing_left
  pub halted : after.halted ≡ before.halted

module _ (before after : SeatView) (s : IsStill before after) where
  claim_still : (pair : Pair) → HasClaim before pair → HasClaim after pair
  claim_still pair h = record { claimed = s.claim ∙ h.claimed; of_copy = subst (λ (b : BasisView). IsPairOf (vectors_of b.moves) pair) (sym s.copy) h.of_copy }

  common_still : (pair : Pair) → HaveCommonColumn (vectors_of before.copy.moves) pair → HaveCommonColumn (vectors_of after.copy.moves) pair
  common_still pair h = subst (λ (b : BasisView). HaveCommonColumn (vectors_of b.moves) pair) (sym s.copy) h

  disjoint_still : HasCoprimeClaim before → HasCoprimeClaim after
  disjoint_still h = record {
    pair = h.pair;
    claim = claim_still h.pair h.claim;
    disjoint = subst (λ (b : BasisView). AreDisjoint (lead (move_at (vectors_of b.moves) h.pair.first)) (lead (move_at (vectors_of b.moves) h.pair.second))) (sym s.copy) h.disjoint;
  }

  work_still : (work : TheWork) → HasSeatWork before work → HasSeatWork after work
  work_still work h = record { claimed = s.claim ∙ h.claimed; common = common_still work.pair h.common; done = subst (WorkOf work) (sym s.copy) h.done }

  done_still : (work : TheWork) → HasWorkDone before work → HasWorkDone after work
  done_still work h = record {
    claimed = s.claim ∙ h.claimed;
    done = subst (WorkOf work) (sym s.copy) h.done;
    normal = subst (λ (b : BasisView). IfSome work.remainder (λ (m : Weighed). IsNormal (take work.front (vectors_of b.moves)) m.entries)) (sym s.copy) h.normal;
  }

  stop_still : (halt : Halt) → IsStop before halt → IsStop after halt
  stop_still (Overflow stop) h = (claim_still stop.pair h.0, subst (λ (b : BasisView). IsPairOverflow (vectors_of b.moves) stop) (sym s.copy) h.1)
  stop_still (Full pair) h = h
  stop_still Memory h = tt

  pub at_still : (stage : SeatStage) → IsSeatAt before stage → IsSeatAt after stage
  at_still Idle h = s.claim ∙ h
  at_still Fresh (pair, claimed, ordered) = (pair, s.claim ∙ claimed, ordered)
  at_still Tests (pair, h) = (pair, claim_still pair h)
  at_still Disjoint h = disjoint_still h
  at_still (Thirds from tried) (pair, h, common) = (pair, claim_still pair h, common_still pair common)
  at_still Ready (pair, h, common) = (pair, claim_still pair h, common_still pair common)
  at_still (Reduced work) (h, done) = (work_still work h, done_still work done)
  at_still (Stale work) h = work_still work h
  at_still (Stopping halt) ((pair, claimed), cause) = ((pair, s.claim ∙ claimed), stop_still (halt_as halt) cause)
  at_still Gone h = record {
    idle = s.claim ∙ h.idle;
    done = ap (λ ended. ended || after.halted) s.nothing_left ∙ ap (λ halted. before.nothing_left || halted) s.halted ∙ h.done;
  }

  pub steps_still : (leads : List (List ℤ)) (stage : SeatStage) → AreFirstLeads leads before.copy → IsSeatAt before stage → Steps before after leads stage
  steps_still leads stage first at = record { same = s.same; first_leads = subst (AreFirstLeads leads) (sym s.copy) first; at = at_still stage at }

same_here : (seat : SeatView) → IsSameSeat seat seat
same_here seat = record { table = refl; number = refl; fixed = refl; seats = refl; made = refl; joined = refl }

pub stays : (seat : SeatView) (leads : List (List ℤ)) (stage : SeatStage) → AreFirstLeads leads seat.copy → IsSeatAt seat stage → Steps seat seat leads stage
stays seat leads stage first at = record { same = same_here seat; first_leads = first; at = at }

module _ (before after : SeatView) (leads : List (List ℤ)) (first : AreFirstLeads leads before.copy) where
  -- another seat had the turn
  pub misses : (word : ℕ) (stage : SeatStage) → IsMissed before word after → IsSeatAt before stage → Steps before after leads stage
  misses word stage h at = steps_still before after still leads stage first at
    where
      still : IsStill before after
      still = subst (IsStill before) (sym h.changed) (record { same = record { table = refl; number = refl; fixed = refl; seats = refl; made = refl; joined = refl }; claim = refl; copy = refl; nothing_left = refl; halted = refl })

  -- the ledger was only seen
  pub looks : (ledger : LedgerView) (stage : SeatStage) → after ≡ record before { sight = after_look ledger before.sight } → IsSeatAt before stage → Steps before after leads stage
  looks ledger stage e at = steps_still before after still leads stage first at
    where
      still : IsStill before after
      still = subst (IsStill before) (sym e) (record { same = record { table = refl; number = refl; fixed = refl; seats = refl; made = refl; joined = refl }; claim = refl; copy = refl; nothing_left = refl; halted = refl })

  -- the published length was read
  pub reads : (length_read : ℕ) (stage : SeatStage) → after ≡ record before { sight = record before.sight { known = length_read } } → IsSeatAt before stage → Steps before after leads stage
  reads length_read stage e at = steps_still before after still leads stage first at
    where
      still : IsStill before after
      still = subst (IsStill before) (sym e) (record { same = record { table = refl; number = refl; fixed = refl; seats = refl; made = refl; joined = refl }; claim = refl; copy = refl; nothing_left = refl; halted = refl })

  -- there is no pair yet
  pub waits : (ledger : LedgerView) → after ≡ record before { sight = after_look ledger before.sight; nothing_left = false } → before.sight.claim ≡ None → Steps before after leads Idle
  waits ledger e idle = subst (λ (seat : SeatView). Steps before seat leads Idle) (sym e) (record {
    same = record { table = refl; number = refl; fixed = refl; seats = refl; made = refl; joined = refl };
    first_leads = first;
    at = idle;
  })

  -- nothing is left
  pub has_nothing_left : (ledger : LedgerView) → after ≡ record before { sight = after_look ledger before.sight; nothing_left = true } → before.sight.claim ≡ None → Steps before after leads Gone
  has_nothing_left ledger e idle = subst (λ (seat : SeatView). Steps before seat leads Gone) (sym e) (record {
    same = record { table = refl; number = refl; fixed = refl; seats = refl; made = refl; joined = refl };
    first_leads = first;
    at = record { idle = idle; done = or_left true before.halted refl };
  })

  -- the claim is settled
  pub settles : (way : Way) → IsSettledTurn before way after → Steps before after leads Idle
  settles way h = subst (λ (seat : SeatView). Steps before seat leads Idle) (sym h.changed) (record {
    same = record { table = refl; number = refl; fixed = refl; seats = refl; made = refl; joined = refl };
    first_leads = first;
    at = refl;
  })

  pub places : (work : TheWork) (place : ℕ) → IsPlacedTurn before work place after → Steps before after leads Idle
  places work place h = subst (λ (seat : SeatView). Steps before seat leads Idle) (sym h.changed) (record {
    same = record { table = refl; number = refl; fixed = refl; seats = refl; made = refl; joined = refl };
    first_leads = first;
    at = refl;
  })

  -- the worker halts
  pub is_full : (work : TheWork) → IsFullTurn before work after → Steps before after leads Gone
  is_full work h = subst (λ (seat : SeatView). Steps before seat leads Gone) (sym h.changed) (record {
    same = record { table = refl; number = refl; fixed = refl; seats = refl; made = refl; joined = refl };
    first_leads = first;
    at = record { idle = refl; done = or_right before.nothing_left true refl };
  })

  pub halts : (halt : Halt) → IsHaltedTurn before halt after → Steps before after leads Gone
  halts halt h = subst (λ (seat : SeatView). Steps before seat leads Gone) (sym h.changed) (record {
    same = record { table = refl; number = refl; fixed = refl; seats = refl; made = refl; joined = refl };
    first_leads = first;
    at = record { idle = refl; done = or_right before.nothing_left true refl };
  })

  -- there is no memory for the call, and the claim is still there
  pub runs_out : (ledger : LedgerView) (pair : Pair) → after ≡ record before { sight = after_look ledger before.sight } → before.sight.claim ≡ Some pair → Steps before after leads (Stopping kept.Memory)
  runs_out ledger pair e claimed = looks ledger (Stopping kept.Memory) e ((pair, claimed), tt)
