-- What the answers of a shared completion leave a worker at.
use Rattle.std.proofs.Common.{◌≡◌, ℕ, ◌+◌, ◌<◌, ◌≤◌, Bool, true, false, true≢false, IsTrue, List, [], ◌∷◌, ◌++◌, length, length-append, take, slice_get, Option, None, Some, IfSome, ℤ, arith, ap, refl, sym, ◌∙◌, subst}
use Rattle.std.proofs.lemmas.Option.{same_Some}
use Rattle.std.proofs.lemmas.List.{length-map, length-take-le, take_all, take-append-le, get_or-set_same}
use Rattle.mk_model.specs.CoreStates.{Pair, pair_of, CoreState, claim_of, move_at, IsPairOf}
use Rattle.mk_model.specs.Events.{HaveCommonColumn}
use Rattle.mk_model.specs.Orders.{lead}
use Rattle.mk_model.specs.Pairs.{AreDisjoint}
use Rattle.mk_model.specs.Overflows.{IsGenuineOverflow}
use Rattle.mk_model.specs.Reductions.{IsNormal}
use Rattle.mk_model.proofs.Journals.{first_at-append, second_at-append}
use Rattle.mk_move.specs.Chains.{DividesBetween}
use Rattle.mk_move.specs.Moves.{Weighed}
use Rattle.mk_move.specs.MoveLists.{BasisView, vector_of, vectors_of}
use Rattle.mk_reduce.specs.Leads.{leads_of}
use Rattle.mk_reduce.specs.Works.{TheWork, WorkOf, IsReduced}
use Rattle.mk_reduce.specs.Stops.{overflow_of, IsDifferenceRefused, IsStepRefused}
use Rattle.mk_reduce.specs.declared.stop.Stop.{Stop}
use Rattle.mk_reduce.specs.declared.stop.Stop.TheVariants as Why
use Rattle.mk_criteria.specs.ThirdMoves.{IsLeastThirdMove}
use Rattle.mk_reduce.proofs.LongerBases.{WorkOf-append}
use Rattle.mk_ledger.specs.Claims.{IsGiven}
use Rattle.mk_ledger.specs.Halts.{halt_as}
use Rattle.mk_ledger.specs.Ledgers.{LedgerView, IsLedger}
use Rattle.mk_ledger.specs.declared.claims.Claim.TheVariants.{Claimed}
use Rattle.mk_ledger.specs.declared.halt.Halt.{Halt}
use Rattle.mk_ledger.specs.declared.halt.Halt.TheVariants as kept
use Rattle.mk_core.specs.GrownBases.{IsLonger}
use Rattle.mk_core.proofs.Leads.{leads_more}
use Rattle.mk_core.proofs.GrownBases.{longer_vectors}
use Rattle.mk_shared.specs.SharedSeats.{SeatView, HasClaim, HasCoprimeClaim, HasThirdMove, IsStop}
use Rattle.mk_shared.specs.SharedAnswers.{IsClaimOf, IsMissed, IsRefreshed, IsRefreshedInPart}
use Rattle.mk_workers.specs.declared.stage.SeatStage.{SeatStage}
use Rattle.mk_workers.specs.declared.stage.SeatStage.TheVariants.{Fresh, Tests, Ready, Reduced, Stale, Stopping}
use Rattle.mk_workers.specs.Stages.{IsSameSeat, IsSeatAt, HasSeatWork, AreFirstLeads, Steps, halt_for}
use Rattle.mk_workers.proofs.Stays.{stays, misses}

-- ---- one step after another
pub same_then : (before middle after : SeatView) → IsSameSeat before middle → IsSameSeat middle after → IsSameSeat before after
same_then before middle after g h = record {
  table = h.table ∙ g.table;
  number = h.number ∙ g.number;
  fixed = h.fixed ∙ g.fixed;
  seats = h.seats ∙ g.seats;
  made = h.made ∙ g.made;
  joined = h.joined ∙ g.joined;
}

pub steps_then : (before middle after : SeatView) (leads : List (List ℤ)) (stage : SeatStage) → IsSameSeat before middle → Steps middle after leads stage → Steps before after leads stage
steps_then before middle after leads stage g h = record { same = same_then before middle after g h.same; first_leads = h.first_leads; at = h.at }

-- ---- longer copies
pub first_longer : (leads : List (List ℤ)) (basis longer : BasisView) → AreFirstLeads leads basis → IsLonger basis longer → AreFirstLeads leads longer
first_longer leads basis longer h l = record {
  within = omega (arith, h.within, ap length l.moves, length-append basis.moves l.more);
  first = h.first ∙ ap leads_of (sym (ap (take (length leads)) l.moves ∙ take-append-le (length leads) basis.moves l.more h.within));
}

common_longer : (basis longer : BasisView) (pair : Pair) → IsLonger basis longer → IsPairOf (vectors_of basis.moves) pair → HaveCommonColumn (vectors_of basis.moves) pair → HaveCommonColumn (vectors_of longer.moves) pair
common_longer basis longer pair l h common = λ d. common (
    subst (λ v. AreDisjoint (lead v) (lead (move_at (vectors_of basis.moves) pair.second))) (at_first)
    (subst (λ v. AreDisjoint (lead (move_at (vectors_of longer.moves) pair.first)) (lead v)) (at_second) d)
    )
  where
    at_first : move_at (vectors_of longer.moves) pair.first ≡ move_at (vectors_of basis.moves) pair.first
    at_first = ap (λ moves. move_at moves pair.first) (longer_vectors basis longer l) ∙ first_at-append (vectors_of basis.moves) (vectors_of l.more) pair h

    at_second : move_at (vectors_of longer.moves) pair.second ≡ move_at (vectors_of basis.moves) pair.second
    at_second = ap (λ moves. move_at moves pair.second) (longer_vectors basis longer l) ∙ second_at-append (vectors_of basis.moves) (vectors_of l.more) pair h

-- ---- claims
-- the pair that is given is one of the basis
given_ordered : (ledger : LedgerView) (worker : ℕ) (pair : Pair) (after : CoreState) → IsLedger ledger → IsGiven ledger.state worker pair after → pair.first < pair.second
given_ordered ledger worker pair after kept h = subst (λ (p : Pair). p.first < p.second) same h.claim.free.of_basis.ordered
  where
    within : worker < length ledger.state.claims
    within = subst (λ k. worker < k) (sym kept.legal.claims_by_workers) h.claim.worker_within

    same : h.claim.pair ≡ pair
    same = same_Some h.claim.pair pair (
        sym (get_or-set_same ledger.state.claims worker (Some h.claim.pair) None within)
        ∙ ap (λ state. claim_of state worker) (sym h.claim.changed ∙ h.changed)
        ∙ get_or-set_same ledger.state.claims worker (Some pair) None within
        )

module _ (before after : SeatView) (leads : List (List ℤ)) (first : AreFirstLeads leads before.copy) where
  pub claims : (i j : ℕ) → IsClaimOf before (Claimed i j) after → Steps before after leads Fresh
  claims i j h = subst (λ seat. Steps before seat leads Fresh) (sym h.changed) (record {
    same = record { table = refl; number = refl; fixed = refl; seats = refl; made = refl; joined = refl };
    first_leads = first;
    at = (pair_of i j, refl, given_ordered h.ledger before.sight.number (pair_of i j) _ h.turn.legal h.answers);
  })

  -- ---- copies
  module _ (count : ℕ) (h : IsRefreshed before count after) where
    pub copied_same : IsSameSeat before after
    copied_same = subst (IsSameSeat before) (sym h.changed) (record { table = refl; number = refl; fixed = refl; seats = refl; made = refl; joined = refl })

    pub copied_leads : AreFirstLeads leads after.copy
    copied_leads = subst (λ (seat : SeatView). AreFirstLeads leads seat.copy) (sym h.changed) (first_longer leads before.copy h.ledger.basis first h.longer)

    pub copies : (pair : Pair) → before.sight.claim ≡ Some pair → Steps before after leads Tests
    copies pair claimed = record {
      same = copied_same;
      first_leads = copied_leads;
      at = (
        pair,
        subst (λ seat. HasClaim seat pair) (sym h.changed) (record { claimed = claimed; of_copy = h.claim pair claimed }),
      );
    }

    pub has_work : (work : TheWork) → HasSeatWork before work → HasSeatWork after work
    has_work work w = subst (λ seat. HasSeatWork seat work) (sym h.changed) (record {
      claimed = w.claimed;
      common = common_longer before.copy h.ledger.basis work.pair h.longer w.done.pair w.common;
      done = WorkOf-append work before.copy h.ledger.basis h.longer.more h.longer.moves h.longer.grading w.done;
    })

  pub copies_in_part : (pair : Pair) → before.sight.claim ≡ Some pair → IsRefreshedInPart before after → Steps before after leads (Stopping kept.Memory)
  copies_in_part pair claimed h = subst (λ seat. Steps before seat leads (Stopping kept.Memory)) (sym h.changed) (record {
    same = record { table = refl; number = refl; fixed = refl; seats = refl; made = refl; joined = refl };
    first_leads = first_longer leads before.copy h.copy first h.more;
    at = ((pair, claimed), tt);
  })

-- ---- copies, after other steps
module _ (before middle after : SeatView) (leads : List (List ℤ)) where
  pub copies_then : (count : ℕ) → Steps before middle leads Fresh → IsRefreshed middle count after → Steps before after leads Tests
  copies_then count s h = let (pair, claimed, ordered) = s.at in steps_then before middle after leads Tests s.same (copies middle after leads s.first_leads count h pair claimed)

  pub copies_then_in_part : Steps before middle leads Fresh → IsRefreshedInPart middle after → Steps before after leads (Stopping kept.Memory)
  copies_then_in_part s h = let (pair, claimed, ordered) = s.at in steps_then before middle after leads (Stopping kept.Memory) s.same (copies_in_part middle after leads s.first_leads pair claimed h)

  pub then_misses : (word : ℕ) (stage : SeatStage) → Steps before middle leads stage → IsMissed middle word after → Steps before after leads stage
  then_misses word stage s h = steps_then before middle after leads stage s.same (misses middle after leads s.first_leads word stage h s.at)

-- the copy has both moves of the claim
pub has_copy : (seat : SeatView) (i j : ℕ) → IsSeatAt seat Fresh → seat.sight.claim ≡ Some (pair_of i j) → j < length seat.copy.moves → IsSeatAt seat Tests
has_copy seat i j (pair, claimed, ordered) e within = (
  pair_of i j,
  record {
    claimed = e;
    of_copy = record {
      ordered = subst (λ (p : Pair). p.first < p.second) (same_Some pair (pair_of i j) (sym claimed ∙ e)) ordered;
      within = omega (arith, within, length-map seat.copy.moves (λ (m : Weighed). m.entries));
    };
  },
)

-- ---- tests
-- the claim whose places the code knows, and a copy of the copy
module _ (seat : SeatView) (pair : Pair) (i j : ℕ) (copy : BasisView) (h : HasClaim seat pair) (e : seat.sight.claim ≡ Some (pair_of i j)) (f : copy ≡ seat.copy) where
  pub claim_known : HasClaim seat (pair_of i j)
  claim_known = subst (HasClaim seat) (same_Some pair (pair_of i j) (sym h.claimed ∙ e)) h

  pub common_known : HaveCommonColumn (vectors_of seat.copy.moves) pair → HaveCommonColumn (vectors_of seat.copy.moves) (pair_of i j)
  common_known common = subst (HaveCommonColumn (vectors_of seat.copy.moves)) (same_Some pair (pair_of i j) (sym h.claimed ∙ e)) common

  pub places_ordered : i < j
  places_ordered = claim_known.of_copy.ordered

  pub second_within : j < length copy.moves
  second_within = omega (arith, claim_known.of_copy.within, length-map seat.copy.moves (λ (m : Weighed). m.entries), ap (λ (b : BasisView). length b.moves) f)

  pub first_within : i < length copy.moves
  first_within = omega (arith, places_ordered, second_within)

  -- the test of the leads says yes, or no
  pub is_coprime : (test : Bool) → test ≡ true → (IsTrue test → AreDisjoint (lead (move_at (vectors_of copy.moves) i)) (lead (move_at (vectors_of copy.moves) j))) → HasCoprimeClaim seat
  is_coprime test passes h = record {
    pair = pair_of i j;
    claim = claim_known;
    disjoint = subst (λ (b : BasisView). AreDisjoint (lead (move_at (vectors_of b.moves) i)) (lead (move_at (vectors_of b.moves) j))) f (h passes);
  }

  pub is_ready : (test : Bool) → test ≡ false → (AreDisjoint (lead (move_at (vectors_of copy.moves) i)) (lead (move_at (vectors_of copy.moves) j)) → IsTrue test) → IsSeatAt seat Ready
  is_ready test fails h = (
    pair_of i j,
    claim_known,
    λ d. true≢false (sym (h (subst (λ (b : BasisView). AreDisjoint (lead (move_at (vectors_of b.moves) i)) (lead (move_at (vectors_of b.moves) j))) (sym f) d)) ∙ fails),
  )

  pub has_third : (from third : ℕ) → IsLeastThirdMove (vectors_of copy.moves) (pair_of i j) from third → HasThirdMove seat third
  has_third from third h = record {
    pair = pair_of i j;
    claim = claim_known;
    within = omega (arith, h.third_move.within, length-map copy.moves (λ (m : Weighed). m.entries), ap (λ (b : BasisView). length b.moves) f);
    not_first = h.third_move.not_first;
    not_second = h.third_move.not_second;
    divides = subst (λ (b : BasisView). DividesBetween (vectors_of b.moves) i j third) f h.third_move.divides;
  }

-- ---- reductions
-- the halt for what stops the work on the claim
pub difference_stop : (seat : SeatView) (pair : Pair) → HasClaim seat pair → HaveCommonColumn (vectors_of seat.copy.moves) pair → (stop : Stop) → IsDifferenceRefused seat.copy.moves pair stop →
    IsStop seat (halt_as (halt_for pair None stop))
difference_stop seat pair claim common Why.Memory h = tt
difference_stop seat pair claim common (Why.Overflow by at) (e, genuine) = (claim, (genuine, common))

pub step_stop : (seat : SeatView) (pair : Pair) → HasClaim seat pair → HaveCommonColumn (vectors_of seat.copy.moves) pair → (left : Option Weighed) (stop : Stop) → IsStepRefused seat.copy.moves pair left stop →
    IsStop seat (halt_as (halt_for pair left stop))
step_stop seat pair claim common left Why.Memory h = tt
step_stop seat pair claim common left (Why.Overflow by at) (m, e, place, f, genuine) =
    (claim, (subst (λ operand. IsGenuineOverflow (vectors_of seat.copy.moves) (overflow_of pair operand by at)) (sym (ap vector_of e)) genuine, common))

-- the worker is to halt, and has its claim
pub is_stopping : (seat : SeatView) (leads : List (List ℤ)) (pair : Pair) (halt : Halt) → AreFirstLeads leads seat.copy → seat.sight.claim ≡ Some pair → IsStop seat (halt_as halt) → Steps seat seat leads (Stopping halt)
is_stopping seat leads pair halt first claimed cause = stays seat leads (Stopping halt) first ((pair, claimed), cause)

-- the difference of the claim is made, or refused
module _ (seat : SeatView) (leads : List (List ℤ)) (copy : BasisView) (pair : Pair) (i j : ℕ) (claim : HasClaim seat pair) (common : HaveCommonColumn (vectors_of seat.copy.moves) pair)
    (e : seat.sight.claim ≡ Some (pair_of i j)) (f : copy ≡ seat.copy) where
  here : HasClaim seat (pair_of i j)
  here = claim_known seat pair i j copy claim e f

  common_here : HaveCommonColumn (vectors_of seat.copy.moves) (pair_of i j)
  common_here = common_known seat pair i j copy claim e f common

  pub begins : (work : TheWork) → WorkOf work copy → work.pair ≡ pair_of i j → HasSeatWork seat work
  begins work done same = record {
    claimed = e ∙ ap Some (sym same);
    common = subst (HaveCommonColumn (vectors_of seat.copy.moves)) (sym same) common_here;
    done = subst (WorkOf work) f done;
  }

  pub is_refused : (stop : Stop) (halt : Halt) → AreFirstLeads leads seat.copy → IsDifferenceRefused copy.moves (pair_of i j) stop → halt ≡ halt_for (pair_of i j) None stop → Steps seat seat leads (Stopping halt)
  is_refused stop halt first refused is = is_stopping seat leads (pair_of i j) halt first e (subst (λ (halt : Halt). IsStop seat (halt_as halt)) (sym is)
      (difference_stop seat (pair_of i j) here common_here stop (subst (λ (b : BasisView). IsDifferenceRefused b.moves (pair_of i j) stop) f refused)))

-- the work is done by the whole copy, or refused
module _ (seat : SeatView) (leads : List (List ℤ)) (copy : BasisView) (work after : TheWork) (h : HasSeatWork seat work) (first : AreFirstLeads leads copy) (f : copy ≡ seat.copy) (e : after.pair ≡ work.pair)
    (done : WorkOf after copy) where
  claimed_after : seat.sight.claim ≡ Some after.pair
  claimed_after = h.claimed ∙ ap Some (sym e)

  common_after : HaveCommonColumn (vectors_of seat.copy.moves) after.pair
  common_after = subst (HaveCommonColumn (vectors_of seat.copy.moves)) (sym e) h.common

  done_after : WorkOf after seat.copy
  done_after = subst (WorkOf after) f done

  first_after : AreFirstLeads leads seat.copy
  first_after = subst (AreFirstLeads leads) f first

  pub is_reduced : after.front ≡ length copy.moves → IsReduced (vectors_of copy.moves) after.remainder → Steps seat seat leads (Reduced after)
  is_reduced front reduced = stays seat leads (Reduced after) first_after (
    record { claimed = claimed_after; common = common_after; done = done_after },
    record { claimed = claimed_after; done = done_after; normal = normal after.remainder (subst (λ (b : BasisView). IsReduced (vectors_of b.moves) after.remainder) f reduced) },
  )
    where
      whole : take after.front (vectors_of seat.copy.moves) ≡ vectors_of seat.copy.moves
      whole = take_all after.front (vectors_of seat.copy.moves) (omega (arith, front, ap (λ (b : BasisView). length b.moves) f, length-map seat.copy.moves (λ (m : Weighed). m.entries)))

      normal : (left : Option Weighed) → IsReduced (vectors_of seat.copy.moves) left → IfSome left (λ m. IsNormal (take after.front (vectors_of seat.copy.moves)) m.entries)
      normal None r = tt
      normal (Some m) r = subst (λ moves. IsNormal moves m.entries) (sym whole) r

  pub is_stopped : (i j : ℕ) (left : Option Weighed) (stop : Stop) (halt : Halt) → i ≡ after.pair.first → j ≡ after.pair.second → left ≡ after.remainder → IsStepRefused copy.moves work.pair after.remainder stop →
      halt ≡ halt_for (pair_of i j) left stop → Steps seat seat leads (Stopping halt)
  is_stopped i j left stop halt at_i at_j at_left refused is = is_stopping seat leads after.pair halt first_after claimed_after (subst (λ (halt : Halt). IsStop seat (halt_as halt)) (sym halt_after)
      (step_stop seat after.pair (record { claimed = claimed_after; of_copy = done_after.pair }) common_after after.remainder stop refused_after))
    where
      halt_after : halt ≡ halt_for after.pair after.remainder stop
      halt_after = is ∙ ap (λ i. halt_for (pair_of i j) left stop) at_i ∙ ap (λ j. halt_for (pair_of after.pair.first j) left stop) at_j ∙ ap (λ left. halt_for after.pair left stop) at_left

      refused_after : IsStepRefused seat.copy.moves after.pair after.remainder stop
      refused_after = subst (λ (p : Pair). IsStepRefused seat.copy.moves p after.remainder stop) (sym e) (subst (λ (b : BasisView). IsStepRefused b.moves work.pair after.remainder stop) f refused)

pub is_stale : (before after : SeatView) (leads : List (List ℤ)) (work : TheWork) → Steps before after leads (Reduced work) → Steps before after leads (Stale work)
is_stale before after leads work s = record { same = s.same; first_leads = s.first_leads; at = s.at.0 }

-- ---- finders
pub no_leads : (leads : List (List ℤ)) (basis : BasisView) → leads ≡ [] → AreFirstLeads leads basis
no_leads leads basis e = subst (λ (l : List (List ℤ)). AreFirstLeads l basis) (sym e) (record { within = omega arith; first = refl })

-- one lead more
pub leads_then : (moves : List Weighed) (place : ℕ) (m : Weighed) (leads after : List (List ℤ)) → slice_get moves place ≡ Some m → leads ≡ leads_of (take place moves) → after ≡ leads ++ lead m.entries ∷ [] → after ≡ leads_of (take (place + 1) moves)
leads_then moves place m leads after e f g = g ∙ ap (λ l. l ++ lead m.entries ∷ []) f ∙ sym (leads_more moves place m e)

pub leads_count : (moves : List Weighed) (place : ℕ) (leads : List (List ℤ)) → place ≤ length moves → leads ≡ leads_of (take place moves) → length leads ≡ place
leads_count moves place leads l e = ap length e ∙ length-map (take place moves) (λ (m : Weighed). lead m.entries) ∙ length-take-le place moves l

pub are_first : (basis : BasisView) (place : ℕ) (leads : List (List ℤ)) → place ≤ length basis.moves → leads ≡ leads_of (take place basis.moves) → AreFirstLeads leads basis
are_first basis place leads l e = record {
  within = omega (arith, l, leads_count basis.moves place leads l e);
  first = e ∙ ap (λ k. leads_of (take k basis.moves)) (sym (leads_count basis.moves place leads l e));
}

-- so many first leads are there, or all
pub first_count : (leads : List (List ℤ)) (basis : BasisView) (count : ℕ) → count ≡ length leads → AreFirstLeads leads basis → (count ≤ length basis.moves) × (leads ≡ leads_of (take count basis.moves))
first_count leads basis count e h = (omega (arith, e, h.within), h.first ∙ ap (λ k. leads_of (take k basis.moves)) (sym e))

pub all_leads : (basis : BasisView) (place : ℕ) (leads : List (List ℤ)) → leads ≡ leads_of (take place basis.moves) → length basis.moves ≤ place → leads ≡ leads_of basis.moves
all_leads basis place leads e l = e ∙ ap leads_of (take_all place basis.moves l)
