-- What a seat knows by its copy is so in the ledger that it took.
use Rattle.std.proofs.Common.{◌≡◌, ℕ, ◌<◌, ◌≤◌, List, [], ◌∷◌, ◌++◌, length, take, Option, None, Some, IfSome, refl, sym, ap, ◌∙◌, subst, arith, append_assoc, length-append}
use Rattle.std.proofs.lemmas.Option.{same_Some}
use Rattle.std.proofs.lemmas.List.{append-nil, length-map, take_all}
use Rattle.mk_model.specs.Vectors.{zeros}
use Rattle.mk_model.specs.CoreStates.{Pair, Halt, claim_of, halt_of, move_at, difference, IsPairOf}
use Rattle.mk_model.specs.CoreStates.Halt.{Overflow, Full, Memory}
use Rattle.mk_model.specs.Events.{IsHaltCause}
use Rattle.mk_model.specs.Reductions.{Reduct, IsNormal}
use Rattle.mk_model.proofs.Journals.{move_at-append}
use Rattle.mk_move.specs.Moves.{Weighed}
use Rattle.mk_move.specs.MoveLists.{vectors_of}
use Rattle.mk_reduce.specs.Works.{TheWork, WorkOf, rest_of, IsRest}
use Rattle.mk_reduce.proofs.LongerBases.{WorkOf-append}
use Rattle.mk_ledger.specs.Ledgers.{LedgerView}
use Rattle.mk_ledger.specs.Settlings.{IsZeroClaim, IsCoprimeClaim, IsChainClaim, NotFull}
use Rattle.mk_core.specs.Remainders.{IsRestOfClaim}
use Rattle.mk_core.specs.GrownBases.{IsLonger}
use Rattle.mk_core.proofs.GrownBases.{state_moves, first_seen, second_seen, overflow_whole, claim_of_basis, not_halted_yet, as_many}
use Rattle.mk_shared.specs.declared.state.Outset.{Outset}
use Rattle.mk_shared.specs.LedgerTurns.{outset_of}
use Rattle.mk_shared.specs.SharedSeats.{Sight, SeatView, IsSeat, HasClaim, HasCoprimeClaim, HasThirdMove, HasWorkDone, IsStop, IsTurnOf, TakesLedger}

-- the turn that a seat has by its sight
pub turn_of : (seat : SeatView) (x : LedgerView) (after : Sight) → TakesLedger x seat.sight after → IsTurnOf seat x
turn_of seat x after h = record {
  legal = h.legal;
  knows = h.knows;
  known = h.known;
  answers = λ answer (k, ledger, e, worker, a). h.knows.notices k ledger e worker answer a;
}

module _ (seat : SeatView) (agrees : IsSeat seat) (x : LedgerView) (turn : IsTurnOf seat x) where
  set_out : outset_of x ≡ agrees.outset
  set_out = same_Some (outset_of x) agrees.outset (turn.knows.fixed ∙ agrees.set_out)

  pub copy_longer : IsLonger seat.copy x.basis
  copy_longer = record {
    priority = ap (λ (o : Outset). o.job.start.priority) set_out ∙ sym agrees.priority;
    grading = ap (λ (o : Outset). o.job.start.grading) set_out ∙ sym agrees.grading;
    more = agrees.first_moves.0 ++ turn.knows.saw.0;
    moves = turn.knows.saw.1 ∙ ap (λ ms. ms ++ turn.knows.saw.0) agrees.first_moves.1
        ∙ append_assoc seat.copy.moves agrees.first_moves.0 turn.knows.saw.0;
  }

  pub workers_here : x.state.workers ≡ seat.sight.seats
  workers_here = ap (λ (o : Outset). o.workers) set_out ∙ agrees.workers

  pub worker_within : seat.sight.number < x.state.workers
  worker_within = subst (λ k. seat.sight.number < k) (sym workers_here) agrees.within

  pub claimed_here : (pair : Pair) → seat.sight.claim ≡ Some pair → claim_of x.state seat.sight.number ≡ Some pair
  claimed_here pair e = turn.knows.claims ∙ e

  pub claim_in_basis : (pair : Pair) → seat.sight.claim ≡ Some pair → IsPairOf (vectors_of x.basis.moves) pair
  claim_in_basis pair e = claim_of_basis x turn.legal seat.sight.number pair (claimed_here pair e)

  -- the moves of the seat's claim are those of the ledger
  module _ (pair : Pair) (claim : HasClaim seat pair) where
    first_here : move_at x.state.basis pair.first ≡ move_at (vectors_of seat.copy.moves) pair.first
    first_here = first_seen x turn.legal seat.copy copy_longer pair claim.of_copy

    second_here : move_at x.state.basis pair.second ≡ move_at (vectors_of seat.copy.moves) pair.second
    second_here = second_seen x turn.legal seat.copy copy_longer pair claim.of_copy

  third_here : (third : ℕ) → third < length seat.copy.moves → move_at x.state.basis third ≡ move_at (vectors_of seat.copy.moves) third
  third_here third l =
      ap (λ moves. move_at moves third) (state_moves x turn.legal seat.copy copy_longer)
      ∙ move_at-append (vectors_of seat.copy.moves) (vectors_of copy_longer.more) third
      (subst (λ k. third < k) (sym (length-map seat.copy.moves (λ m. m.entries))) l)

  pub coprime_here : HasCoprimeClaim seat → IsCoprimeClaim x.state seat.sight.number
  coprime_here h = record {
    pair = h.pair;
    claimed = claimed_here h.pair h.claim.claimed;
    disjoint = rw (first_here h.pair h.claim, second_here h.pair h.claim) h.disjoint;
  }

  pub chain_here : (third : ℕ) → HasThirdMove seat third → IsChainClaim x.state seat.sight.number third
  chain_here third h = record {
    pair = h.pair;
    claimed = claimed_here h.pair h.claim.claimed;
    within = omega (arith, h.within, as_many x turn.legal, ap length copy_longer.moves, length-append seat.copy.moves copy_longer.more);
    not_first = h.not_first;
    not_second = h.not_second;
    divides = rw (first_here h.pair h.claim, second_here h.pair h.claim, third_here third h.within) h.divides;
  }

  pub cause_here : (halt : Halt) → IsStop seat halt → IsHaltCause x.state seat.sight.number halt
  cause_here (Overflow stop) h = (
    claimed_here stop.pair h.0.claimed,
    overflow_whole x turn.legal seat.copy copy_longer stop h.0.of_copy h.1,
  )
  cause_here (Full pair) h = elim h [ ]
  cause_here Memory h = tt

  pub not_full : (halt : Halt) → IsStop seat halt → NotFull halt
  not_full (Overflow stop) h = tt
  not_full (Full pair) h = elim h [ ]
  not_full Memory h = tt

  pub not_halted : (pair : Pair) → seat.sight.claim ≡ Some pair → halt_of x.state seat.sight.number ≡ None
  not_halted pair e = not_halted_yet x turn.legal seat.sight.number pair (claimed_here pair e)

  -- ---- work
  module _ (work : TheWork) (h : HasWorkDone seat work) where
    -- work by the copy is work by the whole basis
    whole_work : WorkOf work x.basis
    whole_work = WorkOf-append work seat.copy x.basis copy_longer.more copy_longer.moves copy_longer.grading h.done

    pub front_here : length x.basis.moves ≤ work.front → work.front ≡ length x.basis.moves
    front_here l = omega (arith, l, whole_work.front)

    pub zero_here : work.remainder ≡ None → IsZeroClaim (length x.basis.grading) x.state seat.sight.number
    zero_here e = record {
      pair = work.pair;
      claimed = claimed_here work.pair h.claimed;
      reduct = subst (λ moves. Reduct moves (difference moves work.pair) (zeros (length x.basis.grading))) (sym turn.legal.moves)
          (subst (λ (rest : Option Weighed). Reduct (vectors_of x.basis.moves) (difference (vectors_of x.basis.moves) work.pair)
          (rest_of (length x.basis.grading) rest)) e whole_work.reduct);
    }

    -- what is left is normal for the whole basis, where it was reduced by as many moves
    pub rest_here : (m : Weighed) → work.remainder ≡ Some m → length x.basis.moves ≤ work.front → IsRestOfClaim x seat.sight.number m
    rest_here m e l = record {
      pair = work.pair;
      claimed = claimed_here work.pair h.claimed;
      rest = record {
        reduct = subst (λ (rest : Option Weighed). Reduct (vectors_of x.basis.moves) (difference (vectors_of x.basis.moves) work.pair)
            (rest_of (length x.basis.grading) rest)) e whole_work.reduct;
        rest = subst (λ (rest : Option Weighed). IfSome rest (IsRest x.basis.grading)) e whole_work.rest;
        normal = subst (λ moves. IsNormal moves m.entries) whole (subst
            (λ (rest : Option Weighed). IfSome rest (λ r. IsNormal (take work.front (vectors_of seat.copy.moves)) r.entries)) e h.normal);
      };
    }
      where
        none : (ms : List Weighed) → length ms ≡ 0 → ms ≡ []
        none [] e = refl
        none (m ∷ ms) e = absurd (omega arith)

        count : length copy_longer.more ≡ 0
        count = omega (arith, l, h.done.front, ap length copy_longer.moves, length-append seat.copy.moves copy_longer.more)

        same : x.basis.moves ≡ seat.copy.moves
        same = copy_longer.moves ∙ ap (λ ms. seat.copy.moves ++ ms) (none copy_longer.more count) ∙ append-nil seat.copy.moves

        whole : take work.front (vectors_of seat.copy.moves) ≡ vectors_of x.basis.moves
        whole = take_all work.front (vectors_of seat.copy.moves) (omega
            (arith, l, ap length same, length-map seat.copy.moves (λ m. m.entries))) ∙ ap vectors_of (sym same)
