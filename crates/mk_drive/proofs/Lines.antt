-- The lines that workers take, each from what its worker knows.
use Rattle.std.proofs.Common.{◌≡◌, ◌≢◌, ◌⊎◌, inl, inr, ℕ, ◌+◌, ◌≤◌, ◌<◌, List, [], ◌∷◌, ◌++◌, length, length-append, take, Option, None, Some, IfSome, MatchOption, is_some, Bool, true, false, true≢false, ℤ, arith, ap, refl, sym, ◌∙◌, subst}
use Rattle.std.proofs.lemmas.Option.{none-some, same_Some}
use Rattle.std.proofs.lemmas.List.{append-nil, length-map, map_push}
use Rattle.mk_model.specs.Vectors.{zeros, negate}
use Rattle.mk_model.specs.CoreStates.{Pair, Settle, claim_of, halt_of, difference, IsPairOf}
use Rattle.mk_model.specs.CoreStates.Halt.{Memory as HaltMemory}
use Rattle.mk_model.specs.CoreStates.Way.{Chain, Zero, Place}
use Rattle.mk_model.specs.Events.{AreSettled, IsSettling, IsHalting, HaveCommonColumn}
use Rattle.mk_model.specs.Reductions.{Reduct, IsNormal}
use Rattle.mk_model.specs.Programs as program
use Rattle.mk_model.specs.Programs.{IsCandidate, IsNextCandidate, NoneIsLeft, IsReducedTo, IsWholeLine, ReducesTo}
use Rattle.mk_move.specs.Moves.{Weighed, IsMoveKept}
use Rattle.mk_move.specs.MoveLists.{BasisView, vectors_of}
use Rattle.mk_criteria.specs.ThirdMoves.{IsThirdMove, IsLeastThirdMove, NoneIsNext}
use Rattle.mk_reduce.specs.Works.{TheWork, rest_of, IsRest, IsReduced}
use Rattle.mk_reduce.proofs.LongerBases.{WorkOf-append}
use Rattle.mk_ledger.specs.Halts.{stop_of}
use Rattle.mk_ledger.specs.Ledgers.{LedgerView, IsLedger}
use Rattle.mk_ledger.specs.Settlings.{OfClaim, IsFirstUnsettled, IsZeroClaim, IsPlacedLast}
use Rattle.mk_drive.specs.declared.seat.TurnStage.{TurnStage}
use Rattle.mk_drive.specs.declared.seat.TurnStage.TheVariants.{Idle, Fresh, Tests, Ready, Reduced, Stale, Stopping, Gone}
use Rattle.mk_core.specs.declared.work.WorkFault.{WorkFault}
use Rattle.mk_core.specs.declared.work.WorkFault.TheVariants.{Memory, Overflow}
use Rattle.mk_core.specs.Remainders.{IsWorkFault}
use Rattle.mk_core.specs.Remainders.{IsRestOfClaim}
use Rattle.mk_drive.specs.Seats.{IsStoppingBy, stage_of, HasCopy, HasWork, HasReduced, IsAt, TurnsTo, TakesLine, ReducesWork, IsThirdTried, PlacesRest}
use Rattle.mk_core.proofs.GrownBases.{longer_here, longer_same, not_halted_yet, as_many, claim_of_basis, overflow_whole}
use Rattle.mk_drive.proofs.Seats.{settled_idle, seen_vectors, common_seen}

-- ---- what an option that is matched tells
pub match_none : {X : Type 0} (o : Option X) (N : Type 0) (P : X → Type 0) → MatchOption o N P → is_some o ≡ false → N
match_none None N P h e = h
match_none (Some x) N P h e = absurd (true≢false e)

pub match_not_none : {X : Type 0} (rest : Option Weighed) (value : X → Weighed) (o : Option X) → MatchOption o (rest ≡ None) (λ x. rest ≡ Some (value x)) → is_some o ≡ true → rest ≢ None
match_not_none rest value None h e = absurd (true≢false (sym e))
match_not_none rest value (Some x) h e = λ f. none-some (value x) (sym f ∙ h)

-- ---- candidates
pub candidate_of : (moves : List (List ℤ)) (pair : Pair) (from third : ℕ) → IsLeastThirdMove moves pair from third → IsNextCandidate moves pair from third
candidate_of moves pair from third h = record {
  candidate = record { from_on = h.from_on; within = m.within; not_first = m.not_first; not_second = m.not_second; divides = m.divides };
  least = λ other l c. h.least other c.from_on l (third_of_candidate other c);
}
  where
    m : IsThirdMove moves pair third
    m = h.third_move

    third_of_candidate : (other : ℕ) → IsCandidate moves pair from other → IsThirdMove moves pair other
    third_of_candidate other c = record { within = c.within; not_first = c.not_first; not_second = c.not_second; divides = c.divides }

-- none is next before the end of a copy
pub none_left : (moves : List Weighed) (pair : Pair) (from end tried : ℕ) → end ≡ length moves → NoneIsNext (vectors_of moves) pair from end tried → NoneIsLeft (vectors_of moves) pair from tried
none_left moves pair from end tried e (inl most) = inl most
none_left moves pair from end tried e (inr none) = inr (
    λ third c.
    none third c.from_on (omega (arith, c.within, e, length-map moves (λ (m : Weighed). m.entries)))
    (record { within = c.within; not_first = c.not_first; not_second = c.not_second; divides = c.divides })
    )

-- one of the two pairs isn't settled
pub not_both : (journal : List Settle) (pair : Pair) (third : ℕ) (unsettled : Pair) → IsFirstUnsettled journal pair third unsettled → ¬ (AreSettled journal pair.first third × AreSettled journal pair.second third)
not_both journal pair third unsettled (inl (e, f)) (a, b) = f a
not_both journal pair third unsettled (inr (e, a, f)) (_, b) = f b

-- ---- without memory
is_gone : program.Stage → Bool
is_gone program.Stage.Idle = false
is_gone program.Stage.Fresh = false
is_gone (program.Stage.Tests _ _ _) = false
is_gone (program.Stage.Ready _) = false
is_gone (program.Stage.Reduced _ _) = false
is_gone (program.Stage.Stale _) = false
is_gone (program.Stage.Stopping _) = false
is_gone program.Stage.Gone = true

goes_on : (n : ℕ) (stage : TurnStage) → stage ≢ Gone → is_gone (stage_of n stage) ≡ false
unfolding is_gone
goes_on n Idle d = refl
goes_on n Fresh d = refl
goes_on n (Tests _ _ _) d = refl
goes_on n (Ready _) d = refl
goes_on n (Reduced _) d = refl
goes_on n (Stale _) d = refl
goes_on n (Stopping _) d = refl
goes_on n Gone d = absurd (d refl)

not_gone : (n : ℕ) (stage : TurnStage) → stage ≢ Gone → stage_of n stage ≢ program.Stage.Gone
unfolding is_gone
not_gone n stage d e = true≢false (sym (ap is_gone e) ∙ goes_on n stage d)

-- a worker that is gone changes nothing
pub stays_gone : (ledger : LedgerView) (worker : ℕ) (stage : TurnStage) → stage ≡ Gone → TurnsTo ledger worker true stage ledger Gone
stays_gone ledger worker stage e = record {
  line = (inl (ap (stage_of (length ledger.basis.grading)) e, refl), refl);
  stands = tt;
  longer = longer_here ledger.basis;
}

-- any other halts
pub refused_once : (before after : LedgerView) (worker : ℕ) (stage : TurnStage) → stage ≢ Gone → IsHalting before.state worker HaltMemory after.state → after.basis ≡ before.basis → TurnsTo before worker true stage after Gone
refused_once before after worker stage d h e = record {
  line = (inr (not_gone (length before.basis.grading) stage d, h), refl);
  stands = tt;
  longer = longer_same before.basis after.basis e;
}

module _ (ledger : LedgerView) (kept : IsLedger ledger) (worker : ℕ) where
  abbrev n : ℕ
  n = length ledger.basis.grading

  -- a worker that isn't gone has no halt
  pub no_halt_at : (stage : TurnStage) → IsAt ledger worker stage → stage ≢ Gone → halt_of ledger.state worker ≡ None
  no_halt_at Idle (e, f) d = f
  no_halt_at Fresh (pair, e) d = not_halted_yet ledger kept worker pair e
  no_halt_at (Tests seen from tried) (pair, h) d = not_halted_yet ledger kept worker pair h.claimed
  no_halt_at (Ready seen) (pair, h, common) d = not_halted_yet ledger kept worker pair h.claimed
  no_halt_at (Reduced work) h d = not_halted_yet ledger kept worker work.pair h.of_copy.copy.claimed
  no_halt_at (Stale work) h d = not_halted_yet ledger kept worker work.pair h.copy.claimed
  no_halt_at (Stopping stop) (e, overflow) d = not_halted_yet ledger kept worker (stop_of stop).pair e
  no_halt_at Gone h d = absurd (d refl)

  -- ---- fresh
  pub copies : (pair : Pair) → claim_of ledger.state worker ≡ Some pair → (seen : BasisView) → seen ≡ ledger.basis → TakesLine ledger worker Fresh ledger (Tests seen 0 0)
  copies pair claimed seen e = record {
    line = (refl, ap (λ k. program.Stage.Tests k 0 0) (ap (λ b. length b.moves) e ∙ sym (as_many ledger kept)));
    stands = (
      pair,
      record {
        claimed = claimed;
        longer = longer_same seen ledger.basis (sym e);
        of_copy = subst (λ (b : BasisView). IsPairOf (vectors_of b.moves) pair) (sym e) (claim_of_basis ledger kept worker pair claimed);
      },
    );
    longer = longer_here ledger.basis;
  }

  -- ---- tests
  module _ (seen : BasisView) (from tried : ℕ) (pair : Pair) (copy : HasCopy ledger worker seen pair) (common : HaveCommonColumn ledger.state.basis pair) where
    pub is_ready : NoneIsLeft (vectors_of seen.moves) pair from tried → TakesLine ledger worker (Tests seen from tried) ledger (Ready seen)
    is_ready none = record {
      line = record {
        pair = pair;
        claimed = copy.claimed;
        test = inr (common, inr (subst (λ moves. NoneIsLeft moves pair from tried) (sym (seen_vectors ledger kept seen copy.longer)) none, refl, refl));
      };
      stands = (pair, copy, common);
      longer = longer_here ledger.basis;
    }

  module _ (seen : BasisView) (from tried third : ℕ) (h : IsThirdTried ledger worker seen from tried third) (after : LedgerView) where
    found : IsNextCandidate (take (length seen.moves) ledger.state.basis) h.pair from third
    found = subst (λ moves. IsNextCandidate moves h.pair from third) (sym (seen_vectors ledger kept seen h.copy.longer)) h.found

    pub settled_through : IsSettling n ledger.basis.priority ledger.state worker (Chain third) after.state → after.basis ≡ ledger.basis → TakesLine ledger worker (Tests seen from tried) after Idle
    settled_through settling e = record {
      line = record {
        pair = h.pair;
        claimed = h.copy.claimed;
        test = inr (h.common, inl (record { few = h.few; third = third; found = found; answer = inl (settling, refl) }));
      };
      stands = settled_idle ledger kept n ledger.basis.priority worker (Chain third) after settling;
      longer = longer_same ledger.basis after.basis e;
    }

    pub tried_once : (unsettled : Pair) → OfClaim ledger.state worker (λ pair. IsFirstUnsettled ledger.state.journal pair third unsettled) → after ≡ ledger →
        TakesLine ledger worker (Tests seen from tried) after (Tests seen (third + 1) (tried + 1))
    tried_once unsettled (pair, claimed, first) e = record {
      line = record {
        pair = h.pair;
        claimed = h.copy.claimed;
        test = inr (h.common, inl (record { few = h.few; third = third; found = found; answer = inr (open_pair, ap (λ (l : LedgerView). l.state) e, refl) }));
      };
      stands = subst (λ (l : LedgerView). IsAt l worker (Tests seen (third + 1) (tried + 1))) (sym e) (h.pair, h.copy);
      longer = longer_same ledger.basis after.basis (ap (λ (l : LedgerView). l.basis) e);
    }
      where
        open_pair : ¬ (AreSettled ledger.state.journal h.pair.first third × AreSettled ledger.state.journal h.pair.second third)
        open_pair =
            subst (λ (p : Pair). ¬ (AreSettled ledger.state.journal p.first third × AreSettled ledger.state.journal p.second third)) (same_Some pair h.pair (sym claimed ∙ h.copy.claimed))
            (not_both ledger.state.journal pair third unsettled first)

  -- ---- ready and stale
  module _ (seen : BasisView) (pair : Pair) (copy : HasCopy ledger worker seen pair) (common : HaveCommonColumn ledger.state.basis pair) (from : List ℤ) (work : TheWork) (of_pair : work.pair ≡ pair) where
    -- what is left is a reduct of the vector
    abbrev pub LeavesReduct : Type 0
    LeavesReduct = (after : TheWork) → ReducesWork seen work (Reduced after) → Reduct (vectors_of seen.moves) from (rest_of n after.remainder)

    reduced_or_zero : (rest : Option Weighed) → IsReduced (vectors_of seen.moves) rest → (rest_of n rest ≡ zeros n) ⊎ IsNormal (vectors_of seen.moves) (rest_of n rest)
    reduced_or_zero None h = inl refl
    reduced_or_zero (Some m) h = inr h

    pub reduces_to : LeavesReduct → (stage : TurnStage) → ReducesWork seen work stage → ReducesTo n (vectors_of seen.moves) (length seen.moves) pair from (stage_of n stage)
    reduces_to reduct (Reduced after) h = inl (
      rest_of n after.remainder,
      record { reduct = reduct after h; reduced = reduced_or_zero after.remainder h.3 },
      ap (λ k. program.Stage.Reduced k (rest_of n after.remainder)) h.1,
    )
    reduces_to reduct (Stopping stop) (e, genuine) = inr (
      stop_of stop,
      e ∙ of_pair,
      (genuine, subst (HaveCommonColumn (vectors_of seen.moves)) (sym (e ∙ of_pair)) (common_seen ledger kept seen copy.longer pair copy.of_copy common)),
      refl,
    )
    reduces_to reduct Idle h = elim h [ ]
    reduces_to reduct Fresh h = elim h [ ]
    reduces_to reduct (Tests _ _ _) h = elim h [ ]
    reduces_to reduct (Ready _) h = elim h [ ]
    reduces_to reduct (Stale _) h = elim h [ ]
    reduces_to reduct Gone h = elim h [ ]

    pub stands_after : (stage : TurnStage) → ReducesWork seen work stage → IsAt ledger worker stage
    stands_after (Reduced after) (e, f, g, r, d) = record {
      seen = seen;
      of_copy = record {
        copy = subst (HasCopy ledger worker seen) (sym (e ∙ of_pair)) copy;
        common = subst (HaveCommonColumn ledger.state.basis) (sym (e ∙ of_pair)) common;
        done = g;
      };
      front = f;
      reduced = r;
    }
    stands_after (Stopping stop) (e, genuine) = (
      copy.claimed ∙ ap Some (sym (e ∙ of_pair)),
      overflow_whole ledger kept seen copy.longer (stop_of stop) (subst (IsPairOf (vectors_of seen.moves)) (sym (e ∙ of_pair)) copy.of_copy)
          (genuine, subst (HaveCommonColumn (vectors_of seen.moves)) (sym (e ∙ of_pair)) (common_seen ledger kept seen copy.longer pair copy.of_copy common)),
    )
    stands_after Idle h = elim h [ ]
    stands_after Fresh h = elim h [ ]
    stands_after (Tests _ _ _) h = elim h [ ]
    stands_after (Ready _) h = elim h [ ]
    stands_after (Stale _) h = elim h [ ]
    stands_after Gone h = elim h [ ]

  pub reduces_copy : (seen : BasisView) (pair : Pair) → HasCopy ledger worker seen pair → HaveCommonColumn ledger.state.basis pair → (work : TheWork) → work.pair ≡ pair →
      (stage : TurnStage) → ReducesWork seen work stage → TakesLine ledger worker (Ready seen) ledger stage
  reduces_copy seen pair copy common work e stage h = record {
    line = record {
      pair = pair;
      claimed = copy.claimed;
      same = refl;
      reduces = subst (λ moves. ReducesTo n moves (length seen.moves) pair (difference moves pair) (stage_of n stage)) (sym (seen_vectors ledger kept seen copy.longer))
          (reduces_to seen pair copy common (difference (vectors_of seen.moves) pair) work e reduct stage h);
    };
    stands = stands_after seen pair copy common (difference (vectors_of seen.moves) pair) work e stage h;
    longer = longer_here ledger.basis;
  }
    where
      reduct : (after : TheWork) → ReducesWork seen work (Reduced after) → Reduct (vectors_of seen.moves) (difference (vectors_of seen.moves) pair) (rest_of n after.remainder)
      reduct after (f, k, g, r, d) =
          subst (λ (w : List ℤ). Reduct (vectors_of seen.moves) (difference (vectors_of seen.moves) pair) (rest_of (length w) after.remainder)) (sym copy.longer.grading)
          (subst (λ (p : Pair). Reduct (vectors_of seen.moves) (difference (vectors_of seen.moves) p) (rest_of (length seen.grading) after.remainder)) (f ∙ e) g.reduct)

  -- the difference leaves the range
  pub stops_copy : (seen : BasisView) (pair : Pair) → HasCopy ledger worker seen pair → HaveCommonColumn ledger.state.basis pair → (fault : WorkFault) → IsWorkFault (vectors_of seen.moves) pair fault →
      (stage : TurnStage) → IsStoppingBy fault stage → TakesLine ledger worker (Ready seen) ledger stage
  stops_copy seen pair copy common Memory h stage e = elim e [ ]
  stops_copy seen pair copy common (Overflow stop) h stage e =
      subst (TakesLine ledger worker (Ready seen) ledger) (sym e) (reduces_copy seen pair copy common (record { pair = pair; front = 0; remainder = None; trace = [] }) refl (Stopping stop) h)

  pub reduces_again : (work : TheWork) → HasWork ledger worker ledger.basis work → (stage : TurnStage) → ReducesWork ledger.basis work stage → TakesLine ledger worker (Stale work) ledger stage
  reduces_again work has stage h = record {
    line = record {
      pair = work.pair;
      claimed = has.copy.claimed;
      same = refl;
      reduces = subst (λ moves. ReducesTo n moves (length moves) work.pair (rest_of n work.remainder) (stage_of n stage)) (sym kept.moves)
          (subst (λ k. ReducesTo n (vectors_of ledger.basis.moves) k work.pair (rest_of n work.remainder) (stage_of n stage)) (sym (as_many ledger kept) ∙ ap length kept.moves)
          (reduces_to ledger.basis work.pair has.copy has.common (rest_of n work.remainder) work refl (λ after g. g.4) stage h));
    };
    stands = stands_after ledger.basis work.pair has.copy has.common (rest_of n work.remainder) work refl stage h;
    longer = longer_here ledger.basis;
  }

  -- ---- reduced
  -- work by the first moves is work by the whole basis
  pub whole_work : (work : TheWork) → HasReduced ledger worker work → HasWork ledger worker ledger.basis work
  whole_work work h = record {
    copy = record { claimed = h.of_copy.copy.claimed; longer = longer_here ledger.basis; of_copy = claim_of_basis ledger kept worker work.pair h.of_copy.copy.claimed };
    common = h.of_copy.common;
    done = WorkOf-append work h.seen ledger.basis h.of_copy.copy.longer.more h.of_copy.copy.longer.moves h.of_copy.copy.longer.grading h.of_copy.done;
  }

  pub left_not_zero : (work : TheWork) → HasReduced ledger worker work → work.remainder ≢ None → rest_of n work.remainder ≢ zeros n
  left_not_zero work h some = not_zero work.remainder some h.of_copy.done.rest h.of_copy.done.kept
    where
      not_zero : (rest : Option Weighed) → rest ≢ None → IfSome rest (IsRest h.seen.grading) → IfSome rest IsMoveKept → rest_of n rest ≢ zeros n
      not_zero None d r k = absurd (d refl)
      not_zero (Some m) d r k = λ e. k.not_zero (e ∙ ap zeros (ap length h.of_copy.copy.longer.grading ∙ sym r.columns))

  -- a copy of fewer moves reduced it
  pub is_stale : (work : TheWork) → HasReduced ledger worker work → work.remainder ≢ None → work.front < length ledger.basis.moves → TakesLine ledger worker (Reduced work) ledger (Stale work)
  is_stale work h some l = record {
    line = inr (left_not_zero work h some, inl (omega (arith, l, as_many ledger kept), refl, refl));
    stands = whole_work work h;
    longer = longer_here ledger.basis;
  }

  pub is_zero_claim : (work : TheWork) → HasReduced ledger worker work → work.remainder ≡ None → IsZeroClaim n ledger.state worker
  is_zero_claim work h e = record {
    pair = work.pair;
    claimed = h.of_copy.copy.claimed;
    reduct = subst (λ moves. Reduct moves (difference moves work.pair) (zeros n)) (sym kept.moves)
        (subst (λ (rest : Option Weighed). Reduct (vectors_of ledger.basis.moves) (difference (vectors_of ledger.basis.moves) work.pair) (rest_of n rest)) e (whole_work work h).done.reduct);
  }

  pub zero_line : (work : TheWork) → HasReduced ledger worker work → work.remainder ≡ None → (after : LedgerView) → IsSettling n ledger.basis.priority ledger.state worker Zero after.state → after.basis ≡ ledger.basis → TakesLine ledger worker (Reduced work) after Idle
  zero_line work h e after settling f = record {
    line = inl (ap (rest_of n) e, settling, refl);
    stands = settled_idle ledger kept n ledger.basis.priority worker Zero after settling;
    longer = longer_same ledger.basis after.basis f;
  }

  -- what is left is normal for the whole basis
  pub is_rest : (work : TheWork) (m : Weighed) → HasReduced ledger worker work → work.remainder ≡ Some m → length ledger.basis.moves ≤ work.front → IsRestOfClaim ledger worker m
  is_rest work m h e l = record {
    pair = work.pair;
    claimed = h.of_copy.copy.claimed;
    rest = record {
      reduct = subst (λ (rest : Option Weighed). Reduct (vectors_of ledger.basis.moves) (difference (vectors_of ledger.basis.moves) work.pair) (rest_of n rest)) e (whole_work work h).done.reduct;
      rest = subst (λ (rest : Option Weighed). IfSome rest (IsRest ledger.basis.grading)) e (whole_work work h).done.rest;
      normal = subst (λ (moves : List Weighed). IsNormal (vectors_of moves) m.entries) (sym same) (subst (λ (rest : Option Weighed). IsReduced (vectors_of h.seen.moves) rest) e h.reduced);
    };
  }
    where
      more : List Weighed
      more = h.of_copy.copy.longer.more

      none : (xs : List Weighed) → length xs ≡ 0 → xs ≡ []
      none [] e = refl
      none (x ∷ xs) e = absurd (omega arith)

      count : length more ≡ 0
      count = omega (arith, l, h.front, ap length h.of_copy.copy.longer.moves, length-append h.seen.moves h.of_copy.copy.longer.more)

      same : ledger.basis.moves ≡ h.seen.moves
      same = h.of_copy.copy.longer.moves ∙ ap (λ ms. h.seen.moves ++ ms) (none h.of_copy.copy.longer.more count) ∙ append-nil h.seen.moves

  -- ---- a move is placed
  module _ (after : LedgerView) (kept_after : IsLedger after) (m placed : Weighed) (front place : ℕ) (turned : (placed.entries ≡ m.entries) ⊎ (placed.entries ≡ negate m.entries)) where
    pub places_rest : IsPlacedLast ledger worker front placed place after → PlacesRest ledger worker m after Idle
    places_rest h = record {
      line = inl (
        record {
          settling = subst (λ k. IsSettling n ledger.basis.priority ledger.state worker (Place k) after.state) (h.at_end ∙ sym (as_many ledger kept)) h.settling;
          move = placed.entries;
          sign = turned;
          placed = kept_after.moves ∙ ap (λ (b : BasisView). vectors_of b.moves) h.pushed ∙ map_push (λ (w : Weighed). w.entries) ledger.basis.moves placed ∙ ap (λ moves. moves ++ placed.entries ∷ []) (sym kept.moves);
        },
        refl,
      );
      stands = settled_idle ledger kept n ledger.basis.priority worker (Place place) after h.settling;
      longer = record { priority = ap (λ (b : BasisView). b.priority) h.pushed; grading = ap (λ (b : BasisView). b.grading) h.pushed; more = placed ∷ []; moves = ap (λ (b : BasisView). b.moves) h.pushed };
    }

  pub placed_line : (work : TheWork) (m : Weighed) → HasReduced ledger worker work → work.remainder ≡ Some m → length ledger.basis.moves ≤ work.front →
      (after : LedgerView) (next : TurnStage) → PlacesRest ledger worker m after next → TakesLine ledger worker (Reduced work) after next
  placed_line work m h e l after next placed = record {
    line = inr (
      left_not_zero work h (λ f. none-some m (sym f ∙ e)),
      inr (
        omega (arith, l, h.front, as_many ledger kept, ap length h.of_copy.copy.longer.moves, length-append h.seen.moves h.of_copy.copy.longer.more),
        subst (λ left. IsWholeLine n ledger.basis.priority ledger.state worker left after.state (stage_of n next)) (ap (rest_of n) (sym e)) placed.line,
      ),
    );
    stands = placed.stands;
    longer = placed.longer;
  }
