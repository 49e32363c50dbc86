-- A seat after each kind of turn, whole: its fields agree, and what contracts see of it is as they say.
use Rattle.std.proofs.Common.{inl, inr, ◌≡◌, ◌≢◌, ◌<◌, ℕ, true, None, Some, Option, MatchOption, Result, Ok, Err, length, arith, length-append, refl, sym, ap, ◌∙◌, subst}
use Rattle.std.proofs.lemmas.Option.{none-some, same_Some}
use Rattle.atomic_table.proofs.Lists.{at_last}
use Rattle.mk_model.specs.CoreStates.{Pair, pair_of, Way, Halt, claim_of}
use Rattle.mk_model.specs.Events.{IsSettling, IsHalting, IsClaim, with_claim}
use Rattle.mk_model.specs.CoreStates.Way.{Place}
use Rattle.mk_model.specs.CoreStates.Halt.{Full}
use Rattle.mk_move.specs.Moves.{Weighed}
use Rattle.mk_move.specs.MoveLists.{BasisView, vectors_of}
use Rattle.mk_reduce.specs.Works.{TheWork}
use Rattle.mk_model.proofs.LegalEvents.{within_list}
use Rattle.mk_ledger.specs.declared.claims.Claim.{Claim}
use Rattle.mk_ledger.specs.declared.claims.Claim.TheVariants.{Claimed, NotYet, Ended, OverBudget, Stopped}
use Rattle.mk_ledger.specs.Claims.{AnswersClaim}
use Rattle.mk_ledger.specs.Ledgers.{LedgerView, IsLedger}
use Rattle.mk_ledger.specs.Settlings.{OfClaim, IsFirstUnsettled}
use Rattle.mk_core.specs.GrownBases.{IsLonger}
use Rattle.mk_core.proofs.GrownBases.{longer_same}
use Rattle.mk_turn.specs.Seats.{turn_view}
use Rattle.mk_turn.specs.Turns.{Gave, took, raised}
use Rattle.mk_shared.specs.LedgerTurns.{ledger_meaning}
use Rattle.mk_shared.specs.LedgerSteps.{FollowsLegal, state_claimed, ClaimsInTurn, SettlesInTurn}
use Rattle.mk_shared.specs.Placing.{IsCopyPlaced, IsBasisFilled}
use Rattle.mk_shared.specs.SeatFields.{seat_of, AreSeatFields}
use Rattle.mk_shared.specs.SharedAnswers.{IsPlacedTurn, IsFullTurn, leaves_nothing, claimed_places, CopiesWhole, IsRefreshed, IsRefreshedInPart, IsClaimOf, IsLook, IsSettledTurn, IsUnsettledTurn}
use Rattle.mk_shared.specs.SharedSeats.{SeatView, Sight, AgreesWithCopy, IsTurnOf, WasAnswered, TakesLedger, after_look, after_claim, after_settle, after_place, after_halt}
use Rattle.mk_shared.specs.declared.seat.Seat.TheInside.{Inside}
use Rattle.mk_shared.proofs.Sights.{look_back, claim_back, settle_back, halt_back, place_back, look_agrees, claim_agrees, settle_agrees, halt_agrees, place_agrees, seat_now}
use Rattle.mk_shared.proofs.Copies.{turn_of, workers_here, copy_longer, claim_in_basis}

-- the code's fields beside a sight
pub record FieldsBeside (s : Inside) (z : Sight) : Type 0 where
  pub agrees : AgreesWithCopy z s.copy
  pub number : s.number ≡ z.number
  pub claim : MatchOption s.claim (z.claim ≡ None) (λ places. z.claim ≡ Some (pair_of places.0 places.1))
  pub made : s.made ≡ z.made
  pub workers : s.workers ≡ z.seats

pub fields_by : (s : Inside) (z : Sight) → turn_view s.turn ≡ z → FieldsBeside s z → AreSeatFields s
fields_by s z e h = record {
  seat = subst (λ (w : Sight). AgreesWithCopy w s.copy) (sym e) h.agrees;
  number = h.number ∙ ap (λ (w : Sight). w.number) (sym e);
  claim = subst (λ (w : Sight). MatchOption s.claim (w.claim ≡ None) (λ places. w.claim ≡ Some (pair_of places.0 places.1)))
      (sym e) h.claim;
  made = h.made ∙ ap (λ (w : Sight). w.made) (sym e);
  workers = h.workers ∙ ap (λ (w : Sight). w.seats) (sym e);
}

-- The seat of the fields s took the ledger x and gave y, and has the fields t.
pub record Turned (s t : Inside) (held : Sight) (x y : LedgerView) : Type 0 where
  pub fields : AreSeatFields s
  pub takes : TakesLedger x (turn_view s.turn) held
  pub gave : (z : LedgerView) → held.taken ≡ Some z → Gave ledger_meaning held z y (turn_view t.turn)
  pub table : (seat_of t).table ≡ (seat_of s).table
  pub number : t.number ≡ s.number
  pub made : t.made ≡ s.made
  pub workers : t.workers ≡ s.workers

-- the claim of the code is that of a sight
abbrev pub IsClaimOfSight : Option (ℕ × ℕ) → Sight → Type 0
IsClaimOfSight claim z = MatchOption claim (z.claim ≡ None) (λ places. z.claim ≡ Some (pair_of places.0 places.1))

-- the seat after, whose sight is z
pub record Stands (s t : Inside) (z : Sight) : Type 0 where
  pub fields : AreSeatFields t
  pub seat : seat_of t ≡ record (seat_of s) { sight = z; copy = t.copy; nothing_left = t.nothing_left; halted = t.halted }

-- the same seat, whose code's fields agreed before
pub record IsSameSeat (s t : Inside) : Type 0 where
  pub fields : AreSeatFields s
  pub table : (seat_of t).table ≡ (seat_of s).table
  pub number : t.number ≡ s.number
  pub made : t.made ≡ s.made
  pub workers : t.workers ≡ s.workers

-- the parts of z that no turn changes are those of the sight before
record IsAfter (s t : Inside) (z : Sight) : Type 0 where
  pub agrees : AgreesWithCopy z t.copy
  pub number : z.number ≡ (turn_view s.turn).number
  pub made : z.made ≡ (turn_view s.turn).made
  pub seats : z.seats ≡ (turn_view s.turn).seats

stands_by : (s t : Inside) → IsSameSeat s t → (z : Sight) → turn_view t.turn ≡ z → IsAfter s t z → IsClaimOfSight t.claim z → Stands s t z
stands_by s t h z e a claim = record {
  fields = fields_by t z e (record {
    agrees = a.agrees;
    number = h.number ∙ h.fields.number ∙ sym a.number;
    claim = claim;
    made = h.made ∙ h.fields.made ∙ sym a.made;
    workers = h.workers ∙ h.fields.workers ∙ sym a.seats;
  });
  seat = seat_now (record (seat_of s) { copy = t.copy; nothing_left = t.nothing_left; halted = t.halted }) (seat_of t).table
      (turn_view t.turn) z h.table e;
}

module _ (s t : Inside) (held : Sight) (x y : LedgerView) (h : Turned s t held x y) where
  abbrev pub v : Sight
  v = turn_view s.turn

  agrees : AgreesWithCopy v s.copy
  agrees = h.fields.seat

  pub the_turn : IsTurnOf (seat_of s) x
  the_turn = turn_of (seat_of s) x held h.takes

  gave_took : Gave ledger_meaning (took ledger_meaning x v) x y (turn_view t.turn)
  gave_took = subst (λ (u : Sight). Gave ledger_meaning u x y (turn_view t.turn)) h.takes.taken
      (h.gave x (ap (λ (u : Sight). u.taken) h.takes.taken))

  stands : (z : Sight) → turn_view t.turn ≡ z → IsAfter s t z → IsClaimOfSight t.claim z → Stands s t z
  stands z = stands_by s t (record { fields = h.fields; table = h.table; number = h.number; made = h.made; workers = h.workers }) z

  pub looked_sight : y ≡ x → turn_view t.turn ≡ after_look x v
  looked_sight e = look_back v agrees.no_turn agrees.not_raised x h.takes.knows (turn_view t.turn)
      (subst (λ (l : LedgerView). Gave ledger_meaning (took ledger_meaning x v) x l (turn_view t.turn)) e gave_took)

  pub looked : y ≡ x → t.claim ≡ s.claim → t.copy ≡ s.copy → Stands s t (after_look x v)
  looked e same copy = stands (after_look x v) (looked_sight e)
      (record {
        agrees = subst (AgreesWithCopy _) (sym copy) (look_agrees v s.copy agrees x h.takes.knows h.takes.known);
        number = refl;
        made = refl;
        seats = refl;
      })
      (subst (λ (o : Option (ℕ × ℕ)). IsClaimOfSight o v) (sym same) h.fields.claim)

  -- the claim is settled, and no move is placed
  pub settled : (pair : Pair) (way : Way) → v.claim ≡ Some pair →
      IsSettling (length x.basis.grading) x.basis.priority x.state v.number way y.state → y.basis ≡ x.basis → t.claim ≡ None →
      t.copy ≡ s.copy → Stands s t (after_settle x pair way v)
  settled pair way mine g same none copy = stands (after_settle x pair way v)
      (settle_back v agrees.no_turn agrees.not_raised x h.takes.knows (turn_view t.turn) h.takes.legal y pair way mine g same gave_took)
      (record {
        agrees = subst (AgreesWithCopy _) (sym copy) (settle_agrees v s.copy agrees x h.takes.knows h.takes.known pair way);
        number = refl;
        made = refl;
        seats = refl;
      })
      (subst (λ (o : Option (ℕ × ℕ)). IsClaimOfSight o (after_settle x pair way v)) (sym none) refl)

  pub halted : (halt : Halt) → IsHalting x.state v.number halt y.state → y.basis ≡ x.basis → t.claim ≡ None → t.copy ≡ s.copy →
      Stands s t (after_halt x v)
  halted halt g same none copy = stands (after_halt x v) (halt_back v agrees.no_turn agrees.not_raised x h.takes.knows
      (turn_view t.turn) h.takes.legal y halt g same gave_took)
      (record {
        agrees = subst (AgreesWithCopy _) (sym copy) (halt_agrees v s.copy agrees x h.takes.knows h.takes.known);
        number = refl;
        made = refl;
        seats = refl;
      })
      (subst (λ (o : Option (ℕ × ℕ)). IsClaimOfSight o (after_halt x v)) (sym none) refl)

  pub claimed : (i j : ℕ) → IsClaim x.state v.number (with_claim x.state v.number (pair_of i j)) →
      y ≡ record x { state = with_claim x.state v.number (pair_of i j) } → t.claim ≡ Some (i, j) → t.copy ≡ s.copy
      → Stands s t (after_claim x (pair_of i j) v)
  claimed i j g e some copy = stands (after_claim x (pair_of i j) v)
      (claim_back v agrees.no_turn agrees.not_raised x h.takes.knows (turn_view t.turn) h.takes.legal y (pair_of i j) g e gave_took)
      (record {
        agrees = subst (AgreesWithCopy _) (sym copy) (claim_agrees v s.copy agrees x h.takes.knows h.takes.known (pair_of i j));
        number = refl;
        made = refl;
        seats = refl;
      })
      (subst (λ (o : Option (ℕ × ℕ)). IsClaimOfSight o (after_claim x (pair_of i j) v)) (sym some) refl)

-- the way at a settle without a place
module _ (s t : Inside) (held : Sight) (x y : LedgerView) (h : Turned s t held x y) (copy : t.copy ≡ s.copy) (way : Way) where
  pub settles_whole : SettlesInTurn x s.number way y → (pair : Pair) → (seat_of s).sight.claim ≡ Some pair → t.claim ≡ None →
      Stands s t (after_settle x pair way (turn_view s.turn))
  settles_whole g pair mine none = settled s t held x y h pair way mine
      (subst (λ n. IsSettling (length x.basis.grading) x.basis.priority x.state n way y.state) h.fields.number g.settling) g.basis none copy

  pub settled_turn : (g : SettlesInTurn x s.number way y) (pair : Pair) → (seat_of s).sight.claim ≡ Some pair → t.claim ≡ None →
      t.nothing_left ≡ s.nothing_left → t.halted ≡ s.halted → y.state.basis ≡ x.state.basis
      → IsSettledTurn (seat_of s) way (seat_of t)
  settled_turn g pair mine none ended kept basis = record {
    ledger = x;
    turn = the_turn s t held x y h;
    pair = pair;
    claimed = mine;
    state = y.state;
    settling = subst (λ n. IsSettling (length x.basis.grading) x.basis.priority x.state n way y.state) h.fields.number g.settling;
    basis = basis;
    changed = (settles_whole g pair mine none).seat ∙ rw (copy, ended, kept) refl;
  }

-- a turn that left the ledger as it was
module _ (s t : Inside) (held : Sight) (x y : LedgerView) (h : Turned s t held x y) (e : y ≡ x) (copy : t.copy ≡ s.copy)
    (claim : t.claim ≡ s.claim) (ended : t.nothing_left ≡ s.nothing_left) (kept : t.halted ≡ s.halted) where
  pub is_look : IsLook (seat_of s) x (seat_of t)
  is_look = (the_turn s t held x y h, (looked s t held x y h e claim copy).seat ∙ rw (copy, ended, kept) refl)

  pub unsettled_turn : (third : ℕ) (unsettled : Pair) → OfClaim x.state s.number
      (λ pair. IsFirstUnsettled x.state.journal pair third unsettled) → IsUnsettledTurn (seat_of s) third unsettled (seat_of t)
  unsettled_turn third unsettled (pair, c, first) = record {
    ledger = x;
    pair = pair;
    claimed = sym h.takes.knows.claims ∙ ap (claim_of x.state) (sym h.fields.number) ∙ c;
    first = first;
    look = is_look;
  }

-- ---- claims
module _ (s t : Inside) (held : Sight) (x y : LedgerView) (h : Turned s t held x y) (copy : t.copy ≡ s.copy)
    (idle : (turn_view s.turn).claim ≡ None) (kept : t.halted ≡ s.halted) where
  -- the ledger's answer for the seat's number
  answer_of : (answer : Claim) → ClaimsInTurn x s.number answer y →
      AnswersClaim x.state (turn_view s.turn).number answer (state_claimed x.state (turn_view s.turn).number answer)
  answer_of answer g = subst (λ n. AnswersClaim x.state n answer (state_claimed x.state n answer)) h.fields.number g.answers

  -- the answer is the last that the seat had
  answered_last : (answer : Claim) → AnswersClaim x.state (turn_view s.turn).number answer x.state → (z : Sight) →
      z ≡ after_look x (turn_view s.turn) → WasAnswered z answer
  answered_last answer a z e = subst (λ (w : Sight). WasAnswered w answer) (sym e)
      (length (turn_view s.turn).notices, x, at_last (turn_view s.turn).notices x _ refl, (turn_view s.turn).number, a)

  another_here : (other : ℕ) (pair : Pair) → claim_of x.state other ≡ Some pair → (other < (turn_view s.turn).seats)
      × (other ≢ (turn_view s.turn).number)
  another_here other pair e = (
    subst (λ k. other < k) (h.takes.legal.legal.claims_by_workers ∙ workers_here (seat_of s) h.fields.seat x (the_turn s t held x y h))
        (within_list x.state.claims other pair e),
    λ f. none-some pair (sym (ap (claim_of x.state) f ∙ h.takes.knows.claims ∙ idle) ∙ e),
  )

  -- an answer that left the ledger as it was
  module _ (answer : Claim) (same : y ≡ x) (a : AnswersClaim x.state (turn_view s.turn).number answer x.state) (none : t.claim ≡ None) where
    look : Stands s t (after_look x (turn_view s.turn))
    look = stands s t held x y h (after_look x (turn_view s.turn)) (looked_sight s t held x y h same)
        (record {
          agrees = subst (AgreesWithCopy _) (sym copy) (look_agrees
              (turn_view s.turn) s.copy h.fields.seat x h.takes.knows h.takes.known);
          number = refl;
          made = refl;
          seats = refl;
        })
        (subst (λ (o : Option (ℕ × ℕ)). IsClaimOfSight o (turn_view s.turn)) (sym none) idle)

    kept_answer : WasAnswered (turn_view t.turn) answer
    kept_answer = answered_last answer a (turn_view t.turn) (looked_sight s t held x y h same)

  pub claims_whole : (answer : Claim) → ClaimsInTurn x s.number answer y → t.claim ≡ claimed_places answer →
      t.nothing_left ≡ leaves_nothing answer → AreSeatFields t × IsClaimOf (seat_of s) answer (seat_of t)
  claims_whole (Claimed i j) g some ended =
      let a = answer_of (Claimed i j) g in
      let number = ap (λ n. record x { state = with_claim x.state n (pair_of i j) }) h.fields.number in
      let st = claimed s t held x y h i j a.claim (g.changed ∙ number) some copy in (
        st.fields,
        record {
          ledger = x;
          turn = the_turn s t held x y h;
          answers = a;
          another = tt;
          changed = st.seat ∙ rw (copy, ended, kept) refl;
          keeps = ap (λ (b : SeatView). b.sight.claim) st.seat;
        },
      )
  claims_whole Ended g none ended = let a = answer_of Ended g in let st = look Ended g.changed a none in (
    st.fields,
    record {
      ledger = x;
      turn = the_turn s t held x y h;
      answers = a;
      another = tt;
      changed = st.seat
          ∙ rw (copy, ended, kept) refl;
      keeps = kept_answer Ended g.changed a none;
    },
  )
  claims_whole (OverBudget made) g none ended = let a = answer_of (OverBudget made) g in let st = look (OverBudget made) g.changed a none in (
    st.fields,
    record {
      ledger = x;
      turn = the_turn s t held x y h;
      answers = a;
      another = tt;
      changed = st.seat
          ∙ rw (copy, ended, kept) refl;
      keeps = kept_answer (OverBudget made) g.changed a none;
    },
  )
  claims_whole (Stopped other) g none ended = let a = answer_of (Stopped other) g in let st = look (Stopped other) g.changed a none in (
    st.fields,
    record {
      ledger = x;
      turn = the_turn s t held x y h;
      answers = a;
      another = tt;
      changed = st.seat
          ∙ rw (copy, ended, kept) refl;
      keeps = kept_answer (Stopped other) g.changed a none;
    },
  )
  claims_whole (NotYet other i j) g none ended = let a = answer_of (NotYet other i j) g in
      let st = look (NotYet other i j) g.changed a none in (
        st.fields,
        record {
          ledger = x;
          turn = the_turn s t held x y h;
          answers = a;
          another = another_here other (pair_of i j) a.1.held;
          changed = st.seat ∙ rw (copy, ended, kept) refl;
          keeps = kept_answer (NotYet other i j) g.changed a none;
        },
      )

-- ---- the copy
-- a copy that goes on, within the basis
pub copies_within : {E : Type 0} (first basis after : BasisView) (copied : Result Unit E) → IsLonger first basis →
    CopiesWhole first basis copied after → IsLonger first after × IsLonger after basis
copies_within first basis after (Ok done) h e = (subst (IsLonger first) (sym e) h, longer_same after basis (sym e))
copies_within first basis after (Err refused) h g = g

module _ (s t : Inside) (held : Sight) (x y : LedgerView) (h : Turned s t held x y) (e : y ≡ x) (claim : t.claim ≡ s.claim)
    (ended : t.nothing_left ≡ s.nothing_left) (kept : t.halted ≡ s.halted)
    (more : IsLonger s.copy t.copy) (part : IsLonger t.copy x.basis) where
  longer_agrees : AgreesWithCopy (after_look x (turn_view s.turn)) t.copy
  longer_agrees = let a = h.fields.seat in record {
    no_turn = a.no_turn;
    not_raised = a.not_raised;
    first_moves = (part.more, part.moves);
    known = omega (arith, ap length part.moves, length-append t.copy.moves part.more);
    outset = a.outset;
    set_out = a.set_out;
    workers = a.workers;
    priority = more.priority ∙ a.priority;
    grading = more.grading ∙ a.grading;
    within = a.within;
    made_within = a.made_within;
  }

  pub copied : Stands s t (after_look x (turn_view s.turn))
  copied = stands s t held x y h (after_look x (turn_view s.turn)) (looked_sight s t held x y h e)
      (record { agrees = longer_agrees; number = refl; made = refl; seats = refl })
      (subst (λ (o : Option (ℕ × ℕ)). IsClaimOfSight o (turn_view s.turn)) (sym claim) h.fields.claim)

  pub refreshed_in_part : IsRefreshedInPart (seat_of s) (seat_of t)
  refreshed_in_part = record {
    ledger = x;
    turn = the_turn s t held x y h;
    copy = t.copy;
    more = more;
    part = part;
    changed = copied.seat
        ∙ rw (ended, kept) refl;
  }

  pub refreshed : (count : ℕ) → count ≡ length x.basis.moves → t.copy ≡ x.basis → IsRefreshed (seat_of s) count (seat_of t)
  refreshed count whole same = record {
    ledger = x;
    turn = the_turn s t held x y h;
    whole = whole;
    longer = copy_longer (seat_of s) h.fields.seat x (the_turn s t held x y h);
    claim = claim_in_basis (seat_of s) h.fields.seat x (the_turn s t held x y h);
    changed = copied.seat ∙ rw (same, ended, kept) refl;
  }

-- ---- placing
-- what follows a legal ledger is legal
legal_after : (worker : ℕ) (x y : LedgerView) → FollowsLegal worker x y → IsLedger y
legal_after worker x y (legal, inl e) = subst IsLedger e legal
legal_after worker x y (legal, inr h) = h.stays_legal

-- The seat took x, raised the published length, and gave y.
pub record Raised (s t : Inside) (held up : Sight) (x y : LedgerView) : Type 0 where
  pub same : IsSameSeat s t
  pub takes : TakesLedger x (turn_view s.turn) held
  pub raises : up ≡ raised ledger_meaning held
  pub gave : (z : LedgerView) → up.taken ≡ Some z → Gave ledger_meaning up z y (turn_view t.turn)
  pub copy : t.copy ≡ s.copy

module _ (s t : Inside) (held up : Sight) (x y : LedgerView) (h : Raised s t held up x y) (work : TheWork)
    (mine : (turn_view s.turn).claim ≡ Some work.pair)
    (rest : Weighed) (left : work.remainder ≡ Some rest) (place : ℕ) (g : IsCopyPlaced x s.number rest place y)
    (none : t.claim ≡ None) where
  settling_here : IsSettling (length x.basis.grading) x.basis.priority x.state (turn_view s.turn).number
      (Place (length x.basis.moves)) y.state
  settling_here = subst (λ n. IsSettling (length x.basis.grading) x.basis.priority x.state n (Place (length x.basis.moves)) y.state)
      h.same.fields.number
      (subst (λ k. IsSettling (length x.basis.grading) x.basis.priority x.state s.number (Place k) y.state)
      g.placed.at_end g.placed.settling)

  gave_up : Gave ledger_meaning (raised ledger_meaning (took ledger_meaning x (turn_view s.turn))) x y (turn_view t.turn)
  gave_up = let e : up ≡ raised ledger_meaning (took ledger_meaning x (turn_view s.turn)) = h.raises
      ∙ ap (raised ledger_meaning) h.takes.taken in
      subst (λ (u : Sight). Gave ledger_meaning u x y (turn_view t.turn)) e (h.gave x (ap (λ (u : Sight). u.taken) e))

  pub placed : Stands s t (after_place x work.pair g.move (turn_view s.turn))
  placed = let a = h.same.fields.seat in stands_by s t h.same (after_place x work.pair g.move (turn_view s.turn))
      (place_back (turn_view s.turn) a.no_turn a.not_raised x h.takes.knows
      (turn_view t.turn) h.takes.legal y work.pair g.move mine settling_here g.placed.pushed gave_up)
      (record {
        agrees = subst (AgreesWithCopy _) (sym h.copy) (place_agrees
            (turn_view s.turn) s.copy a x h.takes.knows h.takes.known work.pair g.move);
        number = refl;
        made = refl;
        seats = refl;
      })
      (subst (λ (o : Option (ℕ × ℕ)). IsClaimOfSight o (after_place x work.pair g.move (turn_view s.turn))) (sym none) refl)

  pub placed_turn : work.front ≡ length x.basis.moves → t.nothing_left ≡ s.nothing_left → t.halted ≡ s.halted →
      IsPlacedTurn (seat_of s) work place (seat_of t)
  placed_turn whole ended kept = let legal = legal_after s.number x y g.follows in record {
    ledger = x;
    turn = turn_of (seat_of s) x held h.takes;
    rest = rest;
    left = left;
    whole = whole;
    at_end = g.placed.at_end;
    move = g.move;
    oriented = g.oriented;
    weight = g.weight;
    state = y.state;
    settling = subst (λ k. IsSettling (length x.basis.grading) x.basis.priority x.state (turn_view s.turn).number (Place k) y.state)
        (sym g.placed.at_end) settling_here;
    basis = legal.moves ∙ ap (λ (b : BasisView). vectors_of b.moves) g.placed.pushed;
    changed = placed.seat ∙ rw (h.copy, ended, kept) refl;
  }

-- ---- halts
module _ (s t : Inside) (held : Sight) (x y : LedgerView) (h : Turned s t held x y) (copy : t.copy ≡ s.copy) (work : TheWork)
    (mine : (turn_view s.turn).claim ≡ Some work.pair)
    (g : IsBasisFilled x s.number y) (none : t.claim ≡ None) where
  full_halting : IsHalting x.state (turn_view s.turn).number (Full work.pair) y.state
  full_halting =
      let here : claim_of x.state s.number ≡ Some work.pair = ap (claim_of x.state) h.fields.number ∙ h.takes.knows.claims ∙ mine in
      let same : g.halts.pair ≡ work.pair = same_Some g.halts.pair work.pair (sym g.halts.claimed ∙ here) in
      subst (λ n. IsHalting x.state n (Full work.pair) y.state) h.fields.number
      (subst (λ p. IsHalting x.state s.number (Full p) y.state) same g.halts.halting)

  pub filled : Stands s t (after_halt x (turn_view s.turn))
  filled = halted s t held x y h (Full work.pair) full_halting g.basis none copy

  pub full_turn : work.remainder ≢ None → work.front ≡ length x.basis.moves → t.nothing_left ≡ s.nothing_left → t.halted ≡ true →
      IsFullTurn (seat_of s) work (seat_of t)
  full_turn left whole ended done = record {
    ledger = x;
    turn = the_turn s t held x y h;
    left = left;
    whole = whole;
    full = g.full;
    halting = subst (IsHalting x.state (turn_view s.turn).number (Full work.pair)) full_halting.changed full_halting;
    changed = filled.seat ∙ rw (copy, ended, done) refl;
  }
