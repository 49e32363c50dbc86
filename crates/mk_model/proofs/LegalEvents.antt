-- Each event keeps a state legal.
use Rattle.std.proofs.Common.{◌≡◌, ◌⊎◌, inl, inr, ℕ, zero, suc, ◌+◌, ◌<◌, List, [], ◌∷◌, ◌++◌, length, get_or, set, replicate, Option, None}
use Rattle.std.proofs.Common.{Some, arith, ap, refl, sym, ◌∙◌, subst, ⊎_elim, length-append, length-set, ◌≤◌, ℤ}
use Rattle.std.proofs.lemmas.Bool.{cases_eq, cases_lt}
use Rattle.std.proofs.lemmas.Option.{none-some, same_Some}
use Rattle.std.proofs.lemmas.List.{get_or-set_same, get_or-set_other, get_or_past, set_past, take-append-le, take_all, length-replicate}
use Rattle.mk_model.specs.CoreStates.{Pair, Way, Settle, settle, Halt, CoreState, claim_of, halt_of, start_of, new_state, phase_state}
use Rattle.mk_model.specs.CoreStates.{IsPairOf, IsSettled, IsFree}
use Rattle.mk_model.specs.CoreStates.Halt.{Overflow, Full, Memory}
use Rattle.mk_model.specs.Events.{Event, IsClaim, IsSettling, IsHalting, given_up, first_of, with_entry, with_halt, IsHaltCause, Happens}
use Rattle.mk_model.specs.Events.{HappenInTurn}
use Rattle.mk_model.specs.Events.Event.{Claims, Settles, Halts}
use Rattle.mk_model.specs.Legal.{IsNext, Replays, claims_held, IsHaltKept, IsFirstHalted, IsLegal}
use Rattle.mk_model.proofs.Journals.{settled_cases, replay_push, IsPairOf-append, IsPairOverflow-append, Grows, moves_grow}

-- ---- a place of a list of options
module _ {X : Type 0} where
  pub within_list : (xs : List (Option X)) (i : ℕ) (x : X) → get_or xs i None ≡ Some x → i < length xs
  within_list xs i x e =
      ⊎_elim (λ l. l) (λ l. absurd (none-some x (sym (get_or_past xs i None l) ∙ e))) (cases_lt i (length xs))

  pub cleared_here : (xs : List (Option X)) (i : ℕ) → get_or (set xs i None) i None ≡ None
  cleared_here xs i =
      ⊎_elim (λ l. get_or-set_same xs i None None l) (λ l. ap (λ ys. get_or ys i None) (set_past xs i None l) ∙ get_or_past xs i None l)
      (cases_lt i (length xs))

  -- what is left once a place was cleared
  pub cleared : (xs : List (Option X)) (i j : ℕ) (x : X) → get_or (set xs i None) j None ≡ Some x → (j ≡ i → ⊥)
      × (get_or xs j None ≡ Some x)
  cleared xs i j x e = go (cases_eq j i)
    where
      go : (j ≡ i) ⊎ (j ≡ i → ⊥) → (j ≡ i → ⊥) × (get_or xs j None ≡ Some x)
      go (inl f) = absurd (none-some x (sym (cleared_here xs i) ∙ ap (λ k. get_or (set xs i None) k None) (sym f) ∙ e))
      go (inr f) = (f, sym (get_or-set_other xs i j None None f) ∙ e)

  pub cleared_none : (xs : List (Option X)) (i j : ℕ) → get_or xs j None ≡ None → get_or (set xs i None) j None ≡ None
  cleared_none xs i j e =
      ⊎_elim (λ f. ap (λ k. get_or (set xs i None) k None) f ∙ cleared_here xs i) (λ f. get_or-set_other xs i j None None f ∙ e)
      (cases_eq j i)

  -- what stands at a place once another was written
  pub written : (xs : List (Option X)) (i j : ℕ) (x y : X) → i < length xs → get_or (set xs i (Some x)) j None ≡ Some y →
      ((j ≡ i) × (x ≡ y)) ⊎ ((j ≡ i → ⊥) × (get_or xs j None ≡ Some y))
  written xs i j x y l e = go (cases_eq j i)
    where
      go : (j ≡ i) ⊎ (j ≡ i → ⊥) → ((j ≡ i) × (x ≡ y)) ⊎ ((j ≡ i → ⊥) × (get_or xs j None ≡ Some y))
      go (inl f) = inl (
        f,
        same_Some x y (sym (get_or-set_same xs i (Some x) None l) ∙ ap (λ k. get_or (set xs i (Some x)) k None) (sym f)
            ∙ e),
      )
      go (inr f) = inr (f, sym (get_or-set_other xs i j (Some x) None f) ∙ e)

-- ---- how many claims are held
held_cleared : (claims : List (Option Pair)) (i : ℕ) → claims_held claims ≡ claims_held (set claims i None) + given_up
    (get_or claims i None)
held_cleared [] i = refl
held_cleared (None ∷ claims) zero = omega arith
held_cleared (Some pair ∷ claims) zero = omega arith
held_cleared (None ∷ claims) (suc i) = held_cleared claims i
held_cleared (Some pair ∷ claims) (suc i) = omega (arith, held_cleared claims i)

held_written : (claims : List (Option Pair)) (i : ℕ) (pair : Pair) → i < length claims → get_or claims i None ≡ None →
    claims_held (set claims i (Some pair)) ≡ suc (claims_held claims)
held_written [] i pair l e = absurd (omega arith)
held_written (None ∷ claims) zero pair l e = refl
held_written (Some other ∷ claims) zero pair l e = absurd (none-some other (sym e))
held_written (None ∷ claims) (suc i) pair l e = held_written claims i pair (omega arith) e
held_written (Some other ∷ claims) (suc i) pair l e = ap suc (held_written claims i pair (omega arith) e)

module _ {n : ℕ} {priority : List ℕ} {state : CoreState} (legal : IsLegal n priority state) where
  none_halted : state.first_halted ≡ None → (worker : ℕ) → halt_of state worker ≡ None
  none_halted e worker = go legal.first_halted
    where
      go : IsFirstHalted state → halt_of state worker ≡ None
      go (inl (_, f)) = f worker
      go (inr (other, halt, f, _)) = absurd (none-some other (sym e ∙ f))

  claim_keeps : (worker : ℕ) (after : CoreState) → IsClaim state worker after → IsLegal n priority after
  claim_keeps worker after h = subst (IsLegal n priority) (sym h.changed) (record {
    start_within = legal.start_within;
    replays = legal.replays;
    basis_within = legal.basis_within;
    claims_by_workers = length-set state.claims worker (Some h.pair) ∙ legal.claims_by_workers;
    claims_unsettled = λ a q e. unsettled a q (written state.claims worker a h.pair q within e);
    claims_differ = λ a b q e f. differ a b q (written state.claims worker a h.pair q within e)
        (written state.claims worker b h.pair q within f);
    claims_counted = omega (arith, legal.claims_counted, held_written state.claims worker h.pair within h.no_claim);
    claims_within = omega (arith, h.within_budget);
    halts_by_workers = legal.halts_by_workers;
    halted_without_claim = λ a halt e. absurd (none-some halt (sym (none_halted h.no_halt a) ∙ e));
    halts_kept = λ a halt e. absurd (none-some halt (sym (none_halted h.no_halt a) ∙ e));
    first_halted = legal.first_halted;
  })
    where
      within : worker < length state.claims
      within = omega (arith, legal.claims_by_workers, h.worker_within)

      unsettled : (a : ℕ) (q : Pair) → ((a ≡ worker) × (h.pair ≡ q)) ⊎ ((a ≡ worker → ⊥) × (claim_of state a ≡ Some q)) →
          IsPairOf state.basis q × (¬ (IsSettled state.journal q))
      unsettled a q (inl (_, e)) = subst (λ q. IsPairOf state.basis q × (¬ (IsSettled state.journal q))) e
          (h.free.of_basis, h.free.unsettled)
      unsettled a q (inr (_, e)) = legal.claims_unsettled a q e

      differ : (a b : ℕ) (q : Pair) → ((a ≡ worker) × (h.pair ≡ q)) ⊎ ((a ≡ worker → ⊥) × (claim_of state a ≡ Some q)) →
          ((b ≡ worker) × (h.pair ≡ q)) ⊎ ((b ≡ worker → ⊥) × (claim_of state b ≡ Some q)) → a ≡ b
      differ a b q (inl (e, _)) (inl (f, _)) = e ∙ sym f
      differ a b q (inl (_, e)) (inr (_, f)) = absurd (h.free.unclaimed (b, f ∙ ap Some (sym e)))
      differ a b q (inr (_, e)) (inl (_, f)) = absurd (h.free.unclaimed (a, e ∙ ap Some (sym f)))
      differ a b q (inr (_, e)) (inr (_, f)) = legal.claims_differ a b q e f

  settling_keeps : (worker : ℕ) (way : Way) (after : CoreState) → IsSettling n priority state worker way after → IsLegal n priority after
  settling_keeps worker way after h = subst (IsLegal n priority) (sym h.changed) (record {
    start_within = omega (arith, legal.start_within, ap length grows.longer, length-append state.basis grows.more);
    replays = subst (λ start. Replays n priority state.limit [] start (state.journal ++ entry ∷ []) h.moves) (sym same_start)
        (replay_push n priority state.limit [] (start_of state) state.journal state.basis entry h.moves legal.replays next);
    basis_within = grows.within legal.basis_within;
    claims_by_workers = length-set state.claims worker None ∙ legal.claims_by_workers;
    claims_unsettled = λ a q e. let (f, g) = cleared state.claims worker a q e in (
      longer_pair q ((legal.claims_unsettled a q g).0),
      unsettled q ((legal.claims_unsettled a q g).1)
          (λ s. f (legal.claims_differ a worker q g (h.claimed ∙ ap Some s))),
    );
    claims_differ = λ a b q e f. legal.claims_differ a b q ((cleared state.claims worker a q e).1) ((cleared state.claims worker b q f).1);
    claims_counted = omega (
      arith,
      legal.claims_counted,
      held_cleared state.claims worker,
      ap given_up h.claimed,
      length-append state.journal (entry ∷ []),
    );
    claims_within = legal.claims_within;
    halts_by_workers = legal.halts_by_workers;
    halted_without_claim = λ a halt e. cleared_none state.claims worker a (legal.halted_without_claim a halt e);
    halts_kept = λ a halt e. kept halt (legal.halts_kept a halt e);
    first_halted = legal.first_halted;
  })
    where
      grows : Grows state.limit state.basis h.moves
      grows = moves_grow n priority state.limit state.basis state.journal h.pair way h.moves h.settled

      entry : Settle
      entry = settle worker h.pair way

      new : CoreState
      new = with_entry state worker h.pair way h.moves

      next : IsNext n priority state.limit state.journal state.basis entry h.moves
      next = record {
        of_moves = (legal.claims_unsettled worker h.pair h.claimed).0;
        unsettled = (legal.claims_unsettled worker h.pair h.claimed).1;
        settled = h.settled;
      }

      same_start : start_of new ≡ start_of state
      same_start = rw grows.longer (take-append-le state.start_length state.basis grows.more legal.start_within)

      longer_pair : (q : Pair) → IsPairOf state.basis q → IsPairOf h.moves q
      longer_pair q p = rw grows.longer (IsPairOf-append state.basis grows.more q p)

      unsettled : (q : Pair) → ¬ (IsSettled state.journal q) → ¬ (h.pair ≡ q) → ¬ (IsSettled (state.journal ++ entry ∷ []) q)
      unsettled q f g s = ⊎_elim f g (settled_cases state.journal entry q s)

      free : (q : Pair) → IsFree state q → IsFree new q
      free q f = record {
        of_basis = longer_pair q f.of_basis;
        unsettled = unsettled q f.unsettled (λ s. f.unclaimed (worker, h.claimed ∙ ap Some s));
        unclaimed = λ (a, e). f.unclaimed (a, (cleared state.claims worker a q e).1);
      }

      kept : (halt : Halt) → IsHaltKept state halt → IsHaltKept new halt
      kept (Overflow stop) (f, o) = (free stop.pair f, rw grows.longer (IsPairOverflow-append state.basis grows.more stop f.of_basis o))
      kept (Full q) (f, (e, r)) = (free q f, rw (grows.stays e) (e, r))
      kept Memory t = t

  halting_keeps : (worker : ℕ) (halt : Halt) (after : CoreState) → IsHalting state worker halt after → IsLegal n priority after
  halting_keeps worker halt after h = subst (IsLegal n priority) (sym h.changed) (record {
    start_within = legal.start_within;
    replays = legal.replays;
    basis_within = legal.basis_within;
    claims_by_workers = length-set state.claims worker None ∙ legal.claims_by_workers;
    claims_unsettled = λ a q e. legal.claims_unsettled a q ((cleared state.claims worker a q e).1);
    claims_differ = λ a b q e f. legal.claims_differ a b q ((cleared state.claims worker a q e).1) ((cleared state.claims worker b q f).1);
    claims_counted = omega (arith, legal.claims_counted, held_cleared state.claims worker);
    claims_within = legal.claims_within;
    halts_by_workers = length-set state.halts worker (Some halt) ∙ legal.halts_by_workers;
    halted_without_claim = λ a other e. without a other (written state.halts worker a halt other within e);
    halts_kept = λ a other e. kept a other (written state.halts worker a halt other within e);
    first_halted = first legal.first_halted;
  })
    where
      within : worker < length state.halts
      within = omega (arith, legal.halts_by_workers, h.worker_within)

      new : CoreState
      new = with_halt state worker halt

      without : (a : ℕ) (other : Halt) → ((a ≡ worker) × (halt ≡ other)) ⊎ ((a ≡ worker → ⊥) × (halt_of state a ≡ Some other)) →
          claim_of new a ≡ None
      without a other (inl (e, _)) = ap (λ k. get_or (set state.claims worker None) k None) e ∙ cleared_here state.claims worker
      without a other (inr (_, e)) = cleared_none state.claims worker a (legal.halted_without_claim a other e)

      -- a pair that the worker gives up is free
      freed : (q : Pair) → claim_of state worker ≡ Some q → IsFree new q
      freed q e = record {
        of_basis = (legal.claims_unsettled worker q e).0;
        unsettled = (legal.claims_unsettled worker q e).1;
        unclaimed = λ (a, f). let (g, k) = cleared state.claims worker a q f in g (legal.claims_differ a worker q k e);
      }

      free : (q : Pair) → IsFree state q → IsFree new q
      free q f = record {
        of_basis = f.of_basis;
        unsettled = f.unsettled;
        unclaimed = λ (a, e). f.unclaimed (a, (cleared state.claims worker a q e).1);
      }

      from_cause : (other : Halt) → IsHaltCause state worker other → IsHaltKept new other
      from_cause (Overflow stop) (e, o) = (freed stop.pair e, o)
      from_cause (Full q) (e, f) = (freed q e, f)
      from_cause Memory t = t

      still : (other : Halt) → IsHaltKept state other → IsHaltKept new other
      still (Overflow stop) (f, o) = (free stop.pair f, o)
      still (Full q) (f, o) = (free q f, o)
      still Memory t = t

      kept : (a : ℕ) (other : Halt) → ((a ≡ worker) × (halt ≡ other)) ⊎ ((a ≡ worker → ⊥) × (halt_of state a ≡ Some other)) →
          IsHaltKept new other
      kept a other (inl (_, e)) = subst (IsHaltKept new) e (from_cause halt h.cause)
      kept a other (inr (_, e)) = still other (legal.halts_kept a other e)

      first : IsFirstHalted state → IsFirstHalted new
      first (inl (e, _)) = inr (worker, halt, ap (λ o. first_of o worker) e, get_or-set_same state.halts worker (Some halt) None within)
      first (inr (a, other, e, f)) = inr (
        a,
        other,
        ap (λ o. first_of o worker) e,
        get_or-set_other state.halts worker a (Some halt) None apart ∙ f,
      )
        where
          apart : a ≡ worker → ⊥
          apart g = none-some other (sym h.no_halt ∙ ap (λ k. halt_of state k) (sym g) ∙ f)

pub events_keep : (n : ℕ) (priority : List ℕ) (state : CoreState) (event : Event) (after : CoreState) → IsLegal n priority state →
    Happens n priority state event after → IsLegal n priority after
events_keep n priority state (Claims worker) after legal h = claim_keeps legal worker after h
events_keep n priority state (Settles worker way) after legal h = settling_keeps legal worker way after h
events_keep n priority state (Halts worker halt) after legal h = halting_keeps legal worker halt after h

pub all_events_keep : (n : ℕ) (priority : List ℕ) (state : CoreState) (events : List Event) (after : CoreState) → IsLegal n priority state →
    HappenInTurn n priority state events after → IsLegal n priority after
all_events_keep n priority state [] after legal e = subst (IsLegal n priority) (sym e) legal
all_events_keep n priority state (event ∷ events) after legal (middle, h, rest) =
    all_events_keep n priority middle events after (events_keep n priority state event middle legal h) rest

-- ---- where events begin
pub none_of : {X : Type 0} (k i : ℕ) → ◌≡◌ {A = Option X} (get_or (replicate k None) i None) None
none_of zero i = refl
none_of (suc k) zero = refl
none_of (suc k) (suc i) = none_of k i

no_claims_held : (k : ℕ) → claims_held (replicate k None) ≡ 0
no_claims_held zero = refl
no_claims_held (suc k) = no_claims_held k

pub new_is_legal : (n : ℕ) (priority : List ℕ) (start : List (List ℤ)) (budget limit workers : ℕ) → length start ≤ limit →
    IsLegal n priority (new_state start budget limit workers)
new_is_legal n priority start budget limit workers l = record {
  start_within = omega arith;
  replays = sym (take_all (length start) start (omega arith));
  basis_within = l;
  claims_by_workers = length-replicate workers None;
  claims_unsettled = λ a q e. absurd (none-some q (sym (none_of workers a) ∙ e));
  claims_differ = λ a b q e f. absurd (none-some q (sym (none_of workers a) ∙ e));
  claims_counted = omega (arith, no_claims_held workers);
  claims_within = omega arith;
  halts_by_workers = length-replicate workers None;
  halted_without_claim = λ a halt e. none_of workers a;
  halts_kept = λ a halt e. absurd (none-some halt (sym (none_of workers a) ∙ e));
  first_halted = inl (refl, λ a. none_of workers a);
}

-- a legal state without its workers
pub phase_is_legal : (n : ℕ) (priority : List ℕ) (state : CoreState) (budget : ℕ) → length state.journal ≤ budget →
    IsLegal n priority state →
    IsLegal n priority (phase_state state.start_length state.basis state.journal budget state.limit)
phase_is_legal n priority state budget l legal = record {
  start_within = legal.start_within;
  replays = legal.replays;
  basis_within = legal.basis_within;
  claims_by_workers = refl;
  claims_unsettled = λ a q e. absurd (none-some q e);
  claims_differ = λ a b q e f. absurd (none-some q e);
  claims_counted = omega arith;
  claims_within = l;
  halts_by_workers = refl;
  halted_without_claim = λ a halt e. refl;
  halts_kept = λ a halt e. absurd (none-some halt e);
  first_halted = inl (refl, λ a. refl);
}
