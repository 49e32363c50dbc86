-- The phase of a ledger, where every pair is settled, and where the ledger stops.
use Rattle.std.proofs.Common.{◌≡◌, ◌≢◌, ◌↔◌, inl, inr, ℕ, ◌≤◌, [], ◌++◌, length, Option, None, Some, IfSome, Result, Ok, Err, arith, ap, refl, sym, ◌∙◌, subst, append_assoc}
use Rattle.std.proofs.lemmas.Option.{none-some, same_Some}
use Rattle.std.proofs.lemmas.List.{append-nil, length-map}
use Rattle.std.proofs.lemmas.List.Elements.{All-nil, All-append}
use Rattle.mk_model.specs.CoreStates.{Pair, pair_of, Halt, CoreState, phase_state, start_of, halt_of, IsPairOf, IsSettled, IsFree}
use Rattle.mk_model.specs.Events.{HasNormalReduct, IsPairOverflow}
use Rattle.mk_model.specs.Legal.{IsLegal, IsEnded, IsHaltKept}
use Rattle.mk_model.proofs.LegalEvents.{phase_is_legal}
use Rattle.mk_move.specs.MoveLists.{BasisView, IsBasis, vectors_of}
use Rattle.mk_journal.specs.Entries.{settle_of, settles_of}
use Rattle.mk_ledger.specs.Halts.{stop_of, halt_as}
use Rattle.mk_ledger.specs.FirstHalts.{IsFirstHalt}
use Rattle.mk_ledger.specs.Ledgers.{LedgerView}
use Rattle.mk_ledger.specs.declared.halt.OverflowStop.{OverflowStop}
use Rattle.mk_ledger.specs.declared.halt.Halt.{Halt as KeptHalt}
use Rattle.mk_ledger.specs.declared.halt.Halt.TheVariants as kept
use Rattle.mk_core.specs.declared.phase.Phase.{Phase}
use Rattle.mk_core.specs.declared.phase.Stopped.{Stopped}
use Rattle.mk_core.specs.declared.phase.Stopped.TheVariants.{Memory, Overflow, OverBudget, BasisFull}
use Rattle.mk_core.specs.declared.completion.Ending.TheVariants as ending
use Rattle.mk_core.specs.GoingOn.{ContinuesLedger, EndsBy, IsPhaseOfLedger}
use Rattle.mk_core.specs.Phases.{state_of, phase_in, IsByFirst, IsPhaseFrom, IsLeft, IsHaltedOrWithin, PhaseIsOverBudget, AnswersOverBudget, Finishes, HandsOn, IsCompleted}
use Rattle.mk_core.proofs.Limits.{legal_raised}

module _ (ledger : LedgerView) (phase : Phase) (same : IsPhaseOfLedger ledger phase) where
  vectors : vectors_of phase.basis.moves ≡ ledger.state.basis
  vectors = ap (λ b. vectors_of b.moves) same.basis ∙ sym same.kept.moves

  -- the phase as a state is the ledger's without its workers
  without_workers : (budget limit : ℕ) → state_of phase budget limit ≡ phase_state ledger.state.start_length ledger.state.basis ledger.state.journal budget limit
  without_workers budget limit =
      ap (λ k. phase_state k (vectors_of phase.basis.moves) (settles_of phase.journal) budget limit) same.start_length
      ∙ ap (λ moves. phase_state ledger.state.start_length moves (settles_of phase.journal) budget limit) vectors
      ∙ ap (λ journal. phase_state ledger.state.start_length ledger.state.basis journal budget limit) same.journal

  settled_within : length ledger.state.journal ≤ ledger.state.budget
  settled_within = omega (arith, same.kept.legal.claims_counted, same.kept.legal.claims_within)

  legal_within : (budget : ℕ) → length ledger.state.journal ≤ budget →
      IsLegal (length ledger.basis.grading) ledger.basis.priority (phase_state ledger.state.start_length ledger.state.basis ledger.state.journal budget ledger.state.limit)
  legal_within budget l = phase_is_legal (length ledger.basis.grading) ledger.basis.priority ledger.state budget l same.kept.legal

  pub phase_from : IsPhaseFrom ledger phase
  phase_from = record {
    basis = subst IsBasis (sym same.basis) same.kept.basis;
    priority = ap (λ b. b.priority) same.basis;
    grading = ap (λ b. b.grading) same.basis;
    start_length = same.start_length;
    start = ap start_of (without_workers ledger.state.budget ledger.state.limit);
    more = [];
    journal = same.journal ∙ sym (append-nil ledger.state.journal);
    by_first = All-nil IsByFirst;
    thirds = same.thirds;
    basis_stays = λ e. same.basis;
    journal_stays = λ e. same.journal;
    legal =
        subst (IsLegal (length ledger.basis.grading) ledger.basis.priority) (sym (without_workers ledger.state.budget ledger.state.limit)) (legal_within ledger.state.budget settled_within);
  }

  -- ---- every pair is settled
  phase_ended : (budget limit : ℕ) → IsEnded ledger.state → IsEnded (state_of phase budget limit)
  phase_ended budget limit ended = record {
    all_settled = λ pair h. subst (λ journal. IsSettled journal pair) (sym same.journal) (ended.all_settled pair (subst (λ moves. IsPairOf moves pair) vectors h));
    none_claimed = λ worker. refl;
  }

  pub finishes_ended : IsEnded ledger.state → Finishes ledger (Ok phase)
  finishes_ended ended = (phase_from, phase_ended ledger.state.budget ledger.state.limit ended)

  as_many : length ledger.state.journal ≡ length phase.journal
  as_many = sym (ap length same.journal) ∙ length-map phase.journal settle_of

  completed_legal : IsLegal (length ledger.basis.grading) ledger.basis.priority (state_of phase (length phase.journal) 65536)
  completed_legal =
      let start = ledger.state.start_length in
      let journal = ledger.state.journal in
      let budget = length phase.journal in
      subst (IsLegal (length ledger.basis.grading) ledger.basis.priority) (sym (without_workers budget 65536))
      (legal_raised (length ledger.basis.grading) ledger.basis.priority start ledger.state.basis journal budget ledger.state.limit 65536 same.kept.limit (legal_within budget (omega (arith, as_many))))

  pub completed : IsEnded ledger.state → IsCompleted phase
  completed ended = record {
    basis = subst IsBasis (sym same.basis) same.kept.basis;
    thirds = same.thirds;
    legal = subst (λ (b : BasisView). IsLegal (length b.grading) b.priority (state_of phase (length phase.journal) 65536)) (sym same.basis) completed_legal;
    ended = phase_ended (length phase.journal) 65536 ended;
  }

  -- ---- a pair is left
  left : (pair : Pair) → IsFree ledger.state pair → IsLeft phase pair
  left pair free = record {
    of_basis = subst (λ moves. IsPairOf moves pair) (sym vectors) free.of_basis;
    unsettled = λ s. free.unsettled (subst (λ journal. IsSettled journal pair) same.journal s);
  }

  pub finishes_over_budget : EndsBy ledger.state ending.OverBudget → Finishes ledger (Err (OverBudget phase))
  finishes_over_budget (no_halt, used_up, (pair, free)) =
      (phase_from, record { used_up = sym as_many ∙ used_up; no_halt = no_halt; pair = pair; left = left pair free })

  -- ---- a halt stands
  kept_halt : (halt : KeptHalt) → IsFirstHalt ledger.state (Some halt) → IsHaltKept ledger.state (halt_as halt)
  kept_halt halt (worker, e, f) = same.kept.legal.halts_kept worker (halt_as halt) f

  halt_stands : (halt : KeptHalt) → IsFirstHalt ledger.state (Some halt) → IsHaltedOrWithin ledger (length phase.journal)
  halt_stands halt (worker, e, f) = inl (λ g. none-some worker (sym g ∙ e))

  pub finishes_overflow : (stop : OverflowStop) → IsFirstHalt ledger.state (Some (kept.Overflow stop)) → Finishes ledger (Err (Overflow phase stop))
  finishes_overflow stop h =
      let (free, overflow) = kept_halt (kept.Overflow stop) h in
      (phase_from, left (stop_of stop).pair free, subst (λ moves. IsPairOverflow moves (stop_of stop)) (sym vectors) overflow, halt_stands (kept.Overflow stop) h)

  pub finishes_full : (i j : ℕ) → IsFirstHalt ledger.state (Some (kept.Full i j)) → Finishes ledger (Err (BasisFull phase i j))
  finishes_full i j h =
      let (free, (full, normal)) = kept_halt (kept.Full i j) h in (
        phase_from,
        record {
          full = sym (length-map phase.basis.moves (λ m. m.entries)) ∙ ap length vectors ∙ full;
          normal_reduct = subst (λ moves. HasNormalReduct moves (pair_of i j)) (sym vectors) normal;
          left = left (pair_of i j) free;
        },
        halt_stands (kept.Full i j) h,
      )

-- the first halt is the one that a worker has who halted first
first_is : (state : CoreState) (halt : KeptHalt) (worker : ℕ) (other : Halt) → IsFirstHalt state (Some halt) → state.first_halted ≡ Some worker → halt_of state worker ≡ Some other → other ≡ halt_as halt
first_is state halt worker other (first, e, f) g h =
    let at : first ≡ worker = same_Some first worker (sym e ∙ g) in
    same_Some other (halt_as halt) (sym h ∙ ap (λ k. halt_of state k) (sym at) ∙ f)

pub overflow_handed_on : (state : CoreState) (phase : Phase) (stop : OverflowStop) → IsFirstHalt state (Some (kept.Overflow stop)) →
    (worker : ℕ) (halt : Halt) → state.first_halted ≡ Some worker → halt_of state worker ≡ Some halt → HandsOn halt (Err (Overflow phase stop))
overflow_handed_on state phase stop h worker halt e f =
    subst (λ (other : Halt). HandsOn other (Err (Overflow phase stop))) (sym (first_is state (kept.Overflow stop) worker halt h e f)) refl

pub full_handed_on : (state : CoreState) (phase : Phase) (i j : ℕ) → IsFirstHalt state (Some (kept.Full i j)) →
    (worker : ℕ) (halt : Halt) → state.first_halted ≡ Some worker → halt_of state worker ≡ Some halt → HandsOn halt (Err (BasisFull phase i j))
full_handed_on state phase i j h worker halt e f =
    subst (λ (other : Halt). HandsOn other (Err (BasisFull phase i j))) (sym (first_is state (kept.Full i j) worker halt h e f)) refl

-- ---- the budget is used up exactly where the answer says so
not_used_up : (ledger : LedgerView) (phase : Phase) → IsHaltedOrWithin ledger (length phase.journal) → PhaseIsOverBudget ledger phase → ⊥
not_used_up ledger phase (inl e) over = e over.no_halt
not_used_up ledger phase (inr l) over = omega (arith, l, over.used_up)

pub exactly_over_budget : (ledger : LedgerView) (result : Result Phase Stopped) → Finishes ledger result → IfSome (phase_in result) (λ phase. AnswersOverBudget result ↔ PhaseIsOverBudget ledger phase)
exactly_over_budget ledger (Ok phase) (from, ended) =
    (λ h. absurd h, λ over. absurd (over.left.unsettled (ended.all_settled over.pair over.left.of_basis)))
exactly_over_budget ledger (Err Memory) h = tt
exactly_over_budget ledger (Err (Overflow phase stop)) (from, left, genuine, within) =
    (λ h. absurd h, λ over. absurd (not_used_up ledger phase within over))
exactly_over_budget ledger (Err (OverBudget phase)) (from, over) = (λ h. over, λ h. tt)
exactly_over_budget ledger (Err (BasisFull phase i j)) (from, full, within) =
    (λ h. absurd h, λ over. absurd (not_used_up ledger phase within over))

-- ---- what a later ledger finishes with, an earlier one does
module _ (before after : LedgerView) (g : ContinuesLedger before after) where
  -- a halt that stood stands
  stands : before.state.first_halted ≢ None → after.state.first_halted ≢ None
  stands e = subst (λ (l : LedgerView). l.state.first_halted ≢ None) (sym (g.stays e)) e

  -- no halt stood where none stands later
  none_before : after.state.first_halted ≡ None → before.state.first_halted ≡ None
  none_before e = go before.state.first_halted refl
    where
      go : (first : Option ℕ) → before.state.first_halted ≡ first → before.state.first_halted ≡ None
      go None f = f
      go (Some worker) f = absurd (stands (λ d. none-some worker (sym d ∙ f)) e)

  earlier_from : (phase : Phase) → IsPhaseFrom after phase → IsPhaseFrom before phase
  earlier_from phase h = record {
    basis = h.basis;
    priority = h.priority ∙ g.priority;
    grading = h.grading ∙ g.grading;
    start_length = h.start_length ∙ g.start_length;
    start = h.start ∙ g.start;
    more = g.more ++ h.more;
    journal = h.journal ∙ ap (λ j. j ++ h.more) g.journal ∙ append_assoc before.state.journal g.more h.more;
    by_first = All-append IsByFirst g.more h.more g.by_first h.by_first;
    thirds = h.thirds;
    basis_stays = λ e. h.basis_stays (stands e) ∙ ap (λ (l : LedgerView). l.basis) (g.stays e);
    journal_stays = λ e. h.journal_stays (stands e) ∙ ap (λ (l : LedgerView). l.state.journal) (g.stays e);
    legal = legal;
  }
    where
      legal : IsLegal (length before.basis.grading) before.basis.priority (state_of phase before.state.budget before.state.limit)
      legal =
          subst (λ w. IsLegal (length w) before.basis.priority (state_of phase before.state.budget before.state.limit)) g.grading
          (subst (λ p. IsLegal (length after.basis.grading) p (state_of phase before.state.budget before.state.limit)) g.priority
          (subst (λ budget. IsLegal (length after.basis.grading) after.basis.priority (state_of phase budget before.state.limit)) g.budget
          (subst (λ limit. IsLegal (length after.basis.grading) after.basis.priority (state_of phase after.state.budget limit)) g.limit h.legal)))

  within_earlier : (phase : Phase) → IsPhaseFrom after phase → IsHaltedOrWithin after (length phase.journal) → IsHaltedOrWithin before (length phase.journal)
  within_earlier phase h (inr l) = inr (omega (arith, l, g.budget))
  within_earlier phase h (inl e) = subst (IsHaltedOrWithin before) (sym (ap length (h.journal_stays e)) ∙ length-map phase.journal settle_of) (g.halts_within e)

  earlier_ended : (phase : Phase) → IsEnded (state_of phase after.state.budget after.state.limit) → IsEnded (state_of phase before.state.budget before.state.limit)
  earlier_ended phase h = record { all_settled = h.all_settled; none_claimed = h.none_claimed }

  pub Finishes-earlier : (result : Result Phase Stopped) → Finishes after result → Finishes before result
  Finishes-earlier (Ok phase) (h, ended) = (earlier_from phase h, earlier_ended phase ended)
  Finishes-earlier (Err Memory) h = tt
  Finishes-earlier (Err (Overflow phase stop)) (h, left, genuine, within) = (earlier_from phase h, left, genuine, within_earlier phase h within)
  Finishes-earlier (Err (OverBudget phase)) (h, over) =
      (earlier_from phase h, record { used_up = over.used_up ∙ g.budget; no_halt = none_before over.no_halt; pair = over.pair; left = over.left })
  Finishes-earlier (Err (BasisFull phase i j)) (h, full, within) =
      (earlier_from phase h, record { full = full.full ∙ g.limit; normal_reduct = full.normal_reduct; left = full.left }, within_earlier phase h within)

  pub over_budget_earlier : (result : Result Phase Stopped) → Finishes after result → IfSome (phase_in result) (λ phase. AnswersOverBudget result ↔ PhaseIsOverBudget before phase)
  over_budget_earlier result h = exactly_over_budget before result (Finishes-earlier result h)

  pub first_stays : (worker : ℕ) (halt : Halt) → before.state.first_halted ≡ Some worker → halt_of before.state worker ≡ Some halt →
      (after.state.first_halted ≡ Some worker) × (halt_of after.state worker ≡ Some halt)
  first_stays worker halt e f =
      let same : after ≡ before = g.stays (λ d. none-some worker (sym d ∙ e)) in
      (ap (λ (l : LedgerView). l.state.first_halted) same ∙ e, ap (λ (l : LedgerView). halt_of l.state worker) same ∙ f)

  pub none_stood : (worker : ℕ) → after.state.first_halted ≡ None → before.state.first_halted ≡ Some worker → ⊥
  none_stood worker e f = none-some worker (sym (none_before e) ∙ f)
