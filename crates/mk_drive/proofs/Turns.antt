-- Turns of several workers: a line of one leaves what the others know, and one turn comes after another.
use Rattle.std.proofs.Common.{◌≡◌, ◌⊎◌, ◌↔◌, inl, inr, ℕ, zero, suc, ◌<◌, Bool, true, false, IsTrue, List, [], ◌∷◌, ◌++◌, length, length-append, get_or, set, map, replicate, Contains, None, Some, ℤ, All, arith, ap, refl, sym, ◌∙◌, subst, length-set}
use Rattle.std.proofs.lemmas.Bool.{cases_eq}
use Rattle.std.proofs.lemmas.List.{length-map, length-replicate, get_or-map, get_or_push, get_or_append_left, map_push, map-set, get_or-set_same, get_or-set_other}
use Rattle.std.proofs.lemmas.List.Elements.{All-get_or}
use Rattle.mk_model.specs.CoreStates.{Pair, CoreState, claim_of, halt_of, new_state, IsPairOf}
use Rattle.mk_model.specs.CoreStates.Halt.{Memory}
use Rattle.mk_model.specs.Events.{HaveCommonColumn, IsPairOverflow}
use Rattle.mk_model.specs.Events.Event.{Claims, Settles, Halts}
use Rattle.mk_model.proofs.Journals.{first_at-append, second_at-append, IsPairOverflow-append}
use Rattle.mk_model.proofs.Turns.{IsStep, stays, happens, LeavesOthers, line_step, step_leaves}
use Rattle.mk_model.specs.Programs as program
use Rattle.mk_model.proofs.LegalEvents.{none_of}
use Rattle.mk_move.specs.MoveLists.{BasisView, vectors_of}
use Rattle.mk_reduce.specs.Works.{TheWork}
use Rattle.mk_reduce.proofs.LongerBases.{WorkOf-append}
use Rattle.mk_ledger.specs.Halts.{stop_of}
use Rattle.mk_ledger.specs.Ledgers.{LedgerView, IsLedger}
use Rattle.mk_drive.specs.declared.driving.Turn.{Turn}
use Rattle.mk_core.specs.Jobs.{JobView}
use Rattle.mk_drive.specs.declared.seat.TurnStage.{TurnStage}
use Rattle.mk_drive.specs.declared.seat.TurnStage.TheVariants.{Idle, Fresh, Tests, Ready, Reduced, Stale, Stopping, Gone}
use Rattle.mk_drive.specs.Halting.{ScheduledTurn, AreTurnsOf, IsTurnLine, DrivesWithRefusals, IsHaltingDriven}
use Rattle.mk_core.specs.GrownBases.{IsLonger}
use Rattle.mk_drive.specs.Seats.{stage_of, HasCopy, HasWork, IsAt, TurnsTo, AreSeated, TakesTurn}
use Rattle.mk_core.proofs.GrownBases.{longer_here, longer_then, longer_vectors, claim_of_basis}

module _ (before after : LedgerView) (kept : IsLedger before) (kept_after : IsLedger after) (longer : IsLonger before.basis after.basis) where
  state_longer : after.state.basis ≡ before.state.basis ++ vectors_of longer.more
  state_longer =
      kept_after.moves ∙ longer_vectors before.basis after.basis longer ∙ ap (λ moves. moves ++ vectors_of longer.more) (sym kept.moves)

  common_stays : (pair : Pair) → IsPairOf before.state.basis pair → HaveCommonColumn before.state.basis pair → HaveCommonColumn after.state.basis pair
  common_stays pair h common = subst (λ moves. HaveCommonColumn moves pair) (sym state_longer) (rw (first_at-append before.state.basis (vectors_of longer.more) pair h, second_at-append before.state.basis (vectors_of longer.more) pair h) common)

  module _ (worker : ℕ) (same : claim_of after.state worker ≡ claim_of before.state worker) (same_halt : halt_of after.state worker ≡ halt_of before.state worker) where
    claimed_before : (pair : Pair) → claim_of before.state worker ≡ Some pair → IsPairOf before.state.basis pair
    claimed_before pair e = (kept.legal.claims_unsettled worker pair e).0

    copy_stays : (seen : BasisView) (pair : Pair) → HasCopy before worker seen pair → HasCopy after worker seen pair
    copy_stays seen pair h = record { claimed = same ∙ h.claimed; longer = longer_then seen before.basis after.basis h.longer longer; of_copy = h.of_copy }

    work_stays : (seen : BasisView) (work : TheWork) → HasWork before worker seen work → HasWork after worker seen work
    work_stays seen work h = record {
      copy = copy_stays seen work.pair h.copy;
      common = common_stays work.pair (claimed_before work.pair h.copy.claimed) h.common;
      done = h.done;
    }

    -- what a worker knows stays where its claim and its halt do
    pub stays_at : (stage : TurnStage) → IsAt before worker stage → IsAt after worker stage
    stays_at Idle (e, f) = (same ∙ e, same_halt ∙ f)
    stays_at Fresh (pair, e) = (pair, same ∙ e)
    stays_at (Tests seen from tried) (pair, h) = (pair, copy_stays seen pair h)
    stays_at (Ready seen) (pair, h, common) = (pair, copy_stays seen pair h, common_stays pair (claimed_before pair h.claimed) common)
    stays_at (Reduced work) h = record { seen = h.seen; of_copy = work_stays h.seen work h.of_copy; front = h.front; reduced = h.reduced }
    stays_at (Stale work) h = record {
      copy = record { claimed = same ∙ h.copy.claimed; longer = longer_here after.basis; of_copy = claim_of_basis after kept_after worker work.pair (same ∙ h.copy.claimed) };
      common = common_stays work.pair (claimed_before work.pair h.copy.claimed) h.common;
      done = WorkOf-append work before.basis after.basis longer.more longer.moves longer.grading h.done;
    }
    stays_at (Stopping stop) (e, overflow) = (
      same ∙ e,
      subst (λ moves. IsPairOverflow moves (stop_of stop)) (sym state_longer)
          (IsPairOverflow-append before.state.basis (vectors_of longer.more) (stop_of stop) (claimed_before (stop_of stop).pair e) overflow),
    )
    stays_at Gone h = h

-- ---- a turn
module _ (n : ℕ) (priority : List ℕ) (state : CoreState) (worker : ℕ) (after : CoreState) where
  -- a turn is an event of its worker, or it changes nothing
  pub turn_step : (refused : Bool) (stage next : program.Stage) → IsTurnLine n priority state worker refused stage after next → IsStep n priority state worker after
  turn_step false stage next line = line_step n priority state worker after stage next line
  turn_step true stage next (inl (gone, e), f) = stays e
  turn_step true stage next (inr (d, h), f) = happens (Halts worker Memory) refl h

  -- it leaves the halts of the others
  same_halts : IsStep n priority state worker after → (other : ℕ) → (other ≡ worker → ⊥) → halt_of after other ≡ halt_of state other
  same_halts (stays e) other d = ap (λ s. halt_of s other) e
  same_halts (happens (Claims w) e h) other d = ap (λ s. halt_of s other) h.changed
  same_halts (happens (Settles w way) e h) other d = ap (λ s. halt_of s other) h.changed
  same_halts (happens (Halts w halt) e h) other d =
      ap (λ s. halt_of s other) h.changed ∙ get_or-set_other state.halts w other (Some halt) None (subst (λ k. other ≡ k → ⊥) (sym e) d)

-- the worker has its turn, and the others know what they knew
pub turn_taken : (before after : LedgerView) (seats : List TurnStage) (worker : ℕ) (refused : Bool) (next : TurnStage) → IsLedger before → IsLedger after → AreSeated before seats → worker < length seats →
    TurnsTo before worker refused (get_or seats worker Gone) after next → TakesTurn before seats (record { worker = worker; refused = refused }) after (set seats worker next)
turn_taken before after seats worker refused next kept kept_after seated l h = record {
  next = next;
  line = h;
  changed = refl;
  seated = record {
    count = length-set seats worker next ∙ seated.count ∙ sym leaves.workers;
    each = λ other. at other (cases_eq other worker);
  };
}
  where
    n : ℕ
    n = length before.basis.grading

    step : IsStep n before.basis.priority before.state worker after.state
    step = turn_step n before.basis.priority before.state worker after.state refused (stage_of n (get_or seats worker Gone)) (stage_of n next) h.line

    leaves : LeavesOthers before.state worker after.state
    leaves = step_leaves n before.basis.priority before.state worker after.state step

    at : (other : ℕ) → (other ≡ worker) ⊎ (other ≡ worker → ⊥) → IsAt after other (get_or (set seats worker next) other Gone)
    at other (inl e) = subst (λ k. IsAt after k (get_or (set seats worker next) k Gone)) (sym e) (subst (IsAt after worker) (sym (get_or-set_same seats worker next Gone l)) h.stands)
    at other (inr d) = subst (IsAt after other) (sym (get_or-set_other seats worker other next Gone d))
        (stays_at before after kept kept_after h.longer other (leaves.others other d) (same_halts n before.basis.priority before.state worker after.state step other d)
        (get_or seats other Gone) (seated.each other))

-- ---- a schedule
-- what so many turns lead to from the start of a job, with the workers at their seats
pub record IsDrivenTo (job : JobView) (workers : ℕ) (schedule refused : List ℕ) (ledger : LedgerView) (seats : List TurnStage) : Type 0 where
  pub priority : ledger.basis.priority ≡ job.start.priority
  pub grading : ledger.basis.grading ≡ job.start.grading
  pub count : length seats ≡ workers
  pub seated : AreSeated ledger seats
  pub turns : List ScheduledTurn
  pub scheduled : AreTurnsOf schedule refused turns
  pub drives : DrivesWithRefusals (length job.start.grading) job.start.priority (new_state (vectors_of job.start.moves) job.budget job.basis_limit workers)
      (replicate workers program.Stage.Idle) turns ledger.state (map (stage_of (length job.start.grading)) seats)

-- a seat among so many idle ones, or none
idle_seat : (P : TurnStage → Type 0) → P Idle → P Gone → (k i : ℕ) → P (get_or (replicate k Idle) i Gone)
idle_seat P h g zero i = g
idle_seat P h g (suc k) zero = h
idle_seat P h g (suc k) (suc i) = idle_seat P h g k i

stages_idle : (n k : ℕ) → map (stage_of n) (replicate k Idle) ≡ replicate k program.Stage.Idle
stages_idle n zero = refl
stages_idle n (suc k) = ap (λ stages. program.Stage.Idle ∷ stages) (stages_idle n k)

-- the turn of a place names a worker
pub turn_within : (workers : ℕ) (schedule : List Turn) (place : ℕ) (seats : List TurnStage) → All (λ turn. turn.worker < workers) schedule → place < length schedule → length seats ≡ workers →
    (get_or schedule place (record { worker = 0 })).worker < length seats
turn_within workers schedule place seats all l e =
    subst (λ k. (get_or schedule place (record { worker = 0 })).worker < k) (sym e) (All-get_or (λ (turn : Turn). turn.worker < workers) schedule place (record { worker = 0 }) l all)

-- without turns
none_scheduled : (refused : List ℕ) → AreTurnsOf [] refused []
none_scheduled refused = record { workers = refl; refused = λ number l. absurd (omega (arith, l)) }

-- one turn more, with memory or without
pub one_more_scheduled : (schedule refused : List ℕ) (turns : List ScheduledTurn) (turn : ScheduledTurn) → AreTurnsOf schedule refused turns →
    (IsTrue turn.refused ↔ Contains refused (length schedule)) → AreTurnsOf (schedule ++ turn.worker ∷ []) refused (turns ++ turn ∷ [])
one_more_scheduled schedule refused turns turn h last = record {
  workers = map_push (λ (t : ScheduledTurn). t.worker) turns turn ∙ ap (λ ws. ws ++ turn.worker ∷ []) h.workers;
  refused = λ number l. subst (λ flags. IsTrue (get_or flags number false) ↔ Contains refused number) (sym (map_push (λ (t : ScheduledTurn). t.refused) turns turn)) (at number l (cases_eq number (length turns)));
}
  where
    flags : List Bool
    flags = map (λ (t : ScheduledTurn). t.refused) turns

    as_many : length turns ≡ length schedule
    as_many = sym (length-map turns (λ (t : ScheduledTurn). t.worker)) ∙ ap length h.workers

    flags_as_many : length flags ≡ length turns
    flags_as_many = length-map turns (λ (t : ScheduledTurn). t.refused)

    at : (number : ℕ) → number < length (turns ++ turn ∷ []) → (number ≡ length turns) ⊎ (number ≡ length turns → ⊥) →
        IsTrue (get_or (flags ++ turn.refused ∷ []) number false) ↔ Contains refused number
    at number l (inl e) = subst (λ k. IsTrue (get_or (flags ++ turn.refused ∷ []) k false) ↔ Contains refused k) (sym (e ∙ as_many))
        (subst (λ b. IsTrue b ↔ Contains refused (length schedule)) (sym (get_or_push flags turn.refused false (length schedule) (flags_as_many ∙ as_many))) last)
    at number l (inr d) = subst (λ b. IsTrue b ↔ Contains refused number) (sym (get_or_append_left flags (turn.refused ∷ []) false number (omega (arith, below, flags_as_many)))) (h.refused number below)
      where
        below : number < length turns
        below = omega (arith, l, d, length-append turns (turn ∷ []))

one_more_turn : (n : ℕ) (priority : List ℕ) (state : CoreState) (stages : List program.Stage) (turns : List ScheduledTurn) (middle : CoreState) (between : List program.Stage) (turn : ScheduledTurn) (after : CoreState) (next : program.Stage) →
    DrivesWithRefusals n priority state stages turns middle between → IsTurnLine n priority middle turn.worker turn.refused (get_or between turn.worker program.Stage.Gone) after next →
    DrivesWithRefusals n priority state stages (turns ++ turn ∷ []) after (set between turn.worker next)
one_more_turn n priority state stages [] middle between turn after next (e, f) line = (
  after,
  next,
  subst (λ s. IsTurnLine n priority s turn.worker turn.refused (get_or stages turn.worker program.Stage.Gone) after next) e
      (subst (λ b. IsTurnLine n priority middle turn.worker turn.refused (get_or b turn.worker program.Stage.Gone) after next) f line),
  (refl, ap (λ b. set b turn.worker next) f),
)
one_more_turn n priority state stages (first ∷ turns) middle between turn after next (between_state, stage, h, rest) line =
    (between_state, stage, h, one_more_turn n priority between_state (set stages first.worker stage) turns middle between turn after next rest line)

module _ (job : JobView) (workers : ℕ) (refused : List ℕ) where
  abbrev n : ℕ
  n = length job.start.grading

  abbrev start : CoreState
  start = new_state (vectors_of job.start.moves) job.budget job.basis_limit workers

  pub driven_start : (ledger : LedgerView) (seats : List TurnStage) → ledger.state ≡ new_state (vectors_of job.start.moves) job.budget job.basis_limit workers → ledger.basis ≡ job.start → seats ≡ replicate workers Idle → IsDrivenTo job workers [] refused ledger seats
  driven_start ledger seats e f g = subst (IsDrivenTo job workers [] refused ledger) (sym g) (record {
    priority = ap (λ b. b.priority) f;
    grading = ap (λ b. b.grading) f;
    count = length-replicate workers Idle;
    seated = record {
      count = length-replicate workers Idle ∙ sym (ap (λ s. s.workers) e);
      each = λ worker. idle_seat (IsAt ledger worker) (ap (λ s. claim_of s worker) e ∙ none_of workers worker, ap (λ s. halt_of s worker) e ∙ none_of workers worker) tt workers worker;
    };
    turns = [];
    scheduled = none_scheduled refused;
    drives = (e, stages_idle n workers);
  })

  pub driven_more : (schedule : List ℕ) (before after : LedgerView) (seats seats_after : List TurnStage) (turn : ScheduledTurn) → turn.worker < length seats → (IsTrue turn.refused ↔ Contains refused (length schedule)) →
      IsDrivenTo job workers schedule refused before seats → TakesTurn before seats turn after seats_after → IsDrivenTo job workers (schedule ++ turn.worker ∷ []) refused after seats_after
  driven_more schedule before after seats seats_after turn l is_refused h taken = record {
    priority = taken.line.longer.priority ∙ h.priority;
    grading = taken.line.longer.grading ∙ h.grading;
    count = ap length taken.changed ∙ length-set seats turn.worker taken.next ∙ h.count;
    seated = taken.seated;
    turns = h.turns ++ turn ∷ [];
    scheduled = one_more_scheduled schedule refused h.turns turn h.scheduled is_refused;
    drives = subst (DrivesWithRefusals n job.start.priority start (replicate workers program.Stage.Idle) (h.turns ++ turn ∷ []) after.state) stages
        (one_more_turn n job.start.priority start (replicate workers program.Stage.Idle) h.turns before.state (map (stage_of n) seats) turn after.state (stage_of n taken.next) h.drives line);
  }
    where
      stages : set (map (stage_of n) seats) turn.worker (stage_of n taken.next) ≡ map (stage_of n) seats_after
      stages = sym (map-set (stage_of n) seats turn.worker taken.next) ∙ ap (map (stage_of n)) (sym taken.changed)

      line_at : IsTurnLine n job.start.priority before.state turn.worker turn.refused (stage_of n (get_or seats turn.worker Gone)) after.state (stage_of n taken.next)
      line_at =
          subst (λ p. IsTurnLine n p before.state turn.worker turn.refused (stage_of n (get_or seats turn.worker Gone)) after.state (stage_of n taken.next)) h.priority
          (subst (λ (w : List ℤ). IsTurnLine (length w) before.basis.priority before.state turn.worker turn.refused (stage_of (length w) (get_or seats turn.worker Gone)) after.state (stage_of (length w) taken.next)) h.grading
          taken.line.line)

      line : IsTurnLine n job.start.priority before.state turn.worker turn.refused (get_or (map (stage_of n) seats) turn.worker program.Stage.Gone) after.state (stage_of n taken.next)
      line =
          subst (λ stage. IsTurnLine n job.start.priority before.state turn.worker turn.refused stage after.state (stage_of n taken.next)) (sym (get_or-map (stage_of n) seats turn.worker Gone program.Stage.Gone l)) line_at

  pub driven_to_end : (schedule : List ℕ) (ledger : LedgerView) (seats : List TurnStage) → IsLedger ledger → IsDrivenTo job workers schedule refused ledger seats → IsHaltingDriven job workers schedule refused ledger
  driven_to_end schedule ledger seats kept h = record {
    priority = h.priority;
    grading = h.grading;
    kept = kept;
    turns = h.turns;
    scheduled = h.scheduled;
    stages = map (stage_of n) seats;
    drives = h.drives;
  }
