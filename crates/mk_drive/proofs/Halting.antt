-- Turns at some of which memory is refused: they happen by events, and without a refusal they are turns as ever.
use Rattle.std.proofs.Common.{◌≡◌, ◌↔◌, ℕ, false, List, [], ◌∷◌, length, get_or, set, map, replicate, All, Contains, arith, sym, ◌∙◌, subst}
use Rattle.std.specs.List.{AllByRecursion}
use Rattle.std.proofs.lemmas.Bool.{false_from_ne_true}
use Rattle.std.proofs.lemmas.List.{get_or-map}
use Rattle.std.proofs.lemmas.List.Elements.{recursion_from_All}
use Rattle.mk_model.specs.CoreStates.{CoreState, new_state}
use Rattle.mk_model.specs.Events.{Event, HappenInTurn}
use Rattle.mk_model.specs.Legal.{IsLegal}
use Rattle.mk_model.specs.Programs.{Stage, Drives}
use Rattle.mk_model.specs.Programs.Stage.{Idle, Gone}
use Rattle.mk_model.proofs.LegalEvents.{all_events_keep}
use Rattle.mk_model.proofs.Turns.{IsStep, stays, happens}
use Rattle.mk_move.specs.MoveLists.{vectors_of}
use Rattle.mk_ledger.specs.Ledgers.{LedgerView}
use Rattle.mk_core.specs.Jobs.{JobView}
use Rattle.mk_drive.specs.Halting.{ScheduledTurn, AreTurnsOf, IsTurnLine, DrivesWithRefusals, IsHaltingDriven}
use Rattle.mk_drive.specs.Seats.{IsDriven}
use Rattle.mk_drive.proofs.Turns.{turn_step}

pub halting_events : (n : ℕ) (priority : List ℕ) (state : CoreState) (stages : List Stage) (turns : List ScheduledTurn) (after : CoreState) (last : List Stage) →
    DrivesWithRefusals n priority state stages turns after last → (events : List Event) × HappenInTurn n priority state events after
halting_events n priority state stages [] after last (e, f) = ([], e)
halting_events n priority state stages (turn ∷ turns) after last (middle, next, line, rest) =
    go (halting_events n priority middle (set stages turn.worker next) turns after last rest) (turn_step n priority state turn.worker middle turn.refused (get_or stages turn.worker Gone) next line)
  where
    go : (events : List Event) × HappenInTurn n priority middle events after → IsStep n priority state turn.worker middle → (events : List Event) × HappenInTurn n priority state events after
    go (events, h) (stays e) = (events, subst (λ s. HappenInTurn n priority s events after) e h)
    go (events, h) (happens event e g) = (event ∷ events, (middle, g, h))

pub halting_legal : (n : ℕ) (priority : List ℕ) (state : CoreState) (stages : List Stage) (turns : List ScheduledTurn) (after : CoreState) (last : List Stage) →
    IsLegal n priority state → DrivesWithRefusals n priority state stages turns after last → IsLegal n priority after
halting_legal n priority state stages turns after last legal h =
    let (events, g) = halting_events n priority state stages turns after last h in
    all_events_keep n priority state events after legal g

-- ---- without a refusal
module _ (n : ℕ) (priority : List ℕ) (after : CoreState) (last : List Stage) where
  abbrev have_memory : List ScheduledTurn → Type 0
  have_memory turns = AllByRecursion (λ (turn : ScheduledTurn). turn.refused ≡ false) turns

  as_ever : (state : CoreState) (stages : List Stage) (turns : List ScheduledTurn) → have_memory turns → DrivesWithRefusals n priority state stages turns after last →
      Drives n priority state stages (map (λ (turn : ScheduledTurn). turn.worker) turns) after last
  as_ever state stages [] h drives = drives
  as_ever state stages (turn ∷ turns) (e, h) (middle, next, line, rest) =
      (middle, next, subst (λ b. IsTurnLine n priority state turn.worker b (get_or stages turn.worker Gone) middle next) e line, as_ever middle (set stages turn.worker next) turns h rest)

  with_memory : (state : CoreState) (stages : List Stage) (turns : List ScheduledTurn) → have_memory turns → Drives n priority state stages (map (λ (turn : ScheduledTurn). turn.worker) turns) after last →
      DrivesWithRefusals n priority state stages turns after last
  with_memory state stages [] h drives = drives
  with_memory state stages (turn ∷ turns) (e, h) (middle, next, line, rest) =
      (middle, next, subst (λ b. IsTurnLine n priority state turn.worker b (get_or stages turn.worker Gone) middle next) (sym e) line, with_memory middle (set stages turn.worker next) turns h rest)

pub without_refusals : (n : ℕ) (priority : List ℕ) (state : CoreState) (stages : List Stage) (turns : List ScheduledTurn) (after : CoreState) (last : List Stage) →
    All (λ (turn : ScheduledTurn). turn.refused ≡ false) turns →
    DrivesWithRefusals n priority state stages turns after last ↔ Drives n priority state stages (map (λ (turn : ScheduledTurn). turn.worker) turns) after last
without_refusals n priority state stages turns after last all = (as_ever n priority after last state stages turns h, with_memory n priority after last state stages turns h)
  where
    h : AllByRecursion (λ (turn : ScheduledTurn). turn.refused ≡ false) turns
    h = recursion_from_All (λ (turn : ScheduledTurn). turn.refused ≡ false) turns all

none_refused : (schedule : List ℕ) (turns : List ScheduledTurn) → AreTurnsOf schedule [] turns → All (λ (turn : ScheduledTurn). turn.refused ≡ false) turns
none_refused schedule turns h k d l =
    sym (get_or-map (λ (turn : ScheduledTurn). turn.refused) turns k d false l) ∙ false_from_ne_true (get_or (map (λ (turn : ScheduledTurn). turn.refused) turns) k false) (λ e. nowhere ((h.refused k l).0 e))
  where
    nowhere : Contains [] k → ⊥
    nowhere (place, within, is) = absurd (omega (arith, within))

pub driven_without : (job : JobView) (workers : ℕ) (schedule : List ℕ) (ledger : LedgerView) → IsHaltingDriven job workers schedule [] ledger → IsDriven job workers schedule ledger
driven_without job workers schedule ledger h = record {
  priority = h.priority;
  grading = h.grading;
  kept = h.kept;
  stages = h.stages;
  drives = subst (λ ws. Drives n job.start.priority start stages ws ledger.state h.stages) h.scheduled.workers
      ((without_refusals n job.start.priority start stages h.turns ledger.state h.stages (none_refused schedule h.turns h.scheduled)).0 h.drives);
}
  where
    n : ℕ
    n = length job.start.grading

    start : CoreState
    start = new_state (vectors_of job.start.moves) job.budget job.basis_limit workers

    stages : List Stage
    stages = replicate workers Idle
