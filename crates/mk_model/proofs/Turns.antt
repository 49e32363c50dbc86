-- What the lines of workers change: a line is an event of its worker, or it changes nothing.
use Rattle.std.proofs.Common.{◌≡◌, inl, inr, ℕ, List, [], ◌∷◌, ◌++◌, length, get_or, set, Option, None, Some, ℤ, ap, refl, sym, ◌∙◌, subst}
use Rattle.std.proofs.lemmas.List.{append-nil, get_or-set_other}
use Rattle.mk_model.specs.CoreStates.{Pair, Way, CoreState, claim_of}
use Rattle.mk_model.specs.CoreStates.Way.{Coprime, Chain, Zero, Place}
use Rattle.mk_model.specs.CoreStates.Halt.{Overflow, Full}
use Rattle.mk_model.specs.Events.{Event, Happens, HappenInTurn, IsClaim, IsSettling}
use Rattle.mk_model.specs.Events.Event.{Claims, Settles, Halts}
use Rattle.mk_model.specs.Legal.{IsLegal}
use Rattle.mk_model.specs.Programs.{Stage, IsProgramLine, Drives, IsIdleLine, IsTest, IsTried, IsReducedLine, IsWholeLine}
use Rattle.mk_model.specs.Programs.Stage.{Idle, Fresh, Tests, Ready, Reduced, Stale, Stopping, Gone}
use Rattle.mk_model.proofs.Journals.{Grows, moves_grow}
use Rattle.mk_model.proofs.LegalEvents.{events_keep, all_events_keep}

-- the worker of an event
abbrev pub worker_of : Event → ℕ
worker_of (Claims worker) = worker
worker_of (Settles worker way) = worker
worker_of (Halts worker halt) = worker

-- nothing changes, or an event of the worker happens
pub data IsStep (n : ℕ) (priority : List ℕ) (state : CoreState) (worker : ℕ) (after : CoreState) : Type 0 where
  stays : after ≡ state → IsStep n priority state worker after
  happens : (event : Event) → worker_of event ≡ worker → Happens n priority state event after → IsStep n priority state worker after

module _ (n : ℕ) (priority : List ℕ) (state : CoreState) (worker : ℕ) (after : CoreState) where
  claims : IsClaim state worker after → IsStep n priority state worker after
  claims h = happens (Claims worker) refl h

  settles : (way : Way) → IsSettling n priority state worker way after → IsStep n priority state worker after
  settles way h = happens (Settles worker way) refl h

  idle_step : (next : Stage) → IsIdleLine state worker after next → IsStep n priority state worker after
  idle_step next (inl (h, e)) = claims h
  idle_step next (inr (e, h)) = stays e

  try_step : (pair : Pair) (seen third tried : ℕ) (next : Stage) → IsTried n priority state worker pair seen third tried after next →
      IsStep n priority state worker after
  try_step pair seen third tried next (inl (h, e)) = settles (Chain third) h
  try_step pair seen third tried next (inr (f, e, g)) = stays e

  test_step : (pair : Pair) (seen from tried : ℕ) (next : Stage) → IsTest n priority state worker pair seen from tried after next →
      IsStep n priority state worker after
  test_step pair seen from tried next (inl (h, e)) = settles Coprime h
  test_step pair seen from tried next (inr (f, inl h)) = try_step pair seen h.third tried next h.answer
  test_step pair seen from tried next (inr (f, inr (g, e, k))) = stays e

  whole_step : (left : List ℤ) (next : Stage) → IsWholeLine n priority state worker left after next → IsStep n priority state worker after
  whole_step left next (inl (h, e)) = settles (Place (length state.basis)) h.settling
  whole_step left next (inr ((pair, h), e)) = happens (Halts worker (Full pair)) refl h

  reduced_step : (seen : ℕ) (left : List ℤ) (next : Stage) → IsReducedLine n priority state worker seen left after next →
      IsStep n priority state worker after
  reduced_step seen left next (inl (e, h, f)) = settles Zero h
  reduced_step seen left next (inr (d, inl (l, e, f))) = stays e
  reduced_step seen left next (inr (d, inr (l, h))) = whole_step left next h

  pub line_step : (stage next : Stage) → IsProgramLine n priority state worker stage after next → IsStep n priority state worker after
  line_step Idle next h = idle_step next h
  line_step Fresh next (e, f) = stays e
  line_step (Tests seen from tried) next h = test_step h.pair seen from tried next h.test
  line_step (Ready seen) next h = stays h.same
  line_step (Reduced seen left) next h = reduced_step seen left next h
  line_step (Stale left) next h = stays h.same
  line_step (Stopping stop) next (h, e) = happens (Halts worker (Overflow stop)) refl h
  line_step Gone next (e, f) = stays e

-- ---- what a step leaves to the others
-- The basis has the moves that it had, and maybe more behind them; the claims of the other workers are as they were.
pub record LeavesOthers (state : CoreState) (worker : ℕ) (after : CoreState) : Type 0 where
  pub more : List (List ℤ)
  pub longer : after.basis ≡ state.basis ++ more
  pub others : (other : ℕ) → (other ≡ worker → ⊥) → claim_of after other ≡ claim_of state other
  pub workers : after.workers ≡ state.workers

module _ (n : ℕ) (priority : List ℕ) (state : CoreState) (worker : ℕ) (after : CoreState) where
  same_basis : after.basis ≡ state.basis → after.basis ≡ state.basis ++ []
  same_basis e = e ∙ sym (append-nil state.basis)

  other_claims : (new : Option Pair) → after.claims ≡ set state.claims worker new → (other : ℕ) → (other ≡ worker → ⊥) →
      claim_of after other ≡ claim_of state other
  other_claims new e other d = ap (λ claims. get_or claims other None) e ∙ get_or-set_other state.claims worker other new None d

  settling_leaves : (way : Way) → IsSettling n priority state worker way after → LeavesOthers state worker after
  settling_leaves way h = record {
    more = grows.more;
    longer = ap (λ s. s.basis) h.changed ∙ grows.longer;
    others = other_claims None (ap (λ s. s.claims) h.changed);
    workers = ap (λ s. s.workers) h.changed;
  }
    where
      grows : Grows state.limit state.basis h.moves
      grows = moves_grow n priority state.limit state.basis state.journal h.pair way h.moves h.settled

  event_leaves : (event : Event) → worker_of event ≡ worker → Happens n priority state event after → LeavesOthers state worker after
  event_leaves (Claims w) e h = record {
    more = [];
    longer = same_basis (ap (λ s. s.basis) h.changed);
    others = other_claims (Some h.pair) (ap (λ s. s.claims) h.changed ∙ ap (λ k. set state.claims k (Some h.pair)) e);
    workers = ap (λ s. s.workers) h.changed;
  }
  event_leaves (Settles w way) e h = settling_leaves way (subst (λ k. IsSettling n priority state k way after) e h)
  event_leaves (Halts w halt) e h = record {
    more = [];
    longer = same_basis (ap (λ s. s.basis) h.changed);
    others = other_claims None (ap (λ s. s.claims) h.changed ∙ ap (λ k. set state.claims k None) e);
    workers = ap (λ s. s.workers) h.changed;
  }

  pub step_leaves : IsStep n priority state worker after → LeavesOthers state worker after
  step_leaves (stays e) = record {
    more = [];
    longer = same_basis (ap (λ s. s.basis) e);
    others = λ other d. ap (λ s. claim_of s other) e;
    workers = ap (λ s. s.workers) e;
  }
  step_leaves (happens event e h) = event_leaves event e h

  pub step_legal : IsLegal n priority state → IsStep n priority state worker after → IsLegal n priority after
  step_legal legal (stays e) = subst (IsLegal n priority) (sym e) legal
  step_legal legal (happens event e h) = events_keep n priority state event after legal h

-- ---- turns
-- what is driven happens by events
pub driven_events : (n : ℕ) (priority : List ℕ) (state : CoreState) (stages : List Stage) (turns : List ℕ) (after : CoreState)
    (last : List Stage) →
    Drives n priority state stages turns after last → (events : List Event) × HappenInTurn n priority state events after
driven_events n priority state stages [] after last (e, f) = ([], e)
driven_events n priority state stages (worker ∷ turns) after last (middle, next, line, rest) =
    go (driven_events n priority middle (set stages worker next) turns after last rest)
    (line_step n priority state worker middle (get_or stages worker Gone) next line)
  where
    go : (events : List Event) × HappenInTurn n priority middle events after → IsStep n priority state worker middle → (events : List Event)
        × HappenInTurn n priority state events after
    go (events, h) (stays e) = (events, subst (λ s. HappenInTurn n priority s events after) e h)
    go (events, h) (happens event e g) = (event ∷ events, (middle, g, h))

pub driven_legal : (n : ℕ) (priority : List ℕ) (state : CoreState) (stages : List Stage) (turns : List ℕ) (after : CoreState)
    (last : List Stage) →
    IsLegal n priority state → Drives n priority state stages turns after last → IsLegal n priority after
driven_legal n priority state stages turns after last legal h =
    let (events, g) = driven_events n priority state stages turns after last h in
    all_events_keep n priority state events after legal g

-- one turn more
pub one_more_turn : (n : ℕ) (priority : List ℕ) (state : CoreState) (stages : List Stage) (turns : List ℕ) (middle : CoreState)
    (between : List Stage) (worker : ℕ) (after : CoreState) (next : Stage) →
    Drives n priority state stages turns middle between → IsProgramLine n priority middle worker (get_or between worker Gone) after next →
    Drives n priority state stages (turns ++ worker ∷ []) after (set between worker next)
one_more_turn n priority state stages [] middle between worker after next (e, f) line = (
  after,
  next,
  subst (λ s. IsProgramLine n priority s worker (get_or stages worker Gone) after next) e
      (subst (λ b. IsProgramLine n priority middle worker (get_or b worker Gone) after next) f line),
  (refl, ap (λ b. set b worker next) f),
)
one_more_turn n priority state stages (first ∷ turns) middle between worker after next (between_state, stage, h, rest) line = (
  between_state,
  stage,
  h,
  one_more_turn n priority between_state
      (set stages first stage) turns middle between worker after next rest line,
)
