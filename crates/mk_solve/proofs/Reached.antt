-- A run between two phases: what is reached by those that the book has, and what the next phase adds to it.
use Rattle.std.proofs.Common.{◌≡◌, ◌⊎◌, inl, inr, ℕ, ◌-◌, ◌≤◌, ◌<◌, List, [], ◌∷◌, ◌++◌, length, All, Option, None, Err, ℤ, refl, arith, ap, sym, ◌∙◌, subst, take}
use Rattle.std.specs.List.{AllZip}
use Rattle.std.specs.Option.{option_map, IfSome}
use Rattle.std.proofs.lemmas.List.{length-map, map-append}
use Rattle.std.proofs.lemmas.List.Elements.{All-push}
use Rattle.mk_model.specs.Books.{IsPhaseAlong, IsPhaseEnded, SaturateLattice, StandsAt, HasStopped, state_in}
use Rattle.mk_model.specs.CoreStates.{Pair as CorePair, pair_of, IsFree}
use Rattle.mk_model.specs.Events.{IsFull}
use Rattle.mk_model.specs.Lattices.{Lattice, lattice_of, SameLattice}
use Rattle.mk_model.specs.Legal.{IsLegal, IsEnded}
use Rattle.mk_model.specs.Orders.{IsRowTurned}
use Rattle.mk_model.specs.Saturation.{drop_redundant}
use Rattle.mk_model.specs.Vectors.{negate}
use Rattle.mk_model.proofs.BookLaws.{saturate_push}
use Rattle.mk_model.proofs.VectorAlgebra.{negate-negate}
use Rattle.mk_model.proofs.LegalEvents.{phase_is_legal}
use Rattle.mk_move.specs.MoveLists.{BasisView, vectors_of}
use Rattle.mk_journal.specs.Entries.{settles_of}
use Rattle.mk_ledger.specs.Halts.{stop_of}
use Rattle.mk_core.specs.Phases.{state_of, IsLeft, IsBasisFull}
use Rattle.mk_core.specs.JobPhases.{IsPhaseOf}
use Rattle.mk_core.specs.Jobs.{JobView}
use Rattle.mk_core.specs.declared.phase.Phase.{Phase}
use Rattle.mk_saturate.specs.Saturations.{IsJob, IsPhaseFromBasis}
use Rattle.mk_saturate.proofs.Jobs.{phase_of_job}
use Rattle.mk_saturate.proofs.Spans.{SameLattice-transitive}
use Rattle.mk_inter.specs.Tails.{IsReducedList}
use Rattle.mk_solve.specs.Books.{Book, phase_as, phases_as, book_as, stop_as, settled_of}
use Rattle.mk_solve.specs.Solutions.{IsPhaseKept, KeepsBases, Solves}
use Rattle.mk_solve.specs.Steps.{stopped_at, IsPhaseStop, StopsIn, TakesPhase}
use Rattle.mk_solve.specs.declared.book.BookStop.{BookStop}
use Rattle.mk_solve.specs.declared.book.BookStop.TheVariants.{Overflow, Budget, BasisFull}
use Rattle.mk_solve.specs.declared.book.OverflowPlace.TheVariants.{Pair, Tail, Degree}
use Rattle.mk_solve.specs.declared.solving.RunStop.TheVariants.{Memory, Stopped}
use Rattle.mk_solve.proofs.Sums.{settled_push}
use Rattle.mk_solve.proofs.JobStops.{settled_within}

-- ---- turning twice is turning once
-- the move is the row or its negative
abbrev pub IsEither : List ℤ → List ℤ → Type 0
IsEither row move = (move ≡ row) ⊎ (move ≡ negate row)

either_twice : (row middle move : List ℤ) → IsEither row middle → IsEither middle move → IsEither row move
either_twice row middle move (inl e) (inl f) = inl (f ∙ e)
either_twice row middle move (inl e) (inr f) = inr (f ∙ ap negate e)
either_twice row middle move (inr e) (inl f) = inr (f ∙ e)
either_twice row middle move (inr e) (inr f) = inl (f ∙ ap negate e ∙ negate-negate row)

pub turned_twice : (p : List ℕ) (rows middle moves : List (List ℤ)) → AllZip IsEither rows middle → AllZip (IsRowTurned p) middle moves → AllZip (IsRowTurned p) rows moves
turned_twice p [] [] [] z t = tt
turned_twice p [] [] (move ∷ moves) z t = absurd t
turned_twice p [] (m ∷ middle) moves z t = absurd z
turned_twice p (row ∷ rows) [] moves z t = absurd z
turned_twice p (row ∷ rows) (m ∷ middle) [] z t = absurd t
turned_twice p (row ∷ rows) (m ∷ middle) (move ∷ moves) (e, z) (t, u) =
    (record { either = either_twice row m move e t.either; oriented = t.oriented }, turned_twice p rows middle moves z u)

pub either_turned : (p : List ℕ) (rows moves : List (List ℤ)) → AllZip (IsRowTurned p) rows moves → AllZip IsEither rows moves
either_turned p [] [] t = tt
either_turned p [] (move ∷ moves) t = absurd t
either_turned p (row ∷ rows) [] t = absurd t
either_turned p (row ∷ rows) (move ∷ moves) (t, u) = (t.either, either_turned p rows moves u)

either_itself : (moves : List (List ℤ)) → AllZip IsEither moves moves
either_itself [] = tt
either_itself (move ∷ moves) = (inl refl, either_itself moves)

-- the lattice of some rows, with a grading
abbrev pub lattice_with : List (List ℤ) → List ℤ → Lattice
lattice_with rows w = lattice_of (length w) rows w

-- ---- the phase of a job over the moves
module _ (w : List ℤ) (rest : List (List ℤ)) (basis : BasisView) (p : List ℕ) (budget : ℕ) (job : JobView) (phase : Phase)
    (turned : AllZip IsEither rest (vectors_of basis.moves)) (same : basis.grading ≡ w) (h : IsJob basis p budget job) (from : IsPhaseOf job phase) where
  abbrev settled : ℕ
  settled = length (settles_of phase.journal)

  legal_within : IsLegal (length job.start.grading) job.start.priority (state_of phase settled job.basis_limit)
  legal_within =
      phase_is_legal (length job.start.grading) job.start.priority (state_of phase job.budget job.basis_limit) settled (omega arith) from.legal

  legal : IsLegal (length w) p (state_of phase settled 65536)
  legal =
      subst (λ limit. IsLegal (length w) p (state_of phase settled limit)) h.limit
      (subst (λ q. IsLegal (length w) q (state_of phase settled job.basis_limit)) h.priority
      (subst (λ v. IsLegal (length v) job.start.priority (state_of phase settled job.basis_limit)) (h.grading ∙ same) legal_within))

  phase_of : IsPhaseFromBasis basis p phase
  phase_of = phase_of_job basis p budget job phase h from

  pub phase_kept : IsPhaseKept w phase
  phase_kept = record { basis = from.basis; grading = phase_of.grading ∙ same }

  pub phase_along : IsPhaseAlong (length w) rest p (phase_as phase)
  phase_along = record {
    priority = phase_of.priority;
    begun = turned_twice p rest (vectors_of basis.moves) (take phase.start_len (vectors_of phase.basis.moves)) turned phase_of.begun;
    legal = legal;
  }

ended_within : (phase : Phase) (budget limit : ℕ) → IsEnded (state_of phase budget limit) → IsPhaseEnded (phase_as phase)
ended_within phase budget limit h = record { all_settled = h.all_settled; none_claimed = h.none_claimed }

-- a pair of a phase that is left
pub free_in : (phase : Phase) (pair : CorePair) → IsLeft phase pair → IsFree (state_in (phase_as phase)) pair
free_in phase pair h = record {
  of_basis = h.of_basis;
  unsettled = h.unsettled;
  unclaimed = λ (worker, e). absurd cc;
}

pub full_in : (phase : Phase) (pair : CorePair) → IsBasisFull 65536 phase pair → IsFull (state_in (phase_as phase)) pair
full_in phase pair h = (length-map phase.basis.moves (λ m. m.entries) ∙ h.full, h.normal_reduct)

-- ---- between two phases
-- The phases of the book, which are ended, lead to `rest`, which are the moves but for their signs; these lists are left.
pub record IsReached (rows : List (List ℤ)) (w : List ℤ) (budget : ℕ) (rest : List (List ℤ)) (basis : BasisView) (book : Book) (left : List (List ℕ)) : Type 0 where
  pub phases : SaturateLattice (lattice_with rows w) (phases_as book.phases) rest left
  pub kept : All (IsPhaseKept w) book.phases
  pub turned : AllZip IsEither rest (vectors_of basis.moves)
  pub lattice : SameLattice (length w) rows (vectors_of basis.moves)
  pub grading : basis.grading ≡ w
  pub input : book.input ≡ None
  pub reduced : book.reduced ≡ None
  pub stop : book.stop ≡ None
  pub within : settled_of book.phases ≤ budget

-- no reduced basis is kept
pub bases_kept : (w : List ℤ) (book : Book) → All (IsPhaseKept w) book.phases → book.reduced ≡ None → KeepsBases w book
bases_kept w book kept e = record { phases = kept; reduced = subst (λ reduced. IfSome reduced (λ basis. IsReducedList basis × (basis.grading ≡ w))) (sym e) tt }

-- memory ran out between two phases
pub reached_solves : {upto : Option ℕ} (rows : List (List ℤ)) (w : List ℤ) (budget : ℕ) (rest : List (List ℤ)) (basis : BasisView) (book : Book) (left : List (List ℕ)) → IsReached rows w budget rest basis book left → Solves (lattice_with rows w) budget upto (Err Memory) book
reached_solves rows w budget rest basis book left h = record {
  input = h.input;
  settled = h.within;
  bases = bases_kept w book h.kept h.reduced;
  ends = (h.stop, record { rest = rest; left = left; phases = h.phases; reduced = inl (ap (option_map (λ (basis : BasisView). vectors_of basis.moves)) h.reduced) });
}

module _ (rows : List (List ℤ)) (w : List ℤ) (budget : ℕ) (rest : List (List ℤ)) (basis : BasisView) (book : Book) (p : List ℕ) (left : List (List ℕ))
    (h : IsReached rows w budget rest basis book (p ∷ left)) (job : JobView) (j : IsJob basis p (budget - settled_of book.phases) job) where
  along : (phase : Phase) → IsPhaseOf job phase → IsPhaseAlong (length w) rest p (phase_as phase)
  along phase from = phase_along w rest basis p (budget - settled_of book.phases) job phase h.turned h.grading j from

  within_more : (phase : Phase) → IsPhaseOf job phase → settled_of (book.phases ++ phase ∷ []) ≤ budget
  within_more phase from =
      let given = j.budget_given in omega (arith, settled_push book.phases phase, settled_within job phase from, h.within, given)

  kept_more : (phase : Phase) → IsPhaseOf job phase → All (IsPhaseKept w) (book.phases ++ phase ∷ [])
  kept_more phase from =
      All-push (IsPhaseKept w) book.phases phase h.kept (phase_kept w rest basis p (budget - settled_of book.phases) job phase h.turned h.grading j from)

  -- the phases with one more at their end
  plain_more : (phase : Phase) → phases_as (book.phases ++ phase ∷ []) ≡ phases_as book.phases ++ phase_as phase ∷ []
  plain_more phase = map-append phase_as book.phases (phase ∷ [])

  -- a phase that is completed
  pub reached_on : (taken : BasisView) (after : Book) → TakesPhase job basis book taken after → IsReached rows w budget (vectors_of taken.moves) taken after left
  reached_on taken after t = subst (λ (b : Book). IsReached rows w budget (vectors_of taken.moves) taken b left) (sym t.kept) (record {
    phases = subst (λ moves. SaturateLattice (lattice_with rows w) (phases_as (book.phases ++ t.phase ∷ [])) moves left) (sym t.dropped.moves) more;
    kept = kept_more t.phase t.from;
    turned = either_itself (vectors_of taken.moves);
    lattice = SameLattice-transitive (length w) rows (vectors_of basis.moves) (vectors_of taken.moves) h.lattice
        (subst (λ (v : List ℤ). SameLattice (length v) (vectors_of basis.moves) (vectors_of taken.moves)) h.grading t.dropped.lattice);
    grading = t.dropped.grading ∙ h.grading;
    input = h.input;
    reduced = h.reduced;
    stop = h.stop;
    within = within_more t.phase t.from;
  })
    where
      more : SaturateLattice (lattice_with rows w) (phases_as (book.phases ++ t.phase ∷ [])) (drop_redundant (vectors_of t.phase.basis.moves)) left
      more =
          subst (λ phases. SaturateLattice (lattice_with rows w) phases (drop_redundant (vectors_of t.phase.basis.moves)) left) (sym (plain_more t.phase))
          (saturate_push (length w) _ _ (phases_as book.phases) rest p left (phase_as t.phase) h.phases (along t.phase t.from) (ended_within t.phase job.budget job.basis_limit t.ended))

  -- a phase that stopped
  stands : (phase : Phase) (stop : BookStop) (number : ℕ) → number ≡ length book.phases → IsPhaseOf job phase →
      StandsAt (lattice_with rows w) (book_as (stopped_at book phase stop)) number (phase_as phase)
  stands phase stop number e from = record {
    earlier = phases_as book.phases;
    all = plain_more phase;
    counted = e ∙ sym (length-map book.phases phase_as);
    moves = rest;
    list = p;
    left = left;
    before = h.phases;
    along = along phase from;
    not_reduced = ap (option_map (λ (basis : BasisView). vectors_of basis.moves)) h.reduced;
  }

  -- a phase that settled fewer pairs than its job may leaves pairs of the budget
  less_settled : (phase : Phase) → length phase.journal < job.budget → settled_of (book.phases ++ phase ∷ []) < budget
  less_settled phase l = let given = j.budget_given in omega (arith, settled_push book.phases phase, l, h.within, given)

  has_stopped : (phase : Phase) (stop : BookStop) → IsPhaseOf job phase → IsPhaseStop job (length book.phases) (settled_of (book.phases ++ phase ∷ [])) phase stop →
      HasStopped (lattice_with rows w) budget (book_as (stopped_at book phase stop)) (stop_as stop)
  has_stopped phase (Overflow (Pair number) stop) from (e, free, genuine, less) =
      (phase_as phase, stands phase (Overflow (Pair number) stop) number e from, free_in phase (stop_of stop).pair free, genuine, less_settled phase less)
  has_stopped phase (Overflow (Tail index) stop) from cause = absurd cause
  has_stopped phase (Overflow Degree stop) from cause = absurd cause
  has_stopped phase (Budget settled) from (e, over) =
      let given = j.budget_given in
      let used = over.used_up in (
        e,
        omega (arith, e, settled_push book.phases phase, used, given, h.within),
        (length book.phases, phase_as phase, stands phase (Budget settled) (length book.phases) refl from, (over.pair, free_in phase over.pair over.left)),
      )
  has_stopped phase (BasisFull number i k) from (e, full, less) =
      let at_limit = subst (λ limit. IsBasisFull limit phase (pair_of i k)) j.limit full in
      (phase_as phase, stands phase (BasisFull number i k) number e from, full_in phase (pair_of i k) at_limit, free_in phase (pair_of i k) at_limit.left, less_settled phase less)

  stopped_here : {upto : Option ℕ} (phase : Phase) (stop : BookStop) → IsPhaseOf job phase → IsPhaseStop job (length book.phases) (settled_of (book.phases ++ phase ∷ [])) phase stop →
      Solves (lattice_with rows w) budget upto (Err Stopped) (stopped_at book phase stop)
  stopped_here phase stop from cause = record {
    input = h.input;
    settled = within_more phase from;
    bases = bases_kept w (stopped_at book phase stop) (kept_more phase from) h.reduced;
    ends = (stop, refl, has_stopped phase stop from cause);
  }

  pub stopped_solves : {upto : Option ℕ} (after : Book) → StopsIn job book after → Solves (lattice_with rows w) budget upto (Err Stopped) after
  stopped_solves {upto} after s =
      subst (λ (b : Book). Solves (lattice_with rows w) budget upto (Err Stopped) b) (sym s.kept)
      (stopped_here s.phase s.stop s.from (subst (λ (b : Book). IsPhaseStop job (length book.phases) (settled_of b.phases) s.phase s.stop) s.kept s.cause))
