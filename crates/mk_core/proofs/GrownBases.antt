-- Bases that have grown since they were copied, and how what a worker has claimed stands in the ledger.
use Rattle.std.proofs.Common.{◌≡◌, ℕ, List, [], ◌++◌, length, Option, None, Some, ap, refl, sym, ◌∙◌, subst, append_assoc}
use Rattle.std.proofs.lemmas.Option.{none-some}
use Rattle.std.proofs.lemmas.List.{append-nil, length-map, map-append}
use Rattle.mk_model.specs.CoreStates.{Pair, OverflowStop, Halt, claim_of, halt_of, move_at, IsPairOf}
use Rattle.mk_model.specs.Events.{IsPairOverflow}
use Rattle.mk_model.proofs.Journals.{first_at-append, second_at-append, IsPairOverflow-append}
use Rattle.mk_move.specs.Moves.{Weighed}
use Rattle.mk_move.specs.MoveLists.{BasisView, vectors_of}
use Rattle.mk_ledger.specs.Ledgers.{LedgerView, IsLedger}
use Rattle.mk_core.specs.GrownBases.{IsLonger}

-- ---- longer bases
pub longer_here : (basis : BasisView) → IsLonger basis basis
longer_here basis = record { priority = refl; grading = refl; more = []; moves = sym (append-nil basis.moves) }

pub longer_same : (basis after : BasisView) → after ≡ basis → IsLonger basis after
longer_same basis after e = subst (IsLonger basis) (sym e) (longer_here basis)

pub longer_then : (first second third : BasisView) → IsLonger first second → IsLonger second third → IsLonger first third
longer_then first second third g h = record {
  priority = h.priority ∙ g.priority;
  grading = h.grading ∙ g.grading;
  more = g.more ++ h.more;
  moves = h.moves ∙ ap (λ moves. moves ++ h.more) g.moves ∙ append_assoc first.moves g.more h.more;
}

pub longer_vectors : (basis longer : BasisView) (h : IsLonger basis longer) → vectors_of longer.moves ≡ vectors_of basis.moves ++ vectors_of h.more
longer_vectors basis longer h = ap vectors_of h.moves ∙ map-append (λ (m : Weighed). m.entries) basis.moves h.more

-- ---- the claim of a worker
module _ (ledger : LedgerView) (kept : IsLedger ledger) where
  pub as_many : length ledger.state.basis ≡ length ledger.basis.moves
  as_many = ap length kept.moves ∙ length-map ledger.basis.moves (λ m. m.entries)

  pub claim_of_basis : (worker : ℕ) (pair : Pair) → claim_of ledger.state worker ≡ Some pair → IsPairOf (vectors_of ledger.basis.moves) pair
  claim_of_basis worker pair e = subst (λ moves. IsPairOf moves pair) kept.moves ((kept.legal.claims_unsettled worker pair e).0)

  -- a worker that has a claim has no halt
  pub not_halted_yet : (worker : ℕ) (pair : Pair) → claim_of ledger.state worker ≡ Some pair → halt_of ledger.state worker ≡ None
  not_halted_yet worker pair claimed = go (halt_of ledger.state worker) refl
    where
      go : (halt : Option Halt) → halt_of ledger.state worker ≡ halt → halt ≡ None
      go None e = refl
      go (Some halt) e = absurd (none-some pair (sym (kept.legal.halted_without_claim worker halt e) ∙ claimed))

-- ---- a copy of the first moves
module _ (ledger : LedgerView) (kept : IsLedger ledger) (seen : BasisView) (longer : IsLonger seen ledger.basis) where
  pub state_moves : ledger.state.basis ≡ vectors_of seen.moves ++ vectors_of longer.more
  state_moves = kept.moves ∙ longer_vectors seen ledger.basis longer

  module _ (pair : Pair) (h : IsPairOf (vectors_of seen.moves) pair) where
    pub first_seen : move_at ledger.state.basis pair.first ≡ move_at (vectors_of seen.moves) pair.first
    first_seen = ap (λ moves. move_at moves pair.first) state_moves ∙ first_at-append (vectors_of seen.moves) (vectors_of longer.more) pair h

    pub second_seen : move_at ledger.state.basis pair.second ≡ move_at (vectors_of seen.moves) pair.second
    second_seen = ap (λ moves. move_at moves pair.second) state_moves ∙ second_at-append (vectors_of seen.moves) (vectors_of longer.more) pair h

  pub overflow_whole : (stop : OverflowStop) → IsPairOf (vectors_of seen.moves) stop.pair → IsPairOverflow (vectors_of seen.moves) stop → IsPairOverflow ledger.state.basis stop
  overflow_whole stop h overflow =
      subst (λ moves. IsPairOverflow moves stop) (sym state_moves) (IsPairOverflow-append (vectors_of seen.moves) (vectors_of longer.more) stop h overflow)
