-- What workers that take turns know, and how it stands in the state of the ledger.
use Rattle.std.proofs.Common.{◌≡◌, ℕ, Bool, false, true≢false, IsTrue, List, length, take, Some, ap, sym, ◌∙◌, subst}
use Rattle.std.proofs.lemmas.Option.{same_Some}
use Rattle.std.proofs.lemmas.List.{length-map, take_at}
use Rattle.mk_model.specs.CoreStates.{Pair, Way, claim_of, halt_of, move_at, IsPairOf}
use Rattle.mk_model.specs.Orders.{lead}
use Rattle.mk_model.specs.Pairs.{AreDisjoint}
use Rattle.mk_model.specs.Events.{IsSettling, HaveCommonColumn}
use Rattle.mk_model.proofs.LegalEvents.{cleared_here}
use Rattle.mk_move.specs.MoveLists.{BasisView, vectors_of}
use Rattle.mk_ledger.specs.Ledgers.{LedgerView, IsLedger}
use Rattle.mk_core.specs.GrownBases.{IsLonger}
use Rattle.mk_core.proofs.GrownBases.{not_halted_yet, state_moves, first_seen, second_seen}
use Rattle.mk_drive.specs.declared.seat.TurnStage.TheVariants.{Idle}
use Rattle.mk_drive.specs.Seats.{HasCopy, IsAt}

-- ---- the claim of a worker
pub same_claim : (ledger : LedgerView) (worker : ℕ) (seen : BasisView) (pair other : Pair) → HasCopy ledger worker seen pair → claim_of ledger.state worker ≡ Some other → HasCopy ledger worker seen other
same_claim ledger worker seen pair other h e = subst (HasCopy ledger worker seen) (same_Some pair other (sym h.claimed ∙ e)) h

pub same_common : (ledger : LedgerView) (worker : ℕ) (pair other : Pair) → claim_of ledger.state worker ≡ Some pair → claim_of ledger.state worker ≡ Some other → HaveCommonColumn ledger.state.basis pair → HaveCommonColumn ledger.state.basis other
same_common ledger worker pair other e f common = subst (HaveCommonColumn ledger.state.basis) (same_Some pair other (sym e ∙ f)) common

module _ (ledger : LedgerView) (kept : IsLedger ledger) where
  -- a worker that settled its claim has none, and no halt
  pub settled_idle : (n : ℕ) (priority : List ℕ) (worker : ℕ) (way : Way) (after : LedgerView) → IsSettling n priority ledger.state worker way after.state → IsAt after worker Idle
  settled_idle n priority worker way after h = (
    ap (λ s. claim_of s worker) h.changed ∙ cleared_here ledger.state.claims worker,
    ap (λ s. halt_of s worker) h.changed ∙ not_halted_yet ledger kept worker h.pair h.claimed,
  )

  -- the test of the leads of a pair says no
  pub common_column : (basis : BasisView) → basis ≡ ledger.basis → (pair : Pair) (disjoint : Bool) → disjoint ≡ false →
      (AreDisjoint (lead (move_at (vectors_of basis.moves) pair.first)) (lead (move_at (vectors_of basis.moves) pair.second)) → IsTrue disjoint) → HaveCommonColumn ledger.state.basis pair
  common_column basis e pair disjoint f test d =
      true≢false (sym (test (subst (λ moves. AreDisjoint (lead (move_at moves pair.first)) (lead (move_at moves pair.second))) (kept.moves ∙ ap (λ (b : BasisView). vectors_of b.moves) (sym e)) d)) ∙ f)

-- ---- a copy of the first moves
module _ (ledger : LedgerView) (kept : IsLedger ledger) (seen : BasisView) (longer : IsLonger seen ledger.basis) where
  pub seen_vectors : take (length seen.moves) ledger.state.basis ≡ vectors_of seen.moves
  seen_vectors =
      ap (take (length seen.moves)) (state_moves ledger kept seen longer)
      ∙ take_at (vectors_of seen.moves) (vectors_of longer.more) (length seen.moves) (length-map seen.moves (λ m. m.entries))

  module _ (pair : Pair) (h : IsPairOf (vectors_of seen.moves) pair) where
    pub common_seen : HaveCommonColumn ledger.state.basis pair → HaveCommonColumn (vectors_of seen.moves) pair
    common_seen common = λ d. common (subst (λ v. AreDisjoint (lead v) (lead (move_at ledger.state.basis pair.second))) (sym (first_seen ledger kept seen longer pair h)) (subst (λ v. AreDisjoint (lead (move_at (vectors_of seen.moves) pair.first)) (lead v)) (sym (second_seen ledger kept seen longer pair h)) d))
