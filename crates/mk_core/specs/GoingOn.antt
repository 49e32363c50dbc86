-- How a completion by one worker goes on from a ledger to a later one, and where it ends.
use Rattle.std.specs.Prelude.{◌≡◌, ◌≢◌, ℕ, ◌≤◌, ◌<◌, Bool, true, false, List, ◌++◌, length, All, Option, None, Some, ℤ}
use Rattle.mk_model.specs.CoreStates.{Pair, Settle, CoreState, claim_of, start_of, IsFree}
use Rattle.mk_model.specs.Events.{IsChain, HaveCommonColumn}
use Rattle.mk_model.specs.Legal.{IsEnded}
use Rattle.mk_move.specs.MoveLists.{BasisView}
use Rattle.mk_reduce.specs.Leads.{leads_of}
use Rattle.mk_journal.specs.Entries.{settles_of, HaveTheirThirds}
use Rattle.mk_ledger.specs.Ledgers.{LedgerView, IsLedger}
use Rattle.mk_core.specs.declared.phase.Phase.{Phase}
use Rattle.mk_core.specs.Phases.{IsByFirst, IsHaltedOrWithin}
use Rattle.mk_core.specs.declared.completion.Ending.{Ending}
use Rattle.mk_core.specs.declared.completion.Ending.TheVariants.{Ended, OverBudget, Halted}

-- The later ledger has the same list, grading, start, budget and limit, and no fewer claims were made; its journal goes on
-- from the earlier one's with entries of the first worker. Where a halt stood, all is as before; where one stands that is
-- new, fewer pairs are settled than the budget has.
pub record ContinuesLedger (before after : LedgerView) : Type 0 where
  pub priority : after.basis.priority ≡ before.basis.priority
  pub grading : after.basis.grading ≡ before.basis.grading
  pub start_length : after.state.start_length ≡ before.state.start_length
  pub start : start_of after.state ≡ start_of before.state
  pub budget : after.state.budget ≡ before.state.budget
  pub limit : after.state.limit ≡ before.state.limit
  pub made : before.state.claims_made ≤ after.state.claims_made
  pub more : List Settle
  pub journal : after.state.journal ≡ before.state.journal ++ more
  pub by_first : All IsByFirst more
  pub stays : before.state.first_halted ≢ None → after ≡ before
  pub halts_within : after.state.first_halted ≢ None → IsHaltedOrWithin before (length after.state.journal)

-- the leads that a finder has, where it is made, are those of the moves of the basis
abbrev pub AreLeadsOnceMade : Option (List (List ℤ)) → BasisView → Type 0
AreLeadsOnceMade None basis = Unit {0}
AreLeadsOnceMade (Some leads) basis = leads ≡ leads_of basis.moves

-- no worker has a claim
abbrev pub NoneClaims : CoreState → Type 0
NoneClaims state = (worker : ℕ) → claim_of state worker ≡ None

-- the pair is the claim of the first worker, no other has one, and no halt stands
pub record FirstClaims (state : CoreState) (pair : Pair) : Type 0 where
  pub no_halt : state.first_halted ≡ None
  pub claimed : claim_of state 0 ≡ Some pair
  pub others : (worker : ℕ) → ¬ (worker ≡ 0) → claim_of state worker ≡ None

-- it goes on, and no worker has a claim
pub record GoesOnUnclaimed (before after : LedgerView) : Type 0 where
  pub goes_on : ContinuesLedger before after
  pub unclaimed : NoneClaims after.state

-- A pair that the first worker has claimed is skipped, and no worker has a claim; or all is as before, and the leads of the
-- pair have a column in common.
abbrev pub SkipsPair : LedgerView → Pair → Bool → LedgerView → Type 0
SkipsPair before pair true after = GoesOnUnclaimed before after × (after.basis ≡ before.basis)
SkipsPair before pair false after = (after ≡ before) × HaveCommonColumn before.state.basis pair

-- a third move settles the pair that the first worker, and no other, has claimed
pub record IsChainOfClaim (state : CoreState) (third : ℕ) : Type 0 where
  pub pair : Pair
  pub claims : FirstClaims state pair
  pub chain : IsChain state.basis state.journal pair third

-- The first worker is given a pair, where no worker had one, and one claim more is made, within the budget.
pub record IsPairGiven (before after : LedgerView) (pair : Pair) : Type 0 where
  pub goes_on : ContinuesLedger before after
  pub basis : after.basis ≡ before.basis
  pub claims : FirstClaims after.state pair
  pub made : before.state.claims_made < after.state.claims_made
  pub within_budget : before.state.claims_made < before.state.budget

-- every pair is settled; or as many as the budget has, while a pair is left; or a worker halted
abbrev pub EndsBy : CoreState → Ending → Type 0
EndsBy state Ended = (state.first_halted ≡ None) × IsEnded state
EndsBy state OverBudget = (state.first_halted ≡ None) × (length state.journal ≡ state.budget) × ((pair : Pair) × IsFree state pair)
EndsBy state Halted = state.first_halted ≢ None

-- the phase has what the ledger has
pub record IsPhaseOfLedger (ledger : LedgerView) (phase : Phase) : Type 0 where
  pub start_length : phase.start_len ≡ ledger.state.start_length
  pub basis : phase.basis ≡ ledger.basis
  pub journal : settles_of phase.journal ≡ ledger.state.journal
  pub thirds : HaveTheirThirds phase.journal
  pub kept : IsLedger ledger
