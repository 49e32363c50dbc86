-- What a ledger means to those who change it in turns.
use Rattle.std.specs.Prelude.{◌≡◌, ◌⊎◌, ℕ, List, length, take, filter, ◌==◌, Contains, Some}
use Rattle.mk_model.specs.CoreStates.{Pair, pair_of, Settle, Halt, CoreState, claim_of, halt_of}
use Rattle.mk_model.specs.Events.{Event, Happens}
use Rattle.mk_model.specs.Events.Event.{Claims, Settles, Halts}
use Rattle.mk_model.specs.Legal.{IsEnded}
use Rattle.mk_move.specs.Moves.{Weighed}
use Rattle.mk_ledger.specs.declared.claims.Claim.{Claim}
use Rattle.mk_ledger.specs.declared.claims.Claim.TheVariants.{Claimed, NotYet, Ended, OverBudget, Stopped}
use Rattle.mk_ledger.specs.Claims.{AnswersClaim}
use Rattle.mk_ledger.specs.Ledgers.{LedgerView, IsLedger}
use Rattle.mk_core.specs.GrownBases.{IsLonger}
use Rattle.mk_turn.specs.Meanings.{Meaning}
use Rattle.mk_shared.specs.declared.state.Outset.{Outset}

-- the entries of a worker, in their order
abbrev pub entries_by : ℕ → List Settle → List Settle
entries_by worker journal = filter (λ (entry : Settle). entry.worker == worker) journal

-- the job that a ledger began with, and how many workers it has
abbrev pub outset_of : LedgerView → Outset
outset_of ledger = record {
  job = record {
    start = record ledger.basis { moves = take ledger.state.start_length ledger.basis.moves };
    budget = ledger.state.budget;
    basis_limit = ledger.state.limit;
  };
  workers = ledger.state.workers;
}

-- who claims, settles or halts
abbrev pub acting_worker : Event → ℕ
acting_worker (Claims worker) = worker
acting_worker (Settles worker way) = worker
acting_worker (Halts worker halt) = worker

-- One event of the worker leads from the first legal ledger to the second, whose basis goes on from the first's.
pub record IsEventOf (worker : ℕ) (before after : LedgerView) : Type 0 where
  pub legal : IsLedger before
  pub stays_legal : IsLedger after
  pub event : Event
  pub by : acting_worker event ≡ worker
  pub happens : Happens (length before.basis.grading) before.basis.priority before.state event after.state
  pub longer : IsLonger before.basis after.basis

-- the worker has the pair as its claim, has settled it, or has halted
abbrev pub IsHeldOrLeft : CoreState → ℕ → Pair → Type 0
IsHeldOrLeft state worker pair =
    (claim_of state worker ≡ Some pair)
    ⊎ (((entry : Settle) × Contains state.journal entry × (entry.worker ≡ worker) × (entry.pair ≡ pair))
    ⊎ ((halt : Halt) × (halt_of state worker ≡ Some halt)))

-- what an answer says of each later state
abbrev pub StaysTrue : Claim → CoreState → Type 0
StaysTrue (Claimed i j) later = Unit {0}
StaysTrue Ended later = IsEnded later
StaysTrue (OverBudget made) later = (made ≡ later.claims_made) × (later.claims_made ≡ later.budget)
StaysTrue (Stopped other) later = later.first_halted ≡ Some other
StaysTrue (NotYet other i j) later = IsHeldOrLeft later other (pair_of i j)

-- each answer that the first ledger gives, and that leaves it as it is, is true of the later one
abbrev pub BearsOut : LedgerView → LedgerView → Type 0
BearsOut noticed later = (worker : ℕ) (answer : Claim) → AnswersClaim noticed.state worker answer noticed.state →
    StaysTrue answer later.state

-- Each worker's notice of a ledger is the ledger itself, and a later one bears it out where the answers that it gives are still true.
abbrev pub ledger_meaning : Meaning LedgerView Pair Settle Weighed Outset LedgerView LedgerView
ledger_meaning = record {
  len = λ ledger. length ledger.basis.moves;
  claim = λ worker ledger. claim_of ledger.state worker;
  entries = λ worker ledger. entries_by worker ledger.state.journal;
  grown = λ ledger. ledger.basis.moves;
  fixed = outset_of;
  notice = λ worker ledger. Some ledger;
  bears = BearsOut;
  whole = λ ledger. ledger;
  event = IsEventOf;
}
