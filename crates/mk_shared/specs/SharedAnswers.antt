-- What each call on a shared completion answers, and what is left of the seat that made it.
use Rattle.std.specs.Prelude.{◌≡◌, ◌≢◌, ℕ, ◌+◌, ◌<◌, ◌≤◌, Bool, true, false, length, Option, None, Some, Result, Ok, Err}
use Rattle.mk_model.specs.CoreStates.{Pair, pair_of, Way, CoreState, Halt, new_state, IsPairOf}
use Rattle.mk_model.specs.CoreStates.Way.{Coprime, Chain, Zero, Place}
use Rattle.mk_model.specs.CoreStates.Halt.{Full}
use Rattle.mk_model.specs.Events.{IsSettling, IsHalting, with_halt}
use Rattle.mk_move.specs.Moves.{Weighed, IsRowOriented}
use Rattle.mk_move.specs.MoveLists.{BasisView, vectors_of}
use Rattle.mk_reduce.specs.Works.{TheWork}
use Rattle.mk_ledger.specs.declared.claims.Claim.{Claim}
use Rattle.mk_ledger.specs.declared.claims.Claim.TheVariants as claim
use Rattle.mk_ledger.specs.declared.halt.Halt.{Halt as Kept}
use Rattle.mk_ledger.specs.Claims.{AnswersClaim}
use Rattle.mk_ledger.specs.Halts.{halt_as}
use Rattle.mk_ledger.specs.Ledgers.{LedgerView}
use Rattle.mk_ledger.specs.Settlings.{IsFirstUnsettled, with_placed}
use Rattle.mk_core.specs.GrownBases.{IsLonger}
use Rattle.mk_turn.specs.Turns.{beginning, missed, one_more, newcomer}
use Rattle.mk_core.specs.Jobs.{JobView}
use Rattle.atomic_table.specs.Seated.{TableId}
use Rattle.mk_shared.specs.declared.answers.Busy.{Busy}
use Rattle.mk_shared.specs.declared.answers.RefreshFault.{RefreshFault}
use Rattle.mk_shared.specs.declared.answers.RefreshFault.TheVariants as refresh
use Rattle.mk_shared.specs.declared.answers.SettleFault.{SettleFault}
use Rattle.mk_shared.specs.declared.answers.SettleFault.TheVariants as place
use Rattle.mk_shared.specs.declared.answers.SettledBy.{SettledBy}
use Rattle.mk_shared.specs.declared.answers.SettledBy.TheVariants as by
use Rattle.mk_shared.specs.declared.answers.SplitFault.{SplitFault}
use Rattle.mk_shared.specs.declared.answers.SplitFault.TheVariants as split
use Rattle.mk_shared.specs.declared.answers.TryChainFault.{TryChainFault}
use Rattle.mk_shared.specs.declared.answers.TryChainFault.TheVariants as chain
use Rattle.mk_shared.specs.LedgerTurns.{ledger_meaning}
use Rattle.mk_shared.specs.LedgerSteps.{state_claimed}
use Rattle.mk_shared.specs.SharedSeats.{SeatView, IsTurnOf, WasAnswered, after_look, after_claim, after_settle, after_place, after_halt}

-- Its own step found that another seat had the turn, and read this word, one more than that seat's number; so there are several
-- seats. It counts one more miss, and keeps the word.
pub record IsMissed (before : SeatView) (word : ℕ) (after : SeatView) : Type 0 where
  pub held : 0 < word
  pub of_a_seat : word ≤ before.sight.seats
  pub of_another : word ≢ before.sight.number + 1
  pub several : 1 < before.sight.seats
  pub changed : after ≡ record before { sight = missed ledger_meaning word before.sight }

-- the same, where the answer doesn't carry the word
abbrev pub IsBusy : SeatView → SeatView → Type 0
IsBusy before after = (word : ℕ) × IsMissed before word after

-- the ledger that the seat took was given back unchanged, and only its sight is another
abbrev pub IsLook : SeatView → LedgerView → SeatView → Type 0
IsLook before ledger after = IsTurnOf before ledger × (after ≡ record before { sight = after_look ledger before.sight })

-- ---- claims
-- an answer after which nothing is left for the worker
abbrev pub leaves_nothing : Claim → Bool
leaves_nothing (claim.Claimed i j) = false
leaves_nothing (claim.NotYet other i j) = false
leaves_nothing claim.Ended = true
leaves_nothing (claim.OverBudget made) = true
leaves_nothing (claim.Stopped other) = true

-- the places of the pair that was claimed
abbrev pub claimed_places : Claim → Option (ℕ × ℕ)
claimed_places (claim.Claimed i j) = Some (i, j)
claimed_places answer = None

-- another worker, where one is named that has a claim
abbrev pub NamesAnother : SeatView → Claim → Type 0
NamesAnother seat (claim.NotYet other i j) = (other < seat.sight.seats) × (other ≢ seat.sight.number)
NamesAnother seat answer = Unit {0}

-- the seat after the answer
abbrev pub seat_claimed : LedgerView → Claim → SeatView → SeatView
seat_claimed ledger (claim.Claimed i j) seat = record seat { sight = after_claim ledger (pair_of i j) seat.sight; nothing_left = false }
seat_claimed ledger answer seat = record seat { sight = after_look ledger seat.sight; nothing_left = leaves_nothing answer }

-- the seat had the answer, or the answer is a pair, which is its claim
abbrev pub KeepsAnswer : SeatView → Claim → Type 0
KeepsAnswer seat (claim.Claimed i j) = seat.sight.claim ≡ Some (pair_of i j)
KeepsAnswer seat answer = WasAnswered seat.sight answer

-- The answer is that of the ledger that the seat took, for its number.
pub record IsClaimOf (before : SeatView) (answer : Claim) (after : SeatView) : Type 0 where
  pub ledger : LedgerView
  pub turn : IsTurnOf before ledger
  pub answers : AnswersClaim ledger.state before.sight.number answer (state_claimed ledger.state before.sight.number answer)
  pub another : NamesAnother before answer
  pub changed : after ≡ seat_claimed ledger answer before
  pub keeps : KeepsAnswer after answer

abbrev pub AnswersTryClaim : SeatView → Result Claim Busy → SeatView → Type 0
AnswersTryClaim before (Ok answer) after = IsClaimOf before answer after
AnswersTryClaim before (Err busy) after = IsMissed before busy.word after

-- ---- the copy
-- The copy is the basis of the ledger that the seat took, which has so many moves, those of the seat's claim among them.
pub record IsRefreshed (before : SeatView) (count : ℕ) (after : SeatView) : Type 0 where
  pub ledger : LedgerView
  pub turn : IsTurnOf before ledger
  pub whole : count ≡ length ledger.basis.moves
  pub longer : IsLonger before.copy ledger.basis
  pub claim : (pair : Pair) → before.sight.claim ≡ Some pair → IsPairOf (vectors_of ledger.basis.moves) pair
  pub changed : after ≡ record before { sight = after_look ledger before.sight; copy = ledger.basis }

-- The moves that were copied stay in the copy.
pub record IsRefreshedInPart (before after : SeatView) : Type 0 where
  pub ledger : LedgerView
  pub turn : IsTurnOf before ledger
  pub copy : BasisView
  pub more : IsLonger before.copy copy
  pub part : IsLonger copy ledger.basis
  pub changed : after ≡ record before { sight = after_look ledger before.sight; copy = copy }

abbrev pub AnswersTryRefresh : SeatView → Result ℕ RefreshFault → SeatView → Type 0
AnswersTryRefresh before (Ok count) after = IsRefreshed before count after
AnswersTryRefresh before (Err refresh.Memory) after = IsRefreshedInPart before after
AnswersTryRefresh before (Err refresh.Busy) after = IsBusy before after

-- ---- settles
-- The claim of the seat is settled in this way in the ledger that it took, and the basis is as before.
pub record IsSettledTurn (before : SeatView) (way : Way) (after : SeatView) : Type 0 where
  pub ledger : LedgerView
  pub turn : IsTurnOf before ledger
  pub pair : Pair
  pub claimed : before.sight.claim ≡ Some pair
  pub state : CoreState
  pub settling : IsSettling (length ledger.basis.grading) ledger.basis.priority ledger.state before.sight.number way state
  pub basis : state.basis ≡ ledger.state.basis
  pub changed : after ≡ record before { sight = after_settle ledger pair way before.sight }

-- there was no memory, and the ledger is as before
abbrev pub FindsNoMemory : SeatView → SeatView → Type 0
FindsNoMemory before after = (ledger : LedgerView) × IsLook before ledger after

abbrev pub AnswersTryCoprime : SeatView → Result Unit RefreshFault → SeatView → Type 0
AnswersTryCoprime before (Ok done) after = IsSettledTurn before Coprime after
AnswersTryCoprime before (Err refresh.Memory) after = FindsNoMemory before after
AnswersTryCoprime before (Err refresh.Busy) after = IsBusy before after

-- a pair of the claim and the third move isn't settled in the ledger that the seat took
pub record IsUnsettledTurn (before : SeatView) (third : ℕ) (unsettled : Pair) (after : SeatView) : Type 0 where
  pub ledger : LedgerView
  pub pair : Pair
  pub claimed : before.sight.claim ≡ Some pair
  pub first : IsFirstUnsettled ledger.state.journal pair third unsettled
  pub look : IsLook before ledger after

abbrev pub AnswersTryChain : SeatView → ℕ → Result Unit TryChainFault → SeatView → Type 0
AnswersTryChain before third (Ok done) after = IsSettledTurn before (Chain third) after
AnswersTryChain before third (Err chain.Memory) after = FindsNoMemory before after
AnswersTryChain before third (Err chain.Busy) after = IsBusy before after
AnswersTryChain before third (Err (chain.Unsettled i j)) after = IsUnsettledTurn before third (pair_of i j) after

-- what is left of the work is placed, oriented, behind the last move of the ledger that the seat took
pub record IsPlacedTurn (before : SeatView) (work : TheWork) (place : ℕ) (after : SeatView) : Type 0 where
  pub ledger : LedgerView
  pub turn : IsTurnOf before ledger
  pub rest : Weighed
  pub left : work.remainder ≡ Some rest
  pub whole : work.front ≡ length ledger.basis.moves
  pub at_end : place ≡ length ledger.basis.moves
  pub move : Weighed
  pub oriented : IsRowOriented rest.entries ledger.basis.priority move.entries
  pub weight : move.weight ≡ rest.weight
  pub state : CoreState
  pub settling : IsSettling (length ledger.basis.grading) ledger.basis.priority ledger.state before.sight.number (Place place) state
  pub basis : state.basis ≡ vectors_of (with_placed ledger.basis move).moves
  pub changed : after ≡ record before { sight = after_place ledger work.pair move before.sight }

-- The ledger that the seat took has more moves than what is left was reduced by: so many.
pub record IsBehindTurn (before : SeatView) (work : TheWork) (count : ℕ) (after : SeatView) : Type 0 where
  pub ledger : LedgerView
  pub left : work.remainder ≢ None
  pub stale : work.front < length ledger.basis.moves
  pub whole : count ≡ length ledger.basis.moves
  pub look : IsLook before ledger after

-- The ledger that the seat took has its limit of moves, and the seat halts.
pub record IsFullTurn (before : SeatView) (work : TheWork) (after : SeatView) : Type 0 where
  pub ledger : LedgerView
  pub turn : IsTurnOf before ledger
  pub left : work.remainder ≢ None
  pub whole : work.front ≡ length ledger.basis.moves
  pub full : length ledger.basis.moves ≡ ledger.state.limit
  pub halting : IsHalting ledger.state before.sight.number (Full work.pair) (with_halt ledger.state before.sight.number (Full work.pair))
  pub changed : after ≡ record before { sight = after_halt ledger before.sight; halted = true }

abbrev pub AnswersTrySettle : SeatView → TheWork → Result SettledBy SettleFault → SeatView → Type 0
AnswersTrySettle before work (Ok by.Zero) after = (work.remainder ≡ None) × IsSettledTurn before Zero after
AnswersTrySettle before work (Ok (by.Placed place)) after = IsPlacedTurn before work place after
AnswersTrySettle before work (Err place.Memory) after = FindsNoMemory before after
AnswersTrySettle before work (Err place.Busy) after = IsBusy before after
AnswersTrySettle before work (Err (place.Behind count)) after = IsBehindTurn before work count after
AnswersTrySettle before work (Err place.BasisFull) after = IsFullTurn before work after

-- ---- halts
-- the seat's number has the halt in the ledger that it took and gave back
pub record IsHaltedTurn (before : SeatView) (halt : Halt) (after : SeatView) : Type 0 where
  pub ledger : LedgerView
  pub turn : IsTurnOf before ledger
  pub halting : IsHalting ledger.state before.sight.number halt (with_halt ledger.state before.sight.number halt)
  pub changed : after ≡ record before { sight = after_halt ledger before.sight; halted = true }

abbrev pub AnswersTryStop : SeatView → Kept → Result Unit (Busy × Kept) → SeatView → Type 0
AnswersTryStop before halt (Ok done) after = IsHaltedTurn before (halt_as halt) after
AnswersTryStop before halt (Err refused) after = IsMissed before refused.0.word after × (refused.1 ≡ halt)

-- ---- seats
-- a new seat with the next number and a copy of the first one's copy; or as many seats were made as there are workers
abbrev pub AnswersSplit : SeatView → Result SeatView SplitFault → SeatView → Type 0
AnswersSplit before (Ok made) after =
    (before.sight.made < before.sight.seats) × (after ≡ record before { sight = one_more before.sight })
    × (made ≡ record before { sight = newcomer before.sight; nothing_left = false; halted = false })
AnswersSplit before (Err split.Memory) after = (before.sight.made < before.sight.seats) × (after ≡ before)
AnswersSplit before (Err (split.Seats made)) after = (made ≡ before.sight.made) × (made ≡ before.sight.seats) × (after ≡ before)

-- the ledger that a job begins with, for so many workers
abbrev pub ledger_begun : JobView → ℕ → LedgerView
ledger_begun job workers = record { basis = job.start; state = new_state (vectors_of job.start.moves) job.budget job.basis_limit workers }

-- the first seat of a completion of the job by so many workers: it has a copy of the start, and has done nothing yet
pub record IsFirstSeat (job : JobView) (workers : ℕ) (table : TableId) (seat : SeatView) : Type 0 where
  pub table_of : seat.table ≡ table
  pub sight : seat.sight ≡ beginning ledger_meaning (ledger_begun job workers) workers
  pub outset : seat.sight.fixed ≡ Some (record { job = job; workers = workers })
  pub copy : seat.copy ≡ job.start
  pub nothing_left : seat.nothing_left ≡ false
  pub halted : seat.halted ≡ false

-- The copy has all moves of the basis; or, where memory ran out, more of them than before, or as many.
abbrev pub CopiesWhole : {E : Type 0} → BasisView → BasisView → Result Unit E → BasisView → Type 0
CopiesWhole before basis (Ok done) after = after ≡ basis
CopiesWhole before basis (Err refused) after = IsLonger before after × IsLonger after basis
