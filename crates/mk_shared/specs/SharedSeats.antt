-- What a worker of a shared completion knows and has, and what one turn of it leaves.
use Rattle.std.specs.Prelude.{◌≡◌, ◌≢◌, ℕ, ◌+◌, ◌<◌, ◌≤◌, Bool, false, [], ◌∷◌, ◌++◌, length, take, IfSome, None, Some}
use mathlib.Core.Option.{some}
use lib.ListN.{get_elem?}
use Rattle.atomic_table.specs.Seated.{TableId}
use Rattle.mk_model.specs.CoreStates.{Pair, Way, Settle, settle, Halt, move_at, IsPairOf}
use Rattle.mk_model.specs.CoreStates.Halt.{Overflow, Full, Memory}
use Rattle.mk_model.specs.Events.{IsPairOverflow}
use Rattle.mk_model.specs.Orders.{lead}
use Rattle.mk_model.specs.Pairs.{AreDisjoint}
use Rattle.mk_model.specs.Reductions.{IsNormal}
use Rattle.mk_move.specs.Chains.{DividesBetween}
use Rattle.mk_move.specs.Moves.{Weighed}
use Rattle.mk_move.specs.MoveLists.{BasisView, vectors_of}
use Rattle.mk_reduce.specs.Works.{TheWork, WorkOf}
use Rattle.mk_ledger.specs.declared.claims.Claim.{Claim}
use Rattle.mk_ledger.specs.Claims.{AnswersClaim}
use Rattle.mk_ledger.specs.Ledgers.{LedgerView, IsLedger}
use Rattle.mk_turn.specs.Meanings.{BeginsWith}
use Rattle.mk_turn.specs.Turns.{Knows, took, missed}
use Rattle.mk_turn.specs.declared.view.View.{View}
use Rattle.mk_shared.specs.declared.state.Outset.{Outset}
use Rattle.mk_shared.specs.LedgerTurns.{ledger_meaning, StaysTrue}

-- what a seat at a ledger's turn knows
abbrev pub Sight : Type 0
Sight = View LedgerView Pair Settle Weighed Outset LedgerView LedgerView

-- The table that the seat is of, what it knows, its copy of the first moves, whether the last claim that it was answered says
-- that nothing is left for it, and whether it halted.
pub record SeatView : Type 0 where
  pub table : TableId
  pub sight : Sight
  pub copy : BasisView
  pub nothing_left : Bool
  pub halted : Bool

-- What always holds of what a seat knows and of its copy: it hasn't the turn, its copy has the first of the moves that it saw, with the
-- list and the grading that the completion set out with, and its number is that of a worker.
pub record AgreesWithCopy (sight : Sight) (copy : BasisView) : Type 0 where
  pub no_turn : sight.taken ≡ None
  pub not_raised : sight.raised ≡ false
  pub first_moves : BeginsWith sight.seen copy.moves
  pub known : length copy.moves ≤ sight.known
  pub outset : Outset
  pub set_out : sight.fixed ≡ Some outset
  pub workers : outset.workers ≡ sight.seats
  pub priority : copy.priority ≡ outset.job.start.priority
  pub grading : copy.grading ≡ outset.job.start.grading
  pub within : sight.number < sight.seats
  pub made_within : sight.made ≤ sight.seats

abbrev pub IsSeat : SeatView → Type 0
IsSeat seat = AgreesWithCopy seat.sight seat.copy

-- ---- what a seat does, by its claim and its copy alone
-- its claim is the pair, both of whose moves its copy has
pub record HasClaim (seat : SeatView) (pair : Pair) : Type 0 where
  pub claimed : seat.sight.claim ≡ Some pair
  pub of_copy : IsPairOf (vectors_of seat.copy.moves) pair

-- the leads of its claim are disjoint
pub record HasCoprimeClaim (seat : SeatView) : Type 0 where
  pub pair : Pair
  pub claim : HasClaim seat pair
  pub disjoint : AreDisjoint (lead (move_at (vectors_of seat.copy.moves) pair.first))
      (lead (move_at (vectors_of seat.copy.moves) pair.second))

-- a third move, whose lead divides the least common multiple of the leads of its claim
pub record HasThirdMove (seat : SeatView) (third : ℕ) : Type 0 where
  pub pair : Pair
  pub claim : HasClaim seat pair
  pub within : third < length seat.copy.moves
  pub not_first : third ≢ pair.first
  pub not_second : third ≢ pair.second
  pub divides : DividesBetween (vectors_of seat.copy.moves) pair.first pair.second third

-- work on its claim by its copy: nothing is left, or what is left is normal for as many of the first moves as the front says
pub record HasWorkDone (seat : SeatView) (work : TheWork) : Type 0 where
  pub claimed : seat.sight.claim ≡ Some work.pair
  pub done : WorkOf work seat.copy
  pub normal : IfSome work.remainder (λ m. IsNormal (take work.front (vectors_of seat.copy.moves)) m.entries)

-- the cause of a halt by its copy: a genuine overflow at its claim, or want of memory
abbrev pub IsStop : SeatView → Halt → Type 0
IsStop seat (Overflow stop) = HasClaim seat stop.pair × IsPairOverflow (vectors_of seat.copy.moves) stop
IsStop seat (Full pair) = ⊥
IsStop seat Memory = Unit {0}

-- ---- one turn
-- the answer of a ledger that the seat, or one that it joined, gave back unchanged
abbrev pub WasAnswered : Sight → Claim → Type 0
WasAnswered v answer =
    (k : ℕ) × (ledger : LedgerView) × (get_elem? v.notices k ≡ some ledger) × (worker : ℕ)
    × AnswersClaim ledger.state worker answer ledger.state

-- The ledger that a seat took: it is legal, what the seat knows is so, it has as many moves as the seat knows of, and each
-- answer that the seat had is true of it.
pub record IsTurnOf (seat : SeatView) (ledger : LedgerView) : Type 0 where
  pub legal : IsLedger ledger
  pub knows : Knows ledger_meaning ledger seat.sight
  pub known : seat.sight.known ≤ length ledger.basis.moves
  pub answers : (answer : Claim) → WasAnswered seat.sight answer → StaysTrue answer ledger.state

-- The turn was free: this is the ledger, and the sight now has it.
pub record TakesLedger (ledger : LedgerView) (before after : Sight) : Type 0 where
  pub legal : IsLedger ledger
  pub knows : Knows ledger_meaning ledger before
  pub known : before.known ≤ length ledger.basis.moves
  pub taken : after ≡ took ledger_meaning ledger before

-- another seat had the turn: the word that was read is one more than its number
pub record MissesTurn (word : ℕ) (before after : Sight) : Type 0 where
  pub held : 0 < word
  pub of_a_seat : word ≤ before.seats
  pub of_another : word ≢ before.number + 1
  pub missed_once : after ≡ missed ledger_meaning word before

-- the ledger was given back unchanged
abbrev pub after_look : LedgerView → Sight → Sight
after_look ledger v = record v {
  known = length ledger.basis.moves;
  seen = ledger.basis.moves;
  notices = v.notices ++ ledger ∷ [];
  gives = v.gives + 1;
  last = Some ledger;
}

-- it was given back with the pair as the seat's claim
abbrev pub after_claim : LedgerView → Pair → Sight → Sight
after_claim ledger pair v = record v {
  known = length ledger.basis.moves;
  claim = Some pair;
  gives = v.gives + 1;
  last = Some ledger;
}

-- it was given back with one more entry of the seat and no claim
abbrev pub after_settle : LedgerView → Pair → Way → Sight → Sight
after_settle ledger pair way v = record v {
  known = length ledger.basis.moves;
  claim = None;
  entries = v.entries ++ settle v.number pair way ∷ [];
  gives = v.gives + 1;
  last = Some ledger;
}

-- it was given back with one more entry of the seat, no claim, and one more move, which was seen with the others
abbrev pub after_place : LedgerView → Pair → Weighed → Sight → Sight
after_place ledger pair m v = record v {
  known = length ledger.basis.moves + 1;
  claim = None;
  entries = v.entries ++ settle v.number pair (Way.Place (length ledger.basis.moves)) ∷ [];
  seen = ledger.basis.moves ++ m ∷ [];
  gives = v.gives + 1;
  last = Some ledger;
}

-- it was given back with a halt of the seat's number and no claim
abbrev pub after_halt : LedgerView → Sight → Sight
after_halt ledger v = record v {
  known = length ledger.basis.moves;
  claim = None;
  gives = v.gives + 1;
  last = Some ledger;
}
