-- Why the work on a pair of a basis stops, and whose remainder is placed. (Sturmfels, chapters 1 and 5: the remainder of an
-- S-pair)
use Rattle.std.specs.Prelude.{◌≡◌, ℕ, List, Some, ℤ}
use Rattle.mk_model.specs.CoreStates.{Pair, claim_of}
use Rattle.mk_model.specs.Overflows.{IsGenuineOverflow}
use Rattle.mk_move.specs.Moves.{Weighed}
use Rattle.mk_reduce.specs.Remainders.{IsNormalRest}
use Rattle.mk_reduce.specs.declared.remainder.RemainderFault.{RemainderFault}
use Rattle.mk_reduce.specs.declared.remainder.RemainderFault.TheVariants.{Memory as NoMemory, Overflow as OutOfRange}
use Rattle.mk_ledger.specs.Halts.{stop_of}
use Rattle.mk_ledger.specs.Ledgers.{LedgerView}
use Rattle.mk_core.specs.GoingOn.{FirstClaims}
use Rattle.mk_core.specs.declared.work.WorkFault.{WorkFault}
use Rattle.mk_core.specs.declared.work.WorkFault.TheVariants.{Memory, Overflow}

-- why the work on the pair stops. No cause is given for want of memory.
abbrev pub IsWorkFault : List (List ℤ) → Pair → WorkFault → Type 0
IsWorkFault moves pair Memory = Unit {0}
IsWorkFault moves pair (Overflow stop) = ((stop_of stop).pair ≡ pair) × IsGenuineOverflow moves (stop_of stop)

-- the fault where there is no remainder of the pair
abbrev pub fault_for : Pair → RemainderFault → WorkFault
fault_for pair NoMemory = Memory
fault_for pair (OutOfRange by operand at) = Overflow (record { i = pair.first; j = pair.second; by = by; operand = operand; at = at })

-- the remainder of the pair that the first worker, and no other, has claimed
pub record IsRemainderOfClaim (ledger : LedgerView) (m : Weighed) : Type 0 where
  pub pair : Pair
  pub claims : FirstClaims ledger.state pair
  pub rest : IsNormalRest ledger.basis pair m

-- what is left of the worker's claim, reduced by the whole basis
pub record IsRestOfClaim (ledger : LedgerView) (worker : ℕ) (m : Weighed) : Type 0 where
  pub pair : Pair
  pub claimed : claim_of ledger.state worker ≡ Some pair
  pub rest : IsNormalRest ledger.basis pair m
