-- Places whose masks have a bit in common with that of another place, and masks that lie within others.
use Rattle.std.specs.Prelude.{◌≡◌, ◌≢◌, ℕ, ◌<◌, ◌≤◌, List, get_or, length, Option, None, Some, All, Contains, HoldsAt}
use Rattle.std.specs.Int.{w64, bit_not}
use Rattle.std.specs.Int.RustNames.{bit_and}
use Rattle.mk_model.specs.CoreStates.{Pair, CoreState}
use Rattle.mk_model.specs.Events.{IsChain}
use Rattle.mk_core.specs.declared.third_moves.Candidate.{Candidate}

-- each bit of the mask is one of the other's
abbrev pub IsMaskWithin : ℕ → ℕ → Type 0
IsMaskWithin other mask = bit_and mask (bit_not w64 other) ≡ 0

-- a place with its mask
abbrev pub candidate_at : List ℕ → ℕ → Candidate
candidate_at all place = record { place = place; mask = get_or all place 0 }

-- The candidates have their masks, and each place before an end is one whose mask has a bit in common with that of the second.
pub record AreNeighboursBelow (all : List ℕ) (second end : ℕ) (candidates : List Candidate) : Type 0 where
  pub all_listed : (place : ℕ) → place < end → bit_and (get_or all place 0) (get_or all second 0) ≢ 0 → Contains candidates (candidate_at all place)
  pub masks : All (λ one. one.mask ≡ get_or all one.place 0) candidates

-- the divisor of a place is the first one before it whose mask lies within its mask, if there is one
abbrev pub IsDivisorOf : List ℕ → ℕ → Option ℕ → Type 0
IsDivisorOf all place None = (other : ℕ) → other < place → ¬ (IsMaskWithin (get_or all place 0) (get_or all other 0))
IsDivisorOf all place (Some divisor) =
    (divisor < place) × IsMaskWithin (get_or all place 0) (get_or all divisor 0)
    × ((other : ℕ) → other < divisor → ¬ (IsMaskWithin (get_or all place 0) (get_or all other 0)))

-- the divisors from one place on and below another
abbrev pub AreDivisorsBetween : List ℕ → ℕ → ℕ → List (Option ℕ) → Type 0
AreDivisorsBetween all from end divisors = (place : ℕ) → from ≤ place → place < end → IsDivisorOf all place (get_or divisors place None)

-- the candidate at this index settles the pair as its third move
abbrev pub IsServingAt : CoreState → Pair → List Candidate → ℕ → Type 0
IsServingAt state pair candidates at =
    (at < length candidates) × HoldsAt (λ (one : Candidate). IsChain state.basis state.journal pair one.place) candidates at
