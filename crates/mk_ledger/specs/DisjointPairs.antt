-- The next pairs, claimed and settled one after another since their leads are disjoint. (Sturmfels, chapter 1: coprime
-- leading terms)
use Rattle.std.specs.Prelude.{◌≡◌, ◌≢◌, ◌⊎◌, ℕ, ◌+◌, ◌<◌, ◌≤◌, List, [], ◌∷◌, ◌++◌, length, map, None}
use Rattle.mk_model.specs.CoreStates.{Pair, CoreState, settle, move_at}
use Rattle.mk_model.specs.CoreStates.Way.{Coprime}
use Rattle.mk_model.specs.Events.{Event, HappenInTurn}
use Rattle.mk_model.specs.Events.Event.{Claims, Settles}
use Rattle.mk_model.specs.Orders.{lead}
use Rattle.mk_model.specs.Pairs.{AreDisjoint}
use Rattle.mk_ledger.specs.PairFlags.{pairs_of, pair_number}
use Rattle.mk_ledger.specs.Ledgers.{number_of}
use Rattle.mk_ledger.specs.HeldClaims.{MayClaim}

-- for each of the pairs, the worker makes a claim and settles it by its disjoint leads
abbrev pub coprime_events : ℕ → List Pair → List Event
coprime_events worker [] = []
coprime_events worker (pair ∷ pairs) = Claims worker ∷ Settles worker Coprime ∷ coprime_events worker pairs

-- their entries end the journal, as many claims more were made, and all else is as before
abbrev pub with_coprime : CoreState → ℕ → List Pair → CoreState
with_coprime state worker pairs =
    record state {
      journal = state.journal ++ map (λ pair. settle worker pair Coprime) pairs;
      claims_made = state.claims_made + length pairs;
    }

-- The worker claims pairs and settles each by its disjoint leads, one after another.
pub record SettlesDisjoint (n : ℕ) (priority : List ℕ) (state : CoreState) (worker : ℕ) (after : CoreState) : Type 0 where
  pub pairs : List Pair
  pub events : HappenInTurn n priority state (coprime_events worker pairs) after
  pub changed : after ≡ with_coprime state worker pairs

-- The pair that is next in their order: two places, the lesser first, and as many pairs come before it as claims were made.
pub record IsNextPair (state : CoreState) (pair : Pair) : Type 0 where
  pub ordered : pair.first < pair.second
  pub number_is : number_of pair ≡ state.claims_made

-- The worker may claim the next pair, which is this one, and its leads are disjoint.
pub record IsNextDisjoint (state : CoreState) (worker : ℕ) (pair : Pair) : Type 0 where
  pub may : MayClaim state worker
  pub ordered : pair.first < pair.second
  pub number_is : number_of pair ≡ state.claims_made
  pub disjoint : AreDisjoint (lead (move_at state.basis pair.first)) (lead (move_at state.basis pair.second))

-- no pair was claimed behind those that have the second place of the next pair before
abbrev pub StaysInRow : CoreState → CoreState → Type 0
StaysInRow state after = (pair : Pair) → IsNextPair state pair → after.claims_made ≤ pairs_of (pair.second + 1)

-- Of the pairs with the second place of the next pair before, none is left to claim whose leads are disjoint, or a pair whose
-- leads meet comes first.
abbrev pub LeavesNoneInRow : CoreState → ℕ → CoreState → Type 0
LeavesNoneInRow state worker after =
    (pair left : Pair) → IsNextPair state pair → IsNextDisjoint after worker left → left.second ≢ pair.second

-- The pair of these places is the next, or the row ends there. Those of the second with the first places from there on and
-- before the end are of the basis and within the budget, and if there is one, no halt stands. Behind the end there is none
-- that may be claimed.
pub record IsOpenRow (state : CoreState) (first second end : ℕ) : Type 0 where
  pub number_is : pair_number first second ≡ state.claims_made
  pub in_row : first ≤ second
  pub no_halt : first < end → state.first_halted ≡ None
  pub ordered : first < end → end ≤ second
  pub within : first < end → second < length state.basis
  pub budget : first < end → pair_number end second ≤ state.budget
  pub closed : (state.first_halted ≢ None) ⊎ ((length state.basis ≤ second) ⊎ ((state.budget ≤ pair_number end second) ⊎ (second ≤ end)))
