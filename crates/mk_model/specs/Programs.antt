-- A worker's program, line by line, and turns of several workers. (Sturmfels, chapter 1: Buchberger's algorithm, with the
-- pairs that needn't be reduced. The workers are this project's own.)
use Rattle.std.specs.Prelude.{◌≡◌, ◌≢◌, ◌⊎◌, ℕ, ◌+◌, ◌<◌, ◌≤◌, List, [], ◌∷◌, ◌++◌, length, get_or, set, take, None, Some, ℤ}
use Rattle.mk_model.specs.Vectors.{zeros, negate}
use Rattle.mk_model.specs.Orders.{lead}
use Rattle.mk_model.specs.Reductions.{lcm, Divides, Reduct, IsNormal}
use Rattle.mk_model.specs.CoreStates.{Pair, OverflowStop, CoreState, claim_of, move_at, difference, IsPairOf, IsSettled, IsFree}
use Rattle.mk_model.specs.CoreStates.Way.{Coprime, Chain, Zero, Place}
use Rattle.mk_model.specs.CoreStates.Halt.{Overflow, Full}
use Rattle.mk_model.specs.Events.{AreSettled, IsClaim, IsSettling, IsHalting, HaveCommonColumn, IsPairOverflow}
use Rattle.mk_model.specs.Legal.{IsEnded}

-- At what a worker is. Idle: it has no claim. From Fresh to Stopping it has one. Fresh: it hasn't copied the basis yet.
-- Tests: its copy has so many of the first moves; third moves are looked for from a place on, and so many were tried. Ready:
-- the pair is to be reduced by a copy of so many moves. Reduced: so much is left, by so many moves. Stale: so much is left, by
-- fewer moves than the basis has. Stopping: an entry leaves the range. Gone: it does nothing more.
pub data Stage : Type 0 where
  Idle : Stage
  Fresh : Stage
  Tests : ℕ → ℕ → ℕ → Stage
  Ready : ℕ → Stage
  Reduced : ℕ → List ℤ → Stage
  Stale : List ℤ → Stage
  Stopping : OverflowStop → Stage
  Gone : Stage

-- ---- idle
-- No halt stands, a pair of the basis isn't settled, and each such pair is claimed.
pub record IsWaiting (state : CoreState) : Type 0 where
  pub no_halt : state.first_halted ≡ None
  pub pair : Pair
  pub of_basis : IsPairOf state.basis pair
  pub unsettled : ¬ (IsSettled state.journal pair)
  pub none_free : (other : Pair) → ¬ (IsFree state other)

-- as many claims were made as the budget has, and a pair is free
pub record IsOverBudget (state : CoreState) : Type 0 where
  pub used_up : state.claims_made ≡ state.budget
  pub pair : Pair
  pub free : IsFree state pair

-- a halt stands, or every pair is settled, or the budget is used up
abbrev pub IsOver : CoreState → Type 0
IsOver state = (state.first_halted ≢ None) ⊎ (IsEnded state ⊎ IsOverBudget state)

-- It claims a pair; or it waits; or it is gone.
abbrev pub IsIdleLine : CoreState → ℕ → CoreState → Stage → Type 0
IsIdleLine state worker after next =
    (IsClaim state worker after × (next ≡ Fresh))
    ⊎ ((after ≡ state) × ((IsWaiting state × (next ≡ Idle)) ⊎ (IsOver state × (next ≡ Gone))))

-- ---- tests
-- a move from a place on, another than the two of the pair, whose lead divides the least common multiple of their leads
pub record IsCandidate (moves : List (List ℤ)) (pair : Pair) (from third : ℕ) : Type 0 where
  pub from_on : from ≤ third
  pub within : third < length moves
  pub not_first : third ≢ pair.first
  pub not_second : third ≢ pair.second
  pub divides : Divides (lead (move_at moves third)) (lcm (lead (move_at moves pair.first)) (lead (move_at moves pair.second)))

-- the least of them
pub record IsNextCandidate (moves : List (List ℤ)) (pair : Pair) (from third : ℕ) : Type 0 where
  pub candidate : IsCandidate moves pair from third
  pub least : (other : ℕ) → other < third → ¬ (IsCandidate moves pair from other)

-- The claim is settled through the third move; or one of its pairs isn't settled, and the search goes on behind it.
abbrev pub IsTried : ℕ → List ℕ → CoreState → ℕ → Pair → ℕ → ℕ → ℕ → CoreState → Stage → Type 0
IsTried n priority state worker pair seen third tried after next =
    (IsSettling n priority state worker (Chain third) after × (next ≡ Idle))
    ⊎ ((¬ (AreSettled state.journal pair.first third × AreSettled state.journal pair.second third)) × (after ≡ state)
    × (next ≡ Tests seen (third + 1) (tried + 1)))

-- the next candidate is tried, where fewer than eight were
pub record TriesNext (n : ℕ) (priority : List ℕ) (state : CoreState) (worker : ℕ) (pair : Pair) (seen from tried : ℕ) (after : CoreState)
    (next : Stage) : Type 0 where
  pub few : tried < 8
  pub third : ℕ
  pub found : IsNextCandidate (take seen state.basis) pair from third
  pub answer : IsTried n priority state worker pair seen third tried after next

-- eight candidates were tried, or no other is left
abbrev pub NoneIsLeft : List (List ℤ) → Pair → ℕ → ℕ → Type 0
NoneIsLeft moves pair from tried = (8 ≤ tried) ⊎ ((third : ℕ) → ¬ (IsCandidate moves pair from third))

-- the next candidate is tried; or none is left, and the pair is ready
abbrev pub IsSearch : ℕ → List ℕ → CoreState → ℕ → Pair → ℕ → ℕ → ℕ → CoreState → Stage → Type 0
IsSearch n priority state worker pair seen from tried after next =
    TriesNext n priority state worker pair seen from tried after next
    ⊎ (NoneIsLeft (take seen state.basis) pair from tried × (after ≡ state) × (next ≡ Ready seen))

-- the claim is settled by disjoint leads; or else third moves are looked for
abbrev pub IsTest : ℕ → List ℕ → CoreState → ℕ → Pair → ℕ → ℕ → ℕ → CoreState → Stage → Type 0
IsTest n priority state worker pair seen from tried after next =
    (IsSettling n priority state worker Coprime after × (next ≡ Idle))
    ⊎ (HaveCommonColumn state.basis pair × IsSearch n priority state worker pair seen from tried after next)

-- the pair of the claim is tested
pub record IsTestsLine (n : ℕ) (priority : List ℕ) (state : CoreState) (worker seen from tried : ℕ) (after : CoreState)
    (next : Stage) : Type 0 where
  pub pair : Pair
  pub claimed : claim_of state worker ≡ Some pair
  pub test : IsTest n priority state worker pair seen from tried after next

-- ---- ready and stale
-- a reduct of the vector, which is zero or normal
pub record IsReducedTo (n : ℕ) (moves : List (List ℤ)) (from left : List ℤ) : Type 0 where
  pub reduct : Reduct moves from left
  pub reduced : (left ≡ zeros n) ⊎ IsNormal moves left

-- so much is left, by so many moves; or an entry leaves the range
abbrev pub ReducesTo : ℕ → List (List ℤ) → ℕ → Pair → List ℤ → Stage → Type 0
ReducesTo n moves seen pair from next =
    ((left : List ℤ) × IsReducedTo n moves from left × (next ≡ Reduced seen left))
    ⊎ ((stop : OverflowStop) × (stop.pair ≡ pair) × IsPairOverflow moves stop × (next ≡ Stopping stop))

-- Nothing changes but the stage: the vector of the claimed pair is reduced by the moves, so many.
pub record IsReducingLine (n : ℕ) (state : CoreState) (worker : ℕ) (moves : List (List ℤ)) (seen : ℕ) (from : Pair → List ℤ)
    (after : CoreState) (next : Stage) : Type 0 where
  pub pair : Pair
  pub claimed : claim_of state worker ≡ Some pair
  pub same : after ≡ state
  pub reduces : ReducesTo n moves seen pair (from pair) next

-- ---- reduced
-- the claim is settled by a move that is what is left or its negative
pub record PlacesWhatIsLeft (n : ℕ) (priority : List ℕ) (state : CoreState) (worker : ℕ) (left : List ℤ) (after : CoreState) : Type 0 where
  pub settling : IsSettling n priority state worker (Place (length state.basis)) after
  pub move : List ℤ
  pub sign : (move ≡ left) ⊎ (move ≡ negate left)
  pub placed : after.basis ≡ state.basis ++ move ∷ []

-- The whole basis reduced it: its move is placed; or there is no room for it, and the worker halts.
abbrev pub IsWholeLine : ℕ → List ℕ → CoreState → ℕ → List ℤ → CoreState → Stage → Type 0
IsWholeLine n priority state worker left after next =
    (PlacesWhatIsLeft n priority state worker left after × (next ≡ Idle))
    ⊎ (((pair : Pair) × IsHalting state worker (Full pair) after) × (next ≡ Gone))

-- Zero settles the claim; what isn't zero is stale where the basis has grown.
abbrev pub IsReducedLine : ℕ → List ℕ → CoreState → ℕ → ℕ → List ℤ → CoreState → Stage → Type 0
IsReducedLine n priority state worker seen left after next =
    ((left ≡ zeros n) × IsSettling n priority state worker Zero after × (next ≡ Idle))
    ⊎ ((left ≢ zeros n)
    × (((seen < length state.basis) × (after ≡ state) × (next ≡ Stale left))
    ⊎ ((seen ≡ length state.basis) × IsWholeLine n priority state worker left after next)))

-- ---- one line, and one after another
-- from a stage of the worker, the state and the stage afterwards
abbrev pub IsProgramLine : ℕ → List ℕ → CoreState → ℕ → Stage → CoreState → Stage → Type 0
IsProgramLine n priority state worker Idle after next = IsIdleLine state worker after next
IsProgramLine n priority state worker Fresh after next = (after ≡ state) × (next ≡ Tests (length state.basis) 0 0)
IsProgramLine n priority state worker (Tests seen from tried) after next = IsTestsLine n priority state worker seen from tried after next
IsProgramLine n priority state worker (Ready seen) after next =
    IsReducingLine n state worker (take seen state.basis) seen (difference (take seen state.basis)) after next
IsProgramLine n priority state worker (Reduced seen left) after next = IsReducedLine n priority state worker seen left after next
IsProgramLine n priority state worker (Stale left) after next =
    IsReducingLine n state worker state.basis (length state.basis) (λ pair. left) after next
IsProgramLine n priority state worker (Stopping stop) after next = IsHalting state worker (Overflow stop) after × (next ≡ Gone)
IsProgramLine n priority state worker Gone after next = (after ≡ state) × (next ≡ Gone)

-- The stages stand at the workers' numbers. Each turn names a worker, which takes its line; the other stages stay.
abbrev pub Drives : ℕ → List ℕ → CoreState → List Stage → List ℕ → CoreState → List Stage → Type 0
Drives n priority state stages [] after last = (after ≡ state) × (last ≡ stages)
Drives n priority state stages (worker ∷ turns) after last =
    (middle : CoreState) × (next : Stage) × IsProgramLine n priority state worker (get_or stages worker Gone) middle next
    × Drives n priority middle (set stages worker next) turns after last
