-- Saturation, column by column, and the list without its redundant moves. (Sturmfels, chapter 12)
use Rattle.std.specs.Prelude.{◌≡◌, ◌⊎◌, ℕ, Bool, true, false, not, ◌&&◌, ◌||◌, ◌==◌, if◌then◌else◌, List, [], ◌∷◌, ◌++◌, Contains, ℤ, pos}
use Rattle.std.specs.Prelude.{AllPairs, int_le}
use Rattle.std.specs.List.{list_all, list_any}
use Rattle.mk_model.specs.Vectors.{entry, add, subtract, negate, IsPoint}
use Rattle.mk_model.specs.Lattices.{InLattice}
use Rattle.mk_model.specs.Walks.{Joined, Members}
use Rattle.mk_model.specs.Orders.{lead}
use Rattle.mk_model.specs.Reductions.{Divides}

-- the entries outside a set of columns are 0
abbrev pub IsSupported : (ℕ → Bool) → List ℤ → Type 0
IsSupported columns t = (c : ℕ) → columns c ≡ false → entry t c ≡ pos 0

abbrev pub every_column : ℕ → Bool
every_column c = true

-- the set without one column
abbrev pub without_column : (ℕ → Bool) → ℕ → ℕ → Bool
without_column columns i c = columns c && not (c == i)

-- the moves join x and y once a nonnegative vector with support in the columns is added to both
pub record JoinedUpTo (n : ℕ) (columns : ℕ → Bool) (moves : List (List ℤ)) (x y : List ℤ) : Type 0 where
  pub added : List ℤ
  pub point : IsPoint n added
  pub supported : IsSupported columns added
  pub joined : Joined n (Members moves) (add x added) (add y added)

-- that, for all nonnegative vectors that differ by the lattice
abbrev pub ConnectedUpTo : ℕ → List (List ℤ) → (ℕ → Bool) → List (List ℤ) → Type 0
ConnectedUpTo n rows columns moves = (x y : List ℤ) → IsPoint n x → IsPoint n y → InLattice n rows (subtract x y) →
    JoinedUpTo n columns moves x y

-- a row that is zero, or a move, or the negative of one
abbrev pub IsSignedRow : List (List ℤ) → List ℤ → Type 0
IsSignedRow moves row = ((c : ℕ) → entry row c ≡ pos 0) ⊎ (Contains moves row ⊎ Contains moves (negate row))

-- does no entry of x exceed that of y
unfoldable pub divides : List ℤ → List ℤ → Bool
divides x y = list_all (λ a. int_le a (pos 0)) (subtract x y)

-- does the lead of v divide that of m
abbrev pub has_divisor : List ℤ → List ℤ → Bool
has_divisor m v = divides (lead v) (lead m)

-- Does another lead divide that of m: one of the moves that stand before it, or one behind it that differs?
abbrev pub is_redundant : List (List ℤ) → List ℤ → List (List ℤ) → Bool
is_redundant before m behind = list_any (has_divisor m) before || list_any (λ v. has_divisor m v && not (has_divisor v m)) behind

-- the moves of the second list that are not redundant, where it stands behind the first
abbrev pub needed : List (List ℤ) → List (List ℤ) → List (List ℤ)
needed before [] = []
needed before (m ∷ behind) =
    if is_redundant before m behind then needed (before ++ m ∷ []) behind
    else m ∷ needed (before ++ m ∷ []) behind

-- the list without its redundant moves
abbrev pub drop_redundant : List (List ℤ) → List (List ℤ)
drop_redundant moves = needed [] moves

-- no lead divides another: none of the moves is redundant
abbrev pub NoneRedundant : List (List ℤ) → Type 0
NoneRedundant moves = AllPairs (λ u v. (¬ (Divides (lead u) (lead v))) × (¬ (Divides (lead v) (lead u)))) moves
