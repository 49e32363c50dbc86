-- Vectors of integers, as lists. Columns count from 0. (Sturmfels, "Gröbner Bases and Convex Polytopes", chapter 4)
use Rattle.std.specs.Prelude.{◌≡◌, ℕ, List, [], ◌∷◌, length, map, replicate, get_or, ℤ, pos, ◌+ℤ◌, ◌-ℤ◌, ◌*ℤ◌, neg_ℤ, ◌≤ℤ◌}
use Rattle.std.specs.Int.{int_max}
use Rattle.mk_model.specs.declared.TheConstants.{ENTRY_MAX}

-- the entry of a column, and 0 past the end
abbrev pub entry : List ℤ → ℕ → ℤ
entry x c = get_or x c (pos 0)

abbrev pub zeros : ℕ → List ℤ
zeros n = replicate n (pos 0)

-- entry by entry, with 0 for an entry past the end
unfoldable pub combine : (ℤ → ℤ → ℤ) → List ℤ → List ℤ → List ℤ
combine f [] [] = []
combine f [] (b ∷ y) = f (pos 0) b ∷ combine f [] y
combine f (a ∷ x) [] = f a (pos 0) ∷ combine f x []
combine f (a ∷ x) (b ∷ y) = f a b ∷ combine f x y

unfoldable pub add : List ℤ → List ℤ → List ℤ
add x y = combine ◌+ℤ◌ x y

unfoldable pub subtract : List ℤ → List ℤ → List ℤ
subtract x y = combine ◌-ℤ◌ x y

unfoldable pub negate : List ℤ → List ℤ
negate x = map neg_ℤ x

unfoldable pub scale : ℤ → List ℤ → List ℤ
scale k x = map (λ a. k *ℤ a) x

-- the positive entries of u, and 0 else
unfoldable pub positive_part : List ℤ → List ℤ
positive_part u = map (λ a. int_max a (pos 0)) u

-- the absolute values of the negative entries of u, and 0 else
unfoldable pub negative_part : List ℤ → List ℤ
negative_part u = positive_part (negate u)

-- the product of a grading and a vector
unfoldable pub weight : List ℤ → List ℤ → ℤ
weight [] x = pos 0
weight (k ∷ w) [] = pos 0
weight (k ∷ w) (a ∷ x) = (k *ℤ a) +ℤ weight w x

-- what an entry of a lattice or of a move may be
abbrev pub IsEntry : ℤ → Type 0
IsEntry z = (neg_ℤ ENTRY_MAX ≤ℤ z) × (z ≤ℤ ENTRY_MAX)

-- a nonnegative vector of n columns
pub record IsPoint (n : ℕ) (x : List ℤ) : Type 0 where
  pub columns : length x ≡ n
  pub nonnegative : (c : ℕ) → pos 0 ≤ℤ entry x c
