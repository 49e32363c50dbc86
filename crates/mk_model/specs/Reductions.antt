-- Steps down and reduction by a list of moves. (Sturmfels, chapters 1 and 5: leading terms, reduction, normal forms)
use Rattle.std.specs.Prelude.{◌≡◌, ◌⊎◌, ℕ, ◌≤◌, false, List, Contains, ℤ, pos, ◌≤ℤ◌}
use Rattle.std.specs.Int.{int_max}
use Rattle.mk_model.specs.Vectors.{entry, combine, add, subtract, scale, positive_part, negative_part}
use Rattle.mk_model.specs.Lattices.{is_zero}
use Rattle.mk_model.specs.Orders.{lead}

-- the least common multiple: the larger entry, column by column
unfoldable pub lcm : List ℤ → List ℤ → List ℤ
lcm x y = combine int_max x y

-- no entry of x exceeds that of y
pub record Divides (x y : List ℤ) : Type 0 where
  pub entries : (c : ℕ) → entry x c ≤ℤ entry y c

-- any number of steps lead from x to y
pub data Reaches (next : List ℤ → List ℤ → Type 0) : List ℤ → List ℤ → Type 0 where
  here : {x : List ℤ} → Reaches next x x
  go : {x y z : List ℤ} → next x y → Reaches next y z → Reaches next x z

-- y is one step down from x: x minus a move of the list whose lead divides x
pub record IsDescent (moves : List (List ℤ)) (x y : List ℤ) : Type 0 where
  pub move : List ℤ
  pub member : Contains moves move
  pub divides : Divides (lead move) x
  pub below : y ≡ subtract x move

-- steps down lead from x and from y to one vector
pub record Meet (moves : List (List ℤ)) (x y : List ℤ) : Type 0 where
  pub common : List ℤ
  pub from_first : Reaches (IsDescent moves) x common
  pub from_second : Reaches (IsDescent moves) y common

-- One step of reduction: r minus some times a move, where so many times its lead divides the positive part of r, or
-- r plus them, where it divides the negative part.
pub record IsReduction (moves : List (List ℤ)) (r reduced : List ℤ) : Type 0 where
  pub move : List ℤ
  pub member : Contains moves move
  pub times : ℕ
  pub some : 1 ≤ times
  pub taken_off : (Divides (scale (pos times) (lead move)) (positive_part r) × (reduced ≡ subtract r (scale (pos times) move)))
      ⊎ (Divides (scale (pos times) (lead move)) (negative_part r) × (reduced ≡ add r (scale (pos times) move)))

-- any number of steps of reduction lead from r to the other vector
abbrev pub Reduct : List (List ℤ) → List ℤ → List ℤ → Type 0
Reduct moves r reduced = Reaches (IsReduction moves) r reduced

-- no lead divides x: there is no step down from it
abbrev pub IsIrreducible : List (List ℤ) → List ℤ → Type 0
IsIrreducible moves x = (v : List ℤ) → Contains moves v → ¬ (Divides (lead v) x)

-- r is not zero, and no lead divides its positive part or its negative part
pub record IsNormal (moves : List (List ℤ)) (r : List ℤ) : Type 0 where
  pub not_zero : is_zero r ≡ false
  pub positive : IsIrreducible moves (positive_part r)
  pub negative : IsIrreducible moves (negative_part r)

-- One step of reduction of the negative part alone: r plus some times a move, where so many times its lead divides that part.
pub record IsTailReduction (moves : List (List ℤ)) (r reduced : List ℤ) : Type 0 where
  pub move : List ℤ
  pub member : Contains moves move
  pub times : ℕ
  pub some : 1 ≤ times
  pub divides : Divides (scale (pos times) (lead move)) (negative_part r)
  pub added : reduced ≡ add r (scale (pos times) move)

-- any number of such steps lead from r to the other vector
abbrev pub TailReduct : List (List ℤ) → List ℤ → List ℤ → Type 0
TailReduct moves r reduced = Reaches (IsTailReduction moves) r reduced
