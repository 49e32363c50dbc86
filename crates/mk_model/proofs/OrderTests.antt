-- A test of the order of vectors, which computes.
use Rattle.std.proofs.Common.{ℕ, Bool, false, ◌||◌, ◌&&◌, List, [], ◌∷◌, ℤ, ◌<ℤ◌, arith}
use Rattle.std.specs.Bool.{Decides}
use Rattle.std.specs.Ordering.{int_eq}
use Rattle.std.specs.Int.Signed.{lt_z}
use Rattle.std.proofs.lemmas.Bool.Decides.{Decides-and, Decides-or, Decides-int_eq}
use Rattle.std.proofs.lemmas.Int.{ints}
use Rattle.mk_model.specs.Vectors.{entry}
use Rattle.mk_model.specs.Orders.{IsBelow}

abbrev pub is_below : List ℕ → List ℤ → List ℤ → Bool
is_below [] x y = false
is_below (c ∷ p) x y = lt_z (entry y c) (entry x c) || (int_eq (entry x c) (entry y c) && is_below p x y)

pub Decides-lt_z : (a b : ℤ) → Decides (lt_z a b) (a <ℤ b)
Decides-lt_z a b = (λ e. grind (arith, ints), λ h. grind (arith, ints))

pub Decides-is_below : (p : List ℕ) (x y : List ℤ) → Decides (is_below p x y) (IsBelow p x y)
Decides-is_below [] x y = (λ e. cc, λ h. absurd h)
Decides-is_below (c ∷ p) x y =
    Decides-or (lt_z (entry y c) (entry x c)) (int_eq (entry x c) (entry y c) && is_below p x y) (Decides-lt_z (entry y c) (entry x c))
    (Decides-and (int_eq (entry x c) (entry y c)) (is_below p x y) (Decides-int_eq (entry x c) (entry y c)) (Decides-is_below p x y))
