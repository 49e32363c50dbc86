-- Two or three sizes of a model.
use Rattle.std.proofs.Common.{ℕ, ◌*◌, ◌≤◌, [], ◌∷◌, arith}
use Rattle.std.proofs.Math.Nat.{mul-le-mul}
use Rattle.std.proofs.lemmas.List.Elements.{All-nil, All-cons}
use Rattle.mk_gen.specs.Models.{AreModelSizes, cells}

abbrev IsSize : ℕ → Type 0
IsSize n = (2 ≤ n) × (n ≤ 16)

pub two_sizes : (a b : ℕ) → 2 ≤ a → a ≤ 16 → 2 ≤ b → b ≤ 16 → AreModelSizes (a ∷ b ∷ [])
unfolding cells
two_sizes a b h i j k =
    let product : a * b ≤ 16 * 16 = mul-le-mul i k in
    record {
      some = omega arith;
      few = omega arith;
      each = All-cons IsSize a (b ∷ []) (h, i) (All-cons IsSize b [] (j, k) (All-nil IsSize));
      cells_few = omega (arith, product);
    }

pub three_sizes : (a b c : ℕ) → 2 ≤ a → a ≤ 16 → 2 ≤ b → b ≤ 16 → 2 ≤ c → c ≤ 16 → a * (b * c) ≤ 512 → AreModelSizes (a ∷ b ∷ c ∷ [])
unfolding cells
three_sizes a b c h i j k l m few =
    record {
      some = omega arith;
      few = omega arith;
      each = All-cons IsSize a (b ∷ c ∷ []) (h, i) (All-cons IsSize b (c ∷ []) (j, k) (All-cons IsSize c [] (l, m) (All-nil IsSize)));
      cells_few = omega (arith, few);
    }
