-- Sizes that a made table may have.
use Rattle.std.specs.Prelude.{ℕ, ◌*◌, ◌≤◌, List, [], ◌∷◌, length, All}

-- all numbers multiplied
abbrev pub product : List ℕ → ℕ
product [] = 1
product (n ∷ numbers) = n * product numbers

-- two or three numbers from 2 to 16, of a product of at most 512
pub record AreSmallSizes (numbers : List ℕ) : Type 0 where
  pub some : 2 ≤ length numbers
  pub few : length numbers ≤ 3
  pub each : All (λ n. (2 ≤ n) × (n ≤ 16)) numbers
  pub small : product numbers ≤ 512
