-- What a token writes.
use Rattle.std.specs.Prelude.{ℕ, ◌==◌, if◌then◌else◌, List, [], ◌∷◌, ℤ}
use Rattle.mk_model.specs.Tables.{IsNumber}
use Rattle.mk_model.specs.Overflows.{IsBeyond}

-- a token with no plus in front
abbrev pub without_plus : List ℕ → List ℕ
without_plus [] = []
without_plus (b ∷ token) = if b == 43 then token else b ∷ token

-- a number that no entry may be
abbrev pub NumberBeyond : List ℕ → Type 0
NumberBeyond token = (z : ℤ) × IsNumber token z × IsBeyond z
