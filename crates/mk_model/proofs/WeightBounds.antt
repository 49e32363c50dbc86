-- What is no heavier than something up to a bound is up to it.
use Rattle.std.proofs.Common.{inl, inr, ℕ, List, Option, None, Some, ℤ, ◌≤ℤ◌, arith}
use Rattle.std.proofs.lemmas.Int.{ints}
use Rattle.mk_model.specs.Vectors.{weight}
use Rattle.mk_model.specs.Orders.{lead, ComesBefore}
use Rattle.mk_model.specs.Bases.{IsUpTo}

pub IsUpTo-no_heavier : (upto : Option ℕ) (a b : ℤ) → a ≤ℤ b → IsUpTo upto b → IsUpTo upto a
IsUpTo-no_heavier None a b l h = tt
IsUpTo-no_heavier (Some bound) a b l h = omega (arith, ints, l, h)

-- a move before another is no heavier
pub ComesBefore-no_heavier : (n : ℕ) (w m other : List ℤ) → ComesBefore n w m other → weight w (lead m) ≤ℤ weight w (lead other)
ComesBefore-no_heavier n w m other (inl l) = omega (arith, ints, l)
ComesBefore-no_heavier n w m other (inr (e, _)) = omega (arith, ints, e)
