-- Moves of a graded lattice: their ends, and the weight of these.
use Rattle.std.proofs.Common.{◌≡◌, ℕ, ◌<◌, List, length, ℤ, pos, ◌≤ℤ◌, arith, sym, subst}
use Rattle.std.proofs.lemmas.Int.{ints}
use Rattle.mk_model.specs.Vectors.{subtract, weight, IsPoint}
use Rattle.mk_model.specs.Lattices.{lattice_of, InLattice, HasGrading}
use Rattle.mk_model.specs.Orders.{standard, lead, tail}
use Rattle.mk_model.specs.Bases.{IsMove}
use Rattle.mk_model.proofs.VectorAlgebra.{parts, weight-parts, IsPoint-positive_part, IsPoint-negative_part, entry_within_weight}
use Rattle.mk_model.proofs.OrderLaws.{IsBelow-decided, standard_within}
use Rattle.mk_model.proofs.LatticeLaws.{InLattice-columns, InLattice-weight}

module _ {n : ℕ} {rows : List (List ℤ)} {w m : List ℤ} (g : HasGrading (lattice_of n rows w)) (move : IsMove n rows m) where
  pub IsMove-columns : length m ≡ n
  IsMove-columns = InLattice-columns n rows m g.rows_columns move.in_lattice

  pub IsMove-lead : IsPoint n (lead m)
  IsMove-lead = IsPoint-positive_part m IsMove-columns

  pub IsMove-tail : IsPoint n (tail m)
  IsMove-tail = IsPoint-negative_part m IsMove-columns

  pub IsMove-ends : InLattice n rows (subtract (lead m) (tail m))
  IsMove-ends = subst (InLattice n rows) (sym (parts m)) move.in_lattice

  pub IsMove-same_weight : weight w (lead m) ≡ weight w (tail m)
  IsMove-same_weight = omega (arith, ints, weight-parts w m, InLattice-weight w n rows m g.rows_weight move.in_lattice)

  pub IsMove-lead_weight : pos 1 ≤ℤ weight w (lead m)
  IsMove-lead_weight =
      let (c, l, h) = IsBelow-decided (λ c. c < n) (standard n) (tail m) (lead m) (standard_within n) move.oriented in
      let t = entry_within_weight w (tail m) c (λ c l. g.positive c (omega (arith, g.columns))) IsMove-tail.nonnegative
      (omega (arith, g.columns)) in
      omega (arith, ints, t, IsMove-same_weight, IsMove-lead.nonnegative c)
