-- The moves of a reduced basis that are lighter than a bound: what they do to lighter points.
use Rattle.std.proofs.Common.{◌≡◌, ℕ, List, ℤ, ◌<ℤ◌, Contains, arith, ap, sym, subst, ⊎_elim}
use Rattle.std.proofs.lemmas.Int.{ints}
use Rattle.mk_model.specs.Vectors.{subtract, weight, IsPoint}
use Rattle.mk_model.specs.Lattices.{lattice_of, InLattice, HasGrading}
use Rattle.mk_model.specs.Orders.{IsOriented, standard, lead, tail}
use Rattle.mk_model.specs.Walks.{Members, Joined}
use Rattle.mk_model.specs.Bases.{IsMove}
use Rattle.mk_model.specs.Reductions.{lcm, Divides, Reaches, IsDescent, Meet, IsIrreducible}
use Rattle.mk_model.specs.Reductions.Reaches.{here, go}
use Rattle.mk_model.specs.Pairs.{AreOrientedMoves, JoinedBelow}
use Rattle.mk_minimise.specs.Links.{AreLower}
use Rattle.mk_model.specs.ReducedBases.{IsLeast, IsReducedBasis, LighterMoves}
use Rattle.mk_model.proofs.WalkLaws.{walk_append, walk_back, walk_to, walk_weaker}
use Rattle.mk_model.proofs.MoveLaws.{IsMove-lead, IsMove-tail, IsMove-ends}
use Rattle.mk_model.proofs.Fibres.{same_fibre_of_walk, same_fibre_back, same_fibre_append, same_fibre_weight}
use Rattle.mk_model.proofs.DivisorWeights.{divisor_cases}
use Rattle.mk_model.proofs.Confluence.{descent_point, descent_weight, lcm_point, lcm_descent_first, lcm_descent_second}
use Rattle.mk_model.proofs.NormalForms.{LeastReach, least_reach, reach_joined, All-from_contains}
use Rattle.mk_model.proofs.Reducts.{JoinedBelow-from_meet}
use Rattle.mk_model.proofs.ReducedLaws.{member_move, one_least, least_or_divided}
use Rattle.mk_model.proofs.Components.{lighter_by_members}

module _ {n : ℕ} {rows : List (List ℤ)} {w : List ℤ} {moves : List (List ℤ)} (g : HasGrading (lattice_of n rows w)) (basis : IsReducedBasis (lattice_of n rows w) moves) {bound : ℤ} {lower : List (List ℤ)} (part : AreLower w moves bound lower) where
  pub lower_move : (m : List ℤ) → Contains lower m → IsMove n rows m
  lower_move m c = member_move g basis m (part.member m c)

  pub lower_oriented : AreOrientedMoves (lattice_of n rows w) (standard n) lower
  lower_oriented = record {
    grading = g;
    in_lattice = All-from_contains (InLattice n rows) lower (λ m c. (lower_move m c).in_lattice);
    oriented = All-from_contains (IsOriented (standard n)) lower (λ m c. (lower_move m c).oriented);
  }

  -- a lead of a member isn't the least of its fibre
  pub lead_not_least : (m : List ℤ) → Contains moves m → IsLeast n rows (lead m) → ⊥
  lead_not_least m c least =
      let move = member_move g basis m c in
      least.none_below (tail m) (IsMove-tail g move) (same_fibre_back g (lead m) (tail m) (IsMove-ends g move)) move.oriented

  -- a lighter point that no lead divides is the least of its fibre
  pub lighter_irreducible_least : (x : List ℤ) → IsPoint n x → weight w x <ℤ bound → IsIrreducible lower x → IsLeast n rows x
  lighter_irreducible_least x q l none = ⊎_elim (λ least. least) (λ (m, c, d). absurd (none m (part.every m c (light m c d)) d)) (least_or_divided g basis x q)
    where
      light : (m : List ℤ) → Contains moves m → Divides (lead m) x → weight w (lead m) <ℤ bound
      light m c d =
          ⊎_elim (λ k. omega (arith, ints, k, l)) (λ e. omega (arith, ints, l, ap (weight w) e)) (divisor_cases g x (lead m) q (IsMove-lead g (member_move g basis m c)) d)

  -- what lighter moves of the lattice join, these join, and the other way round
  pub joined_by_lower : {x y : List ℤ} → Joined n (LighterMoves (lattice_of n rows w) bound) x y → Joined n (Members lower) x y
  joined_by_lower j = walk_weaker (λ m (c, l). part.every m c l) (λ x q. q) (lighter_by_members g basis bound j)

  pub lower_are_lighter : {x y : List ℤ} → Joined n (Members lower) x y → Joined n (LighterMoves (lattice_of n rows w) bound) x y
  lower_are_lighter j = walk_weaker (λ m c. (lower_move m c, part.lighter m c)) (λ x q. q) j

  -- where a lighter point steps down to, the least of its fibre stands
  least_below : (x : List ℤ) → IsPoint n x → weight w x <ℤ bound → (a : LeastReach lower x) → IsLeast n rows a.least × InLattice n rows (subtract x a.least)
  least_below x q l a =
      let walk = reach_joined lower_oriented q a.reach in
      let inside : InLattice n rows (subtract x a.least) = same_fibre_of_walk g {moves = Members lower} (λ m c. (lower_move m c).in_lattice) walk in
      let same = same_fibre_weight g x a.least q (walk_to walk) inside in
      (lighter_irreducible_least a.least (walk_to walk) (omega (arith, ints, same, l)) a.irreducible, inside)

  -- two lighter points of one fibre step down to one vector
  pub lighter_meet : (x y : List ℤ) → IsPoint n x → IsPoint n y → weight w x <ℤ bound → InLattice n rows (subtract x y) → Meet lower x y
  lighter_meet x y q r l h =
      let a : LeastReach lower x = least_reach lower_oriented x q in
      let b : LeastReach lower y = least_reach lower_oriented y r in
      let k = same_fibre_weight g x y q r h in
      let (f, i) = least_below x q l a in
      let (t, j) = least_below y r (omega (arith, ints, k, l)) b in
      let z_to_y = same_fibre_append g a.least x y f.point q r (same_fibre_back g x a.least i) h in
      let same : b.least ≡ a.least = sym (one_least g a.least b.least f t (same_fibre_append g a.least y b.least f.point r t.point z_to_y j)) in
      record { common = a.least; from_first = a.reach; from_second = subst (Reaches (IsDescent lower) y) same b.reach }

  -- two of the moves whose least common multiple is lighter are joined below it
  pub lighter_pair : (a b : List ℤ) → Contains lower a → Contains lower b → weight w (lcm (lead a) (lead b)) <ℤ bound → JoinedBelow n (standard n) lower a b
  lighter_pair a b h k l =
      let o = lower_oriented in
      let top = lcm_point o a b h k in
      let first = lcm_descent_first o a b h in
      let second = lcm_descent_second o a b k in
      let down = reach_joined o top (go first here) in
      let across = same_fibre_of_walk g {moves = Members lower} (λ m c. (lower_move m c).in_lattice) (walk_append (walk_back down) (reach_joined o top (go second here))) in
      JoinedBelow-from_meet o a b h k
      (lighter_meet (subtract (lcm (lead a) (lead b)) a) (subtract (lcm (lead a) (lead b)) b) (descent_point o top first) (descent_point o top second) (omega (arith, ints, descent_weight o top first, l)) across)
