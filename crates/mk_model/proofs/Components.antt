-- Components of fibres and the reduced basis: which of its moves are essential.
use Rattle.std.proofs.Common.{◌≡◌, ◌⊎◌, inl, inr, ℕ, List, Option, None, ℤ, ◌≤ℤ◌, ◌<ℤ◌, All, AllPairs, Contains, arith, ap, sym, subst}
use Rattle.std.proofs.Common.{⊎_elim}
use Rattle.std.proofs.lemmas.Int.{ints}
use Rattle.std.proofs.lemmas.List.Elements.{All-weaker}
use Rattle.mk_model.specs.Vectors.{weight}
use Rattle.mk_model.specs.Lattices.{lattice_of, HasGrading}
use Rattle.mk_model.specs.Orders.{IsBelow, standard, lead, tail, ComesBefore}
use Rattle.mk_model.specs.Walks.{Joined, Members}
use Rattle.mk_model.specs.Walks.Walk.{stay, step}
use Rattle.mk_model.specs.Bases.{IsMove, IsEssential, IsEssentialUpTo, IsUpTo, IsAnswer}
use Rattle.mk_model.specs.ReducedBases.{IsLeast, IsReducedBasis, LighterMoves, IsLeastOfComponent}
use Rattle.mk_model.proofs.VectorAlgebra.{parts}
use Rattle.mk_model.proofs.WalkLaws.{walk_from, walk_weaker, walk_stays}
use Rattle.mk_model.proofs.OrderLaws.{IsBelow-not_same}
use Rattle.mk_model.proofs.MoveLaws.{IsMove-columns, IsMove-lead, IsMove-tail, IsMove-ends, IsMove-same_weight}
use Rattle.mk_model.proofs.Fibres.{AreEnds, difference_step, ends_of_step, step_weight, walk_replace, step_by_parts}
use Rattle.mk_model.proofs.NormalForms.{All-from_contains}
use Rattle.mk_model.proofs.StarLaws.{essential_from_ends, joined_from_lighter}
use Rattle.mk_model.proofs.ReducedLaws.{reduced_ends, member_reduced, member_move, reduced_joins, answer_from_reduced}

-- the members of a list whose lead is lighter
abbrev pub LighterMembers : List ℤ → List (List ℤ) → ℤ → List ℤ → Type 0
LighterMembers w moves bound m = Contains moves m × (weight w (lead m) <ℤ bound)

module _ {n : ℕ} {rows : List (List ℤ)} {w : List ℤ} (g : HasGrading (lattice_of n rows w)) where
  -- a move joins its own ends
  pub ends_joined : {set : List ℤ → Type 0} {m : List ℤ} → IsMove n rows m → set m → Joined n set (lead m) (tail m)
  ends_joined {set} {m} a s = difference_step g (lead m) (tail m) (IsMove-lead g a) (IsMove-tail g a) (subst set (sym (parts m)) s)

  -- a walk through points lighter than a bound is by moves that are
  pub walk_is_lighter : (moves : List (List ℤ)) → ((m : List ℤ) → Contains moves m → IsMove n rows m) → (bound : ℤ) (x y : List ℤ) →
      weight w x <ℤ bound →
      Joined n (Members moves) x y → Joined n (LighterMembers w moves bound) x y
  walk_is_lighter moves f bound x y l (stay p) = stay p
  walk_is_lighter moves f bound x y l (step {y = z} p (m, c, s) r) =
      step p (m, (c, light (ends_of_step g x z m p (walk_from r) move.in_lattice s)), s)
      (walk_is_lighter moves f bound z y (omega (arith, ints, l, step_weight g x z m p move.in_lattice s)) r)
    where
      move : IsMove n rows m
      move = f m c

      light : (weight w (lead m) <ℤ weight w x) ⊎ AreEnds m x z → weight w (lead m) <ℤ bound
      light (inl k) = omega (arith, ints, k, l)
      light (inr (inl (e, d))) = omega (arith, ints, l, ap (weight w) e)
      light (inr (inr (e, d))) = omega (arith, ints, l, ap (weight w) e, IsMove-same_weight g move)

  module _ {moves : List (List ℤ)} (basis : IsReducedBasis (lattice_of n rows w) moves) where
    -- what lighter moves of the lattice join, lighter members of the reduced basis join
    pub lighter_by_members : (bound : ℤ) {x y : List ℤ} → Joined n (LighterMoves (lattice_of n rows w) bound) x y →
        Joined n (LighterMembers w moves bound) x y
    lighter_by_members bound j =
        walk_replace {moves = LighterMoves (lattice_of n rows w) bound} {others = LighterMembers w moves bound}
        (λ x y p q (v, (a, l), s). step_by_parts v (IsMove-columns g a) p q s
        (walk_is_lighter moves (member_move g basis) bound (lead v) (tail v) l
        (reduced_joins g basis (lead v) (tail v) (IsMove-lead g a) (IsMove-tail g a) (IsMove-ends g a)))) j

    pub members_are_lighter : (bound : ℤ) {x y : List ℤ} → Joined n (LighterMembers w moves bound) x y →
        Joined n (LighterMoves (lattice_of n rows w) bound) x y
    members_are_lighter bound j = walk_weaker (λ v (c, l). (member_move g basis v c, l)) (λ x p. p) j

    -- a member is essential if its lead is the least of its component
    pub member_is_essential : (m : List ℤ) → Contains moves m → IsLeastOfComponent (lattice_of n rows w) (lead m) →
        IsEssential (lattice_of n rows w) m
    member_is_essential m c first =
        let reduced = member_reduced g basis m c in
        essential_from_ends g (member_move g basis m c) first (subst (IsLeast n rows) ((reduced_ends g reduced).1) reduced.least)

    -- the lead of a lightest member is the least of its component
    pub lightest_is_least : (m : List ℤ) → Contains moves m → ((v : List ℤ) → Contains moves v → weight w (lead m) ≤ℤ weight w (lead v)) →
        IsLeastOfComponent (lattice_of n rows w) (lead m)
    lightest_is_least m c lightest = record {
      point = IsMove-lead g (member_move g basis m c);
      none_below = λ y j b. IsBelow-not_same (standard n) y (lead m)
          (sym (walk_stays (λ v (h, l). omega (arith, ints, l, lightest v h)) (lighter_by_members (weight w (lead m)) j))) b;
    }

    -- The members up to a bound whose lead is the least of its component, ascending, are the answer: from the lead of
    -- each other member up to it lighter moves lead to a vector below it.
    pub answer_from_components : {upto : Option ℕ} {chosen : List (List ℤ)} → AllPairs (ComesBefore n w) chosen →
        All (λ m. Contains moves m × IsUpTo upto (weight w (lead m)) × IsLeastOfComponent (lattice_of n rows w) (lead m)) chosen →
        ((m : List ℤ) → Contains moves m → IsUpTo upto (weight w (lead m)) →
        Contains chosen m ⊎ ((x : List ℤ) × IsBelow (standard n) x (lead m)
        × Joined n (LighterMoves (lattice_of n rows w) (weight w (lead m))) (lead m) x)) →
        IsAnswer (lattice_of n rows w) upto chosen
    answer_from_components {upto} {chosen} ascending first others =
        answer_from_reduced g basis ascending
        (All-weaker (λ m. Contains moves m × IsUpTo upto (weight w (lead m)) × IsLeastOfComponent (lattice_of n rows w) (lead m))
        (IsEssentialUpTo (lattice_of n rows w) upto)
        (λ m (c, h, l). record { essential = member_is_essential m c l; light = h }) chosen first)
        (λ m c h. ⊎_elim inl (λ (x, b, j). inr (joined_from_lighter g (member_move g basis m c) x j b)) (others m c h))

    -- moves of one weight are all essential
    pub answer_of_one_weight : (bound : ℤ) → ((m : List ℤ) → Contains moves m → weight w (lead m) ≡ bound) →
        IsAnswer (lattice_of n rows w) None moves
    answer_of_one_weight bound same =
        answer_from_components basis.ascending
        (All-from_contains (λ m. Contains moves m × IsUpTo None (weight w (lead m)) × IsLeastOfComponent (lattice_of n rows w) (lead m))
        moves
        (λ m c. (c, tt, lightest_is_least m c (λ v h. omega (arith, ints, same m c, same v h))))) (λ m c h. inl c)
