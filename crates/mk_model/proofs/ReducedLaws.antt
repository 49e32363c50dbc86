-- The reduced basis: its moves, that there is one, that the essential moves stand in it, and that it joins every fibre.
use Rattle.std.proofs.Common.{◌≡◌, ◌⊎◌, inl, inr, ℕ, ◌<◌, List, Option, ℤ, ◌<ℤ◌, All, AllPairs, Contains, arith, ap, refl, sym, ◌∙◌, subst}
use Rattle.std.proofs.Common.{⊎_elim}
use Rattle.std.proofs.lemmas.Int.{ints}
use Rattle.std.proofs.lemmas.List.Elements.{All-contains, All-weaker}
use borrow.Author.Differences.{up}
use Rattle.mk_model.specs.Vectors.{subtract, weight, IsPoint}
use Rattle.mk_model.specs.Lattices.{lattice_of, InLattice, HasGrading}
use Rattle.mk_model.specs.Orders.{IsBelow, standard, lead, tail, ComesBefore}
use Rattle.mk_model.specs.Walks.{Joined, Members}
use Rattle.mk_model.specs.Walks.Walk.{stay, step}
use Rattle.mk_model.specs.Bases.{IsAnswer, MovesBefore, IsMove, IsEssential, IsEssentialUpTo, IsUpTo, IsMarkov}
use Rattle.mk_model.specs.Reductions.{Divides}
use Rattle.mk_model.specs.ReducedBases.{IsLeast, IsReducedMove, IsReducedBasis}
use Rattle.mk_model.proofs.Lists.{same_from_members, member_or_none}
use Rattle.mk_model.proofs.OrderLaws.{IsBelow-subtract, IsBelow-transitive, ComesBefore-asymmetric}
use Rattle.mk_model.proofs.WalkLaws.{walk_append, walk_back, one_step}
use Rattle.mk_model.proofs.MoveLaws.{IsMove-columns, IsMove-lead, IsMove-tail, IsMove-ends}
use Rattle.mk_model.proofs.Fibres.{same_fibre_step, same_fibre_of_walk, step_weight, lead_of_difference, same_fibre_back, same_fibre_append}
use Rattle.mk_model.proofs.Fibres.{same_fibre_weight, same_fibre_stay, move_of_difference, total_points}
use Rattle.mk_model.proofs.MoveRanks.{weight_down, by_number, rank_of_points}
use Rattle.mk_model.proofs.Ranks.{rank}
use Rattle.mk_model.proofs.Divisors.{Divides-itself, Divides-transitive, Divides-positive_part, IsPoint-lower, divides_or_not}
use Rattle.mk_model.proofs.DivisorWeights.{divisor_cases, proper_divisor_lighter}
use Rattle.mk_model.proofs.MoveOrder.{same_from_ends}
use Rattle.mk_model.proofs.StarLaws.{to_tail, joined_under_tail, essential_is_reduced}

pub one_reduced_basis : {n : ℕ} {rows : List (List ℤ)} {w : List ℤ} {moves others : List (List ℤ)} →
    IsReducedBasis (lattice_of n rows w) moves → IsReducedBasis (lattice_of n rows w) others → moves ≡ others
one_reduced_basis {n} {rows} {w} {moves} {others} a b =
    same_from_members (ComesBefore n w) (ComesBefore-asymmetric n w) moves others a.ascending b.ascending
    (λ z c. b.complete z (All-contains (IsReducedMove n rows) moves z a.each c))
    (λ z c. a.complete z (All-contains (IsReducedMove n rows) others z b.each c))

module _ {n : ℕ} {rows : List (List ℤ)} {w : List ℤ} (g : HasGrading (lattice_of n rows w)) where
  -- ---- one move of it
  module _ {m : List ℤ} (reduced : IsReducedMove n rows m) where
    reduced_ordered : IsBelow (standard n) reduced.to reduced.from
    reduced_ordered = go (total_points g reduced.to reduced.from reduced.least.point reduced.point)
      where
        go : (IsBelow (standard n) reduced.to reduced.from ⊎ IsBelow (standard n) reduced.from reduced.to) ⊎ (reduced.to ≡ reduced.from) →
            IsBelow (standard n) reduced.to reduced.from
        go (inl (inl b)) = b
        go (inl (inr b)) = absurd (reduced.least.none_below reduced.from reduced.point reduced.same_fibre b)
        go (inr e) = absurd (reduced.not_least (subst (IsLeast n rows) e reduced.least))

    pub reduced_move : IsMove n rows m
    reduced_move = subst (IsMove n rows) (sym reduced.difference)
        (move_of_difference g reduced.from reduced.to reduced.same_fibre reduced_ordered)

    -- it leads from the one vector to the other
    pub reduced_ends : (reduced.from ≡ lead m) × (reduced.to ≡ tail m)
    reduced_ends =
        subst (λ u. (reduced.from ≡ lead u) × (reduced.to ≡ tail u)) (sym reduced.difference)
        (⊎_elim (λ l. absurd (refuse l)) (λ e. e) (lead_of_difference g reduced.from reduced.to reduced.point reduced.least.point))
      where
        d : List ℤ
        d = subtract reduced.from reduced.to

        move : IsMove n rows d
        move = move_of_difference g reduced.from reduced.to reduced.same_fibre reduced_ordered

        refuse : weight w (lead d) <ℤ weight w reduced.from → ⊥
        refuse l =
            let least = reduced.divisors (lead d) (IsMove-lead g move) (Divides-positive_part reduced.point reduced.least.point)
            (λ e. omega (arith, ints, l, ap (weight w) e)) in
            least.none_below (tail d) (IsMove-tail g move) (same_fibre_back g (lead d) (tail d) (IsMove-ends g move)) move.oriented

  pub reduced_has_essential : {moves : List (List ℤ)} → IsReducedBasis (lattice_of n rows w) moves → (m : List ℤ) →
      IsEssential (lattice_of n rows w) m → Contains moves m
  reduced_has_essential basis m e = basis.complete m (essential_is_reduced g e)

  -- two least vectors of one fibre are equal
  pub one_least : (x y : List ℤ) → IsLeast n rows x → IsLeast n rows y → InLattice n rows (subtract x y) → x ≡ y
  one_least x y p q h =
      ⊎_elim (λ s. absurd (⊎_elim (q.none_below x p.point h) (p.none_below y q.point (same_fibre_back g x y h)) s)) (λ e. e)
      (total_points g x y p.point q.point)

  -- a fibre doesn't lack a least vector
  pub has_least : (x : List ℤ) → IsPoint n x → ((z : List ℤ) → IsLeast n rows z → InLattice n rows (subtract x z) → ⊥) → ⊥
  has_least x p none = by_number P (λ y. rank (up (weight w y)) (standard n) y) go x p (same_fibre_stay g x p)
    where
      P : List ℤ → Type 0
      P y = IsPoint n y → InLattice n rows (subtract x y) → ⊥

      go : (y : List ℤ) → ((u : List ℤ) → rank (up (weight w u)) (standard n) u < rank (up (weight w y)) (standard n) y → IsPoint n u →
          InLattice n rows (subtract x u) → ⊥) → IsPoint n y → InLattice n rows (subtract x y) → ⊥
      go y lower q h =
          none y (record {
            point = q;
            none_below = λ u r k b. lower u (rank_of_points g u y r q (same_fibre_weight g u y r q k) b) r
                (same_fibre_append g x y u p q r h (same_fibre_back g u y k));
          }) h

  module _ {moves : List (List ℤ)} (basis : IsReducedBasis (lattice_of n rows w) moves) where
    pub member_reduced : (m : List ℤ) → Contains moves m → IsReducedMove n rows m
    member_reduced m c = All-contains (IsReducedMove n rows) moves m basis.each c

    pub member_move : (m : List ℤ) → Contains moves m → IsMove n rows m
    member_move m c = reduced_move (member_reduced m c)

    abbrev NoneDivides : List ℤ → Type 0
    NoneDivides x = (m : List ℤ) → Contains moves m → Divides (lead m) x → ⊥

    -- A vector that no lead of the basis divides is the least of its fibre: a lightest divisor that isn't would be a lead.
    undivided_is_least : (x : List ℤ) → IsPoint n x → NoneDivides x → IsLeast n rows x
    undivided_is_least = by_number (λ x. IsPoint n x → NoneDivides x → IsLeast n rows x) (λ x. up (weight w x)) go
      where
        go : (x : List ℤ) → ((u : List ℤ) → up (weight w u) < up (weight w x) → IsPoint n u → NoneDivides u → IsLeast n rows u) →
            IsPoint n x → NoneDivides x → IsLeast n rows x
        go x lower p none = record { point = p; none_below = λ y q h b. has_least x p (λ z l k. refuse z (as_move y q h b z l k)) }
          where
            lighter : (u : List ℤ) → IsPoint n u → Divides u x → ¬ (u ≡ x) → up (weight w u) < up (weight w x)
            lighter u r d apart = omega (arith, ints, proper_divisor_lighter g x u p r d apart, weight_down g x p, weight_down g u r)

            as_move : (y : List ℤ) → IsPoint n y → InLattice n rows (subtract y x) → IsBelow (standard n) y x → (z : List ℤ) →
                IsLeast n rows z → InLattice n rows (subtract x z) →
                (r : IsReducedMove n rows (subtract x z)) × (r.from ≡ x)
            as_move y q h b z l k = (
              record {
                from = x;
                to = z;
                point = p;
                not_least = λ least. least.none_below y q h b;
                divisors = λ u r d apart. lower u (lighter u r d apart) r (λ m c e. none m c (Divides-transitive e d));
                same_fibre = k;
                least = l;
                difference = refl;
              },
              refl,
            )

            refuse : (z : List ℤ) → (r : IsReducedMove n rows (subtract x z)) × (r.from ≡ x) → ⊥
            refuse z (r, e) = none (subtract x z) (basis.complete (subtract x z) r)
                (subst (λ v. Divides v x) (sym e ∙ (reduced_ends r).0) (Divides-itself x))

    pub least_or_divided : (x : List ℤ) → IsPoint n x → IsLeast n rows x ⊎ ((m : List ℤ) × Contains moves m × Divides (lead m) x)
    least_or_divided x p =
        ⊎_elim inr (λ none. inl (undivided_is_least x p none))
        (member_or_none (λ m. Divides (lead m) x) moves (λ m c. divides_or_not (lead m) x))

    -- each vector steps down to the least of its fibre
    pub to_least : (x : List ℤ) → IsPoint n x → (z : List ℤ) × IsLeast n rows z × Joined n (Members moves) x z
    to_least = by_number (λ x. IsPoint n x → (z : List ℤ) × IsLeast n rows z × Joined n (Members moves) x z)
        (λ x. rank (up (weight w x)) (standard n) x) go
      where
        go : (x : List ℤ) → ((u : List ℤ) → rank (up (weight w u)) (standard n) u < rank (up (weight w x)) (standard n) x → IsPoint n u →
            (z : List ℤ) × IsLeast n rows z × Joined n (Members moves) u z) →
            IsPoint n x → (z : List ℤ) × IsLeast n rows z × Joined n (Members moves) x z
        go x lower p = on (least_or_divided x p)
          where
            on : IsLeast n rows x ⊎ ((m : List ℤ) × Contains moves m × Divides (lead m) x) → (z : List ℤ) × IsLeast n rows z
                × Joined n (Members moves) x z
            on (inl l) = (x, l, stay p)
            on (inr (m, c, d)) =
                let move = member_move m c in
                let q : IsPoint n (subtract x m) = IsPoint-lower m p (omega (arith, IsMove-columns g move)) d in
                let e : weight w (subtract x m) ≡ weight w x = step_weight g x (subtract x m) m p move.in_lattice (inr refl) in
                let (z, l, j) = lower (subtract x m) (rank_of_points g (subtract x m) x q p e
                (IsBelow-subtract (standard n) x m move.oriented)) q in
                (z, l, step p (m, c, inr refl) j)

    pub members_inside : (m : List ℤ) → Contains moves m → InLattice n rows m
    members_inside m c = (member_move m c).in_lattice

    pub reduced_joins : (x y : List ℤ) → IsPoint n x → IsPoint n y → InLattice n rows (subtract x y) → Joined n (Members moves) x y
    reduced_joins x y p q h =
        let (z, l, j) = to_least x p in
        let (u, k, i) = to_least y q in
        let x_to_z : InLattice n rows (subtract x z) = same_fibre_of_walk g {moves = Members moves} members_inside j in
        let y_to_u : InLattice n rows (subtract y u) = same_fibre_of_walk g {moves = Members moves} members_inside i in
        let same : z ≡ u = one_least z u l k (same_fibre_append g z x u l.point p k.point (same_fibre_back g x z x_to_z)
        (same_fibre_append g x y u p q k.point h y_to_u)) in
        walk_append j (walk_back (subst (Joined n (Members moves) y) (sym same) i))

    pub reduced_is_markov : IsMarkov n rows moves
    reduced_is_markov = record {
      in_lattice = All-weaker (IsReducedMove n rows) (InLattice n rows) (λ m r. (reduced_move r).in_lattice) moves basis.each;
      joins = reduced_joins;
    }

    -- each move of the lattice stands in the basis, or moves before it join its ends
    pub member_or_joined : (v : List ℤ) → IsMove n rows v → Contains moves v
        ⊎ Joined n (MovesBefore (lattice_of n rows w) v) (lead v) (tail v)
    member_or_joined v a = go (least_or_divided (lead v) (IsMove-lead g a))
      where
        by_lighter : (m : List ℤ) → Contains moves m → Divides (lead m) (lead v) → weight w (lead m) <ℤ weight w (lead v) →
            Joined n (MovesBefore (lattice_of n rows w) v) (lead v) (tail v)
        by_lighter m c d l =
            let move = member_move m c in
            let q : IsPoint n (subtract (lead v) m) = IsPoint-lower m (IsMove-lead g a) (omega (arith, IsMove-columns g move)) d in
            let inside : InLattice n rows (subtract (lead v) (subtract (lead v) m)) =
            same_fibre_step g {moves = Members moves} members_inside (lead v) (subtract (lead v) m) (IsMove-lead g a) (m, c, inr refl) in
            to_tail g a (subtract (lead v) m)
            (same_fibre_append g (subtract (lead v) m) (lead v) (tail v) q (IsMove-lead g a) (IsMove-tail g a)
            (same_fibre_back g (lead v) (subtract (lead v) m) inside) (IsMove-ends g a))
            (IsBelow-subtract (standard n) (lead v) m move.oriented) (one_step (IsMove-lead g a) q (m, (move, inl l), inr refl))

        tails : (m : List ℤ) (c : Contains moves m) → lead m ≡ lead v → IsLeast n rows (tail m) →
            InLattice n rows (subtract (tail v) (tail m)) →
            (IsBelow (standard n) (tail m) (tail v) ⊎ IsBelow (standard n) (tail v) (tail m)) ⊎ (tail m ≡ tail v) → Contains moves v
            ⊎ Joined n (MovesBefore (lattice_of n rows w) v) (lead v) (tail v)
        tails m c e least h (inl (inl b)) =
            inr (to_tail g a (tail m) (same_fibre_back g (tail v) (tail m) h)
            (IsBelow-transitive (standard n) (tail m) (tail v) (lead v) b a.oriented)
            (joined_under_tail g a (tail m) least.point (same_fibre_append g (lead v) (tail v) (tail m) (IsMove-lead g a)
            (IsMove-tail g a) least.point (IsMove-ends g a) h) b))
        tails m c e least h (inl (inr b)) = absurd (least.none_below (tail v) (IsMove-tail g a) h b)
        tails m c e least h (inr d) = inl (subst (Contains moves) (same_from_ends m v e d) c)

        by_same_lead : (m : List ℤ) → Contains moves m → lead m ≡ lead v → Contains moves v
            ⊎ Joined n (MovesBefore (lattice_of n rows w) v) (lead v) (tail v)
        by_same_lead m c e =
            let move = member_move m c in
            let reduced = member_reduced m c in
            let least : IsLeast n rows (tail m) = subst (IsLeast n rows) ((reduced_ends reduced).1) reduced.least in
            let ends : InLattice n rows (subtract (lead v) (tail m)) = subst (λ u. InLattice n rows (subtract u (tail m))) e
            (IsMove-ends g move) in
            let h = same_fibre_append g (tail v) (lead v) (tail m) (IsMove-tail g a) (IsMove-lead g a) least.point
            (same_fibre_back g (lead v) (tail v) (IsMove-ends g a)) ends in
            tails m c e least h (total_points g (tail m) (tail v) least.point (IsMove-tail g a))

        go : IsLeast n rows (lead v) ⊎ ((m : List ℤ) × Contains moves m × Divides (lead m) (lead v)) → Contains moves v
            ⊎ Joined n (MovesBefore (lattice_of n rows w) v) (lead v) (tail v)
        go (inl l) = absurd (l.none_below (tail v) (IsMove-tail g a) (same_fibre_back g (lead v) (tail v) (IsMove-ends g a)) a.oriented)
        go (inr (m, c, d)) =
            ⊎_elim (λ l. inr (by_lighter m c d l)) (by_same_lead m c)
            (divisor_cases g (lead v) (lead m) (IsMove-lead g a) (IsMove-lead g (member_move m c)) d)

    -- The members up to a bound that are essential, ascending, are the answer, if moves before each of the others join its ends.
    pub answer_from_reduced : {upto : Option ℕ} {chosen : List (List ℤ)} → AllPairs (ComesBefore n w) chosen →
        All (IsEssentialUpTo (lattice_of n rows w) upto) chosen →
        ((m : List ℤ) → Contains moves m → IsUpTo upto (weight w (lead m)) → Contains chosen m
        ⊎ Joined n (MovesBefore (lattice_of n rows w) m) (lead m) (tail m)) → IsAnswer (lattice_of n rows w) upto chosen
    answer_from_reduced ascending essential others = record {
      ascending = ascending;
      essential = essential;
      complete = λ v a light. ⊎_elim (λ c. others v c light) inr (member_or_joined v a);
    }
