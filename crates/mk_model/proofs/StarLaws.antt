-- The essential moves: they stand in the reduced basis, and in each fibre they are a star.
use Rattle.std.proofs.Common.{◌≡◌, ◌⊎◌, inl, inr, ℕ, List, ℤ, ◌<ℤ◌, arith, ap, refl, sym, ◌∙◌, subst, ⊎_elim}
use Rattle.std.proofs.lemmas.Int.{ints}
use Rattle.mk_model.specs.Vectors.{add, subtract, weight, IsPoint}
use Rattle.mk_model.specs.Lattices.{lattice_of, InLattice, HasGrading}
use Rattle.mk_model.specs.Orders.{IsBelow, standard, lead, tail, ComesBefore}
use Rattle.mk_model.specs.Walks.{Joined}
use Rattle.mk_model.specs.Walks.Walk.{stay, step}
use Rattle.mk_model.specs.Bases.{IsMove, MovesBefore, IsEssential}
use Rattle.mk_model.specs.Reductions.{Divides}
use Rattle.mk_model.specs.ReducedBases.{IsLeast, IsReducedMove, LighterMoves, IsLeastOfComponent, IsStarMove}
use Rattle.mk_model.proofs.VectorAlgebra.{IsPoint-add, lengths, columns, same_vectors, add_difference, parts}
use Rattle.mk_model.proofs.OrderLaws.{IsBelow-add, IsBelow-transitive, IsOriented-lead_not_tail}
use Rattle.mk_model.proofs.WalkLaws.{walk_append, walk_back, one_step, walk_from, walk_weaker, walk_to}
use Rattle.mk_model.proofs.MoveLaws.{IsMove-lead, IsMove-tail, IsMove-ends, IsMove-same_weight}
use Rattle.mk_model.proofs.Fibres.{AreEnds, same_fibre_step, same_fibre_of_walk, lead_of_difference, same_fibre_back, same_fibre_append}
use Rattle.mk_model.proofs.Fibres.{same_fibre_weight, move_of_difference, difference_step, total_points, ends_of_step}
use Rattle.mk_model.proofs.Divisors.{IsPoint-quotient}
use Rattle.mk_model.proofs.DivisorWeights.{proper_divisor_lighter}

module _ {n : ℕ} {rows : List (List ℤ)} {w : List ℤ} (g : HasGrading (lattice_of n rows w)) where
  module _ {m : List ℤ} (move : IsMove n rows m) where
    -- from a point below the lead of a move, moves before that move lead down to each point of the fibre
    step_down : (x y : List ℤ) → IsPoint n x → IsPoint n y → InLattice n rows (subtract x y) → weight w x ≡ weight w (lead m) →
        IsBelow (standard n) x (lead m) → IsBelow (standard n) y x → Joined n (MovesBefore (lattice_of n rows w) m) x y
    step_down x y p q h e b d =
        difference_step g x y p q (
          move_of_difference g x y h d,
          ⊎_elim (λ l. inl (omega (arith, ints, l))) (λ (a, c). inr (
            ap (weight w) (sym a) ∙ e,
            inl (subst (λ u. IsBelow (standard n) u (lead m)) a b),
          ))
              (lead_of_difference g x y p q),
        )

    -- two points of one fibre, of the weight of the lead and below it, are joined by moves before the move
    pub joined_under_lead : (x y : List ℤ) → IsPoint n x → IsPoint n y → InLattice n rows (subtract x y) → weight w x ≡ weight w (lead m) →
        IsBelow (standard n) x (lead m) → IsBelow (standard n) y (lead m) → Joined n (MovesBefore (lattice_of n rows w) m) x y
    joined_under_lead x y p q h e b c = go (total_points g x y p q)
      where
        go : (IsBelow (standard n) x y ⊎ IsBelow (standard n) y x) ⊎ (x ≡ y) → Joined n (MovesBefore (lattice_of n rows w) m) x y
        go (inl (inl d)) = walk_back (step_down y x q p (same_fibre_back g x y h) (sym (same_fibre_weight g x y p q h) ∙ e) c d)
        go (inl (inr d)) = step_down x y p q h e b d
        go (inr d) = subst (Joined n (MovesBefore (lattice_of n rows w) m) x) d (stay p)

    -- so is the lead with each point of its fibre below the tail
    pub joined_under_tail : (x : List ℤ) → IsPoint n x → InLattice n rows (subtract (lead m) x) → IsBelow (standard n) x (tail m) →
        Joined n (MovesBefore (lattice_of n rows w) m) (lead m) x
    joined_under_tail x p h b =
        difference_step g (lead m) x (IsMove-lead g move) p (
          move_of_difference g (lead m) x h (IsBelow-transitive (standard n) x (tail m) (lead m) b move.oriented),
          ⊎_elim inl (λ (a, c). inr (ap (weight w) (sym a), inr (sym a, subst (λ u. IsBelow (standard n) u (tail m)) c b)))
              (lead_of_difference g (lead m) x (IsMove-lead g move) p),
        )

    -- the component of the lead lies in its fibre
    pub fibre_of_lead : (x : List ℤ) → Joined n (LighterMoves (lattice_of n rows w) (weight w (lead m))) (lead m) x →
        InLattice n rows (subtract x (tail m))
    fibre_of_lead x j =
        let inside : InLattice n rows (subtract (lead m) x) = same_fibre_of_walk g (λ v (a, l). a.in_lattice) j in
        same_fibre_append g x (lead m) (tail m) (walk_to j) (IsMove-lead g move) (IsMove-tail g move) (same_fibre_back g (lead m) x inside)
        (IsMove-ends g move)

    -- a walk from the lead to a point of the fibre below the lead goes on to the tail
    pub to_tail : (x : List ℤ) → InLattice n rows (subtract x (tail m)) → IsBelow (standard n) x (lead m) →
        Joined n (MovesBefore (lattice_of n rows w) m) (lead m) x →
        Joined n (MovesBefore (lattice_of n rows w) m) (lead m) (tail m)
    to_tail x h b j =
        let q = IsMove-tail g move in
        walk_append j (joined_under_lead x (tail m) (walk_to j) q h (same_fibre_weight g x (tail m) (walk_to j) q h
        ∙ sym (IsMove-same_weight g move)) b move.oriented)

    -- so does a walk by lighter moves to a point below the lead
    pub joined_from_lighter : (x : List ℤ) → Joined n (LighterMoves (lattice_of n rows w) (weight w (lead m))) (lead m) x →
        IsBelow (standard n) x (lead m) →
        Joined n (MovesBefore (lattice_of n rows w) m) (lead m) (tail m)
    joined_from_lighter x j b = to_tail x (fibre_of_lead x j) b (walk_weaker (λ v (a, l). (a, inl l)) (λ u p. p) j)

  -- A divisor of the lead that isn't the least of its fibre can step down, and the lead with it, by a lighter move.
  module _ {m : List ℤ} (move : IsMove n rows m) (y : List ℤ) (p : IsPoint n y) (d : Divides y (lead m)) where
    rest : List ℤ
    rest = subtract (lead m) y

    rest_point : IsPoint n rest
    unfolding rest
    rest_point = IsPoint-quotient (IsMove-lead g move) (omega (arith, p.columns)) d

    with_rest : add y rest ≡ lead m
    unfolding rest
    with_rest = add_difference (lead m) y ((IsMove-lead g move).columns ∙ sym p.columns)

    module _ (lighter : weight w y <ℤ weight w (lead m)) (u : List ℤ) (q : IsPoint n u) (h : InLattice n rows (subtract u y))
        (b : IsBelow (standard n) u y) where
      difference : subtract (lead m) (add u rest) ≡ subtract y u
      unfolding rest
      difference = same_vectors _ _ (omega (arith, lengths, (IsMove-lead g move).columns, p.columns, q.columns))
          (λ c. omega (arith, ints, columns))

      back : InLattice n rows (subtract y u)
      back = same_fibre_back g u y h

      light : weight w (lead (subtract y u)) <ℤ weight w (lead m)
      light = ⊎_elim (λ l. omega (arith, ints, l, lighter)) (λ (e, f). subst (λ v. weight w v <ℤ weight w (lead m)) e lighter)
          (lead_of_difference g y u p q)

      down : Joined n (MovesBefore (lattice_of n rows w) m) (lead m) (add u rest)
      down =
          difference_step g (lead m) (add u rest) (IsMove-lead g move) (IsPoint-add q rest_point)
          (subst (MovesBefore (lattice_of n rows w) m) (sym difference) (move_of_difference g y u back b, inl light))

      below : IsBelow (standard n) (add u rest) (lead m)
      below = subst (IsBelow (standard n) (add u rest)) with_rest (IsBelow-add (standard n) u y rest b)

      pub through_divisor : Joined n (MovesBefore (lattice_of n rows w) m) (lead m) (tail m)
      through_divisor =
          to_tail move (add u rest)
          (same_fibre_append g (add u rest) (lead m) (tail m) (IsPoint-add q rest_point) (IsMove-lead g move) (IsMove-tail g move)
          (same_fibre_back g (lead m) (add u rest) (subst (InLattice n rows) (sym difference) back)) (IsMove-ends g move)) below down

  module _ {m : List ℤ} (essential : IsEssential (lattice_of n rows w) m) where
    pub essential_tail_least : IsLeast n rows (tail m)
    essential_tail_least = record {
      point = IsMove-tail g move;
      none_below = λ x p h b.
          let inside = same_fibre_append g (lead m) (tail m) x (IsMove-lead g move) (IsMove-tail g move) p (IsMove-ends g move)
          (same_fibre_back g x (tail m) h) in
          essential.not_joined (to_tail move x h (IsBelow-transitive (standard n) x (tail m) (lead m) b move.oriented)
          (joined_under_tail move x p inside b));
    }
      where
        move : IsMove n rows m
        move = essential.move

    pub essential_lead_least : IsLeastOfComponent (lattice_of n rows w) (lead m)
    essential_lead_least = record {
      point = IsMove-lead g essential.move;
      none_below = λ x j b. essential.not_joined (joined_from_lighter essential.move x j b);
    }

    pub essential_divisors : (y : List ℤ) → IsPoint n y → Divides y (lead m) → ¬ (y ≡ lead m) → IsLeast n rows y
    essential_divisors y p d apart = record {
      point = p;
      none_below = λ u q h b. essential.not_joined (through_divisor essential.move y p d
          (proper_divisor_lighter g (lead m) y (IsMove-lead g essential.move) p d apart) u q h b);
    }

    pub essential_is_reduced : IsReducedMove n rows m
    essential_is_reduced = record {
      from = lead m;
      to = tail m;
      point = IsMove-lead g move;
      not_least = λ l. l.none_below (tail m) (IsMove-tail g move) (same_fibre_back g (lead m) (tail m) (IsMove-ends g move)) move.oriented;
      divisors = essential_divisors;
      same_fibre = IsMove-ends g move;
      least = essential_tail_least;
      difference = sym (parts m);
    }
      where
        move : IsMove n rows m
        move = essential.move

    pub essential_is_star : IsStarMove (lattice_of n rows w) m
    essential_is_star = record {
      from = lead m;
      to = tail m;
      least_of_component = essential_lead_least;
      same_fibre = IsMove-ends g move;
      least = essential_tail_least;
      apart = λ e. IsOriented-lead_not_tail (standard n) m move.oriented e;
      difference = sym (parts m);
    }
      where
        move : IsMove n rows m
        move = essential.move

  -- a move from the least vector of a component to the least vector of the fibre is essential
  module _ {m : List ℤ} (move : IsMove n rows m) (first : IsLeastOfComponent (lattice_of n rows w) (lead m))
      (last : IsLeast n rows (tail m)) where
    abbrev Lighter : List ℤ → Type 0
    Lighter = LighterMoves (lattice_of n rows w) (weight w (lead m))

    -- a step by a move before it, from a vertex of the component, is by a lighter move
    step_is_lighter : (x y v : List ℤ) → Joined n Lighter (lead m) x → IsPoint n y → IsMove n rows v → ComesBefore n w v m → (y ≡ add x v)
        ⊎ (y ≡ subtract x v) → weight w (lead v) <ℤ weight w (lead m)
    step_is_lighter x y v j q a (inl l) s = l
    step_is_lighter x y v j q a (inr (e, k)) s =
        ⊎_elim (λ l. omega (
          arith,
          ints,
          l,
          same_fibre_weight g x (tail m) (walk_to j) (IsMove-tail g move) (fibre_of_lead move x j),
          IsMove-same_weight g move,
        ))
        (λ ends. absurd (refuse ends k)) (ends_of_step g x y v (walk_to j) q a.in_lattice s)
      where
        lead_high : IsBelow (standard n) (lead v) (lead m) → (u : List ℤ) → (u ≡ lead v) ⊎ (u ≡ tail v) → IsBelow (standard n) u (lead m)
        lead_high b u (inl d) = subst (λ u. IsBelow (standard n) u (lead m)) (sym d) b
        lead_high b u (inr d) = subst (λ u. IsBelow (standard n) u (lead m)) (sym d)
            (IsBelow-transitive (standard n) (tail v) (lead v) (lead m) a.oriented b)

        y_fibre : InLattice n rows (subtract y (tail m))
        y_fibre =
            same_fibre_append g y x (tail m) q (walk_to j) (IsMove-tail g move)
            (same_fibre_back g x y (same_fibre_step g {moves = λ u. u ≡ v} (λ u e. subst (InLattice n rows) (sym e) a.in_lattice) x y
            (walk_to j) (v, refl, s))) (fibre_of_lead move x j)

        x_end : AreEnds v x y → (x ≡ lead v) ⊎ (x ≡ tail v)
        x_end (inl (d, f)) = inl d
        x_end (inr (d, f)) = inr d

        refuse : AreEnds v x y → IsBelow (standard n) (lead v) (lead m) ⊎ ((lead v ≡ lead m) × IsBelow (standard n) (tail v) (tail m)) → ⊥
        refuse ends (inl b) = first.none_below x j (lead_high b x (x_end ends))
        refuse (inl (d, f)) (inr (i, b)) = last.none_below y q y_fibre (subst (λ u. IsBelow (standard n) u (tail m)) (sym f) b)
        refuse (inr (d, f)) (inr (i, b)) = last.none_below x (walk_to j) (fibre_of_lead move x j)
            (subst (λ u. IsBelow (standard n) u (tail m)) (sym d) b)

    stays_lighter : (x y : List ℤ) → Joined n Lighter (lead m) x → Joined n (MovesBefore (lattice_of n rows w) m) x y →
        Joined n Lighter (lead m) y
    stays_lighter x y j (stay p) = j
    stays_lighter x y j (step {y = z} p (v, (a, k), s) r) =
        stays_lighter z y (walk_append j (one_step p (walk_from r) (v, (a, step_is_lighter x z v j (walk_from r) a k s), s))) r

    pub essential_from_ends : IsEssential (lattice_of n rows w) m
    essential_from_ends = record {
      move = move;
      not_joined = λ r. first.none_below (tail m) (stays_lighter (lead m) (tail m) (stay (IsMove-lead g move)) r) move.oriented;
    }

  module _ {m : List ℤ} (star : IsStarMove (lattice_of n rows w) m) where
    star_ordered : IsBelow (standard n) star.to star.from
    star_ordered = go (total_points g star.to star.from star.least.point star.least_of_component.point)
      where
        go : (IsBelow (standard n) star.to star.from ⊎ IsBelow (standard n) star.from star.to) ⊎ (star.to ≡ star.from) →
            IsBelow (standard n) star.to star.from
        go (inl (inl b)) = b
        go (inl (inr b)) = absurd (star.least.none_below star.from star.least_of_component.point star.same_fibre b)
        go (inr e) = absurd (star.apart (sym e))

    pub star_move : IsMove n rows m
    star_move = subst (IsMove n rows) (sym star.difference) (move_of_difference g star.from star.to star.same_fibre star_ordered)

    pub star_ends : (star.from ≡ lead m) × (star.to ≡ tail m)
    star_ends =
        subst (λ u. (star.from ≡ lead u) × (star.to ≡ tail u)) (sym star.difference)
        (⊎_elim (λ l. absurd (joined l)) (λ e. e) (lead_of_difference g star.from star.to star.least_of_component.point star.least.point))
      where
        joined : weight w (lead (subtract star.from star.to)) <ℤ weight w star.from → ⊥
        joined l =
            star.least_of_component.none_below star.to
            (difference_step g star.from star.to star.least_of_component.point star.least.point
            (move_of_difference g star.from star.to star.same_fibre star_ordered, l)) star_ordered

    pub star_is_essential : IsEssential (lattice_of n rows w) m
    star_is_essential =
        let (e, d) = star_ends in
        essential_from_ends star_move (subst (IsLeastOfComponent (lattice_of n rows w)) e star.least_of_component)
        (subst (IsLeast n rows) d star.least)
