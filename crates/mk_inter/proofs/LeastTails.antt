-- Tails of a saturated list: where the tail of a move steps down, the lead stays, and at the end the move is one of the
-- reduced basis.
use Rattle.std.proofs.Common.{◌≡◌, ℕ, zero, suc, ◌≤◌, ◌<◌, List, length, ℤ, pos, ◌<ℤ◌, Contains, arith, ap, sym, ◌∙◌, subst, ⊎_elim}
use Rattle.std.proofs.lemmas.Int.{ints}
use borrow.Author.Differences.{up}
use Rattle.mk_model.specs.Vectors.{add, subtract, scale, weight, IsPoint}
use Rattle.mk_model.specs.Lattices.{lattice_of, InLattice, HasGrading}
use Rattle.mk_model.specs.Orders.{IsBelow, IsOriented, standard, lead, tail}
use Rattle.mk_model.specs.Bases.{IsMove}
use Rattle.mk_model.specs.Reductions.{Divides, IsIrreducible}
use Rattle.mk_model.specs.ReducedBases.{IsReducedMove}
use Rattle.mk_model.proofs.VectorAlgebra.{lengths, columns, same_vectors, parts, positive_part-scale}
use Rattle.mk_model.proofs.OrderLaws.{IsBelow-subtract, IsBelow-transitive, IsOriented-scale}
use Rattle.mk_model.proofs.LatticeLaws.{InLattice-scale}
use Rattle.mk_model.proofs.MoveLaws.{IsMove-columns, IsMove-lead, IsMove-tail, IsMove-ends, IsMove-same_weight}
use Rattle.mk_model.proofs.Fibres.{less_less, lead_of_difference, move_of_difference, same_fibre_back, same_fibre_append}
use Rattle.mk_model.proofs.MoveRanks.{rank_of_points}
use Rattle.mk_model.proofs.Ranks.{rank}
use Rattle.mk_model.proofs.Divisors.{Divides-positive_part, IsPoint-lower}
use Rattle.mk_model.proofs.ReducedLaws.{one_least, reduced_ends}
use Rattle.mk_inter.proofs.SaturatedLists.{AreSaturated, member_move, irreducible_least, lead_point, lead_not_least, lead_divisor_least, lead_of_not_least}

-- a move of the lattice whose lead is that of v
pub record HasLeadOf (n : ℕ) (rows : List (List ℤ)) (v r : List ℤ) : Type 0 where
  pub move : IsMove n rows r
  pub same_lead : lead r ≡ lead v

-- how high the tail stands
abbrev pub tail_rank : ℕ → List ℤ → List ℤ → ℕ
tail_rank n w r = rank (up (weight w (tail r))) (standard n) (tail r)

oriented_times : (p : List ℕ) (k : ℕ) (m : List ℤ) → 1 ≤ k → IsOriented p m → IsOriented p (scale (pos k) m)
oriented_times p zero m l h = absurd (omega arith)
oriented_times p (suc k) m l h = IsOriented-scale p k m h

-- the lead minus what is left of the tail
stepped : (r m : List ℤ) → length m ≡ length r → subtract (lead r) (subtract (tail r) m) ≡ add r m
stepped r m l = same_vectors _ _ (omega (arith, lengths)) (λ c. omega (arith, ints, columns))

module _ {n : ℕ} {rows : List (List ℤ)} {w : List ℤ} {moves : List (List ℤ)} (s : AreSaturated n rows w moves) where
  abbrev grading : HasGrading (lattice_of n rows w)
  grading = s.oriented.grading

  -- a lead and a vector below it in its fibre have no column in common: they are the ends of their difference
  lower_ends : (v : List ℤ) → Contains moves v → (z : List ℤ) → IsPoint n z → InLattice n rows (subtract (lead v) z) → IsBelow (standard n) z (lead v) →
      (lead v ≡ lead (subtract (lead v) z)) × (z ≡ tail (subtract (lead v) z))
  lower_ends v h z q k b = ⊎_elim (λ l. absurd (refuse l)) (λ e. e) (lead_of_difference grading (lead v) z (lead_point s v h) q)
    where
      d : List ℤ
      d = subtract (lead v) z

      move : IsMove n rows d
      move = move_of_difference grading (lead v) z k b

      refuse : weight w (lead d) <ℤ weight w (lead v) → ⊥
      refuse l =
          let least = lead_divisor_least s v h (lead d) (IsMove-lead grading move) (Divides-positive_part (lead_point s v h) q) (λ e. omega (arith, ints, l, ap (weight w) e)) in
          least.none_below (tail d) (IsMove-tail grading move) (same_fibre_back grading (lead d) (tail d) (IsMove-ends grading move)) move.oriented

  -- ---- one step on the tail
  module _ (v : List ℤ) (h : Contains moves v) (r : List ℤ) (kept : HasLeadOf n rows v r) (u : List ℤ) (i : Contains moves u) (k : ℕ) (some : 1 ≤ k) (d : Divides (scale (pos k) (lead u)) (tail r)) where
    abbrev taken : List ℤ
    taken = scale (pos k) u

    abbrev rest : List ℤ
    rest = subtract (tail r) taken

    columns_of_r : length r ≡ n
    columns_of_r = IsMove-columns grading kept.move

    columns_of_u : length taken ≡ n
    columns_of_u = omega (arith, lengths, IsMove-columns grading (member_move s u i))

    tail_point : IsPoint n (tail r)
    tail_point = IsMove-tail grading kept.move

    rest_point : IsPoint n rest
    rest_point = IsPoint-lower taken tail_point (omega (arith, columns_of_u)) (rw (positive_part-scale k u) d)

    rest_below : IsBelow (standard n) rest (tail r)
    rest_below = IsBelow-subtract (standard n) (tail r) taken (oriented_times (standard n) k u some (member_move s u i).oriented)

    rest_in_fibre : InLattice n rows (subtract (tail r) rest)
    rest_in_fibre = subst (InLattice n rows) (sym (less_less (tail r) taken (omega (arith, tail_point.columns, columns_of_u)))) (InLattice-scale n rows (pos k) u (member_move s u i).in_lattice)

    under_lead : InLattice n rows (subtract (lead r) rest)
    under_lead = same_fibre_append grading (lead r) (tail r) rest (IsMove-lead grading kept.move) tail_point rest_point (IsMove-ends grading kept.move) rest_in_fibre

    below_lead : IsBelow (standard n) rest (lead r)
    below_lead = IsBelow-transitive (standard n) rest (tail r) (lead r) rest_below kept.move.oriented

    ends : (lead v ≡ lead (add r taken)) × (rest ≡ tail (add r taken))
    ends =
        subst (λ x. (lead v ≡ lead x) × (rest ≡ tail x)) (ap (λ x. subtract x rest) (sym kept.same_lead) ∙ stepped r taken (columns_of_u ∙ sym columns_of_r))
        (lower_ends v h rest rest_point (subst (λ x. InLattice n rows (subtract x rest)) kept.same_lead under_lead) (subst (IsBelow (standard n) rest) kept.same_lead below_lead))

    pub step_keeps_lead : HasLeadOf n rows v (add r taken)
    step_keeps_lead = record {
      move = subst (IsMove n rows) (stepped r taken (columns_of_u ∙ sym columns_of_r)) (move_of_difference grading (lead r) rest under_lead below_lead);
      same_lead = sym ends.0;
    }

    pub step_below : IsBelow (standard n) (tail (add r taken)) (tail r)
    step_below = subst (λ x. IsBelow (standard n) x (tail r)) ends.1 rest_below

  -- of two moves with one lead, the tail that is below the other stands lower
  pub tail_falls : (v r t : List ℤ) → HasLeadOf n rows v r → HasLeadOf n rows v t → IsBelow (standard n) (tail t) (tail r) → tail_rank n w t < tail_rank n w r
  tail_falls v r t h k b =
      let same : weight w (tail t) ≡ weight w (tail r) =
      sym (IsMove-same_weight grading k.move) ∙ ap (weight w) (k.same_lead ∙ sym h.same_lead) ∙ IsMove-same_weight grading h.move in
      rank_of_points grading (tail t) (tail r) (IsMove-tail grading k.move) (IsMove-tail grading h.move) same b

  -- a tail without a step down
  pub tail_reduced : (v : List ℤ) → Contains moves v → (r : List ℤ) → HasLeadOf n rows v r → IsIrreducible moves (tail r) → IsReducedMove n rows r
  tail_reduced v h r kept f = record {
    from = lead v;
    to = tail r;
    point = lead_point s v h;
    not_least = lead_not_least s v h;
    divisors = lead_divisor_least s v h;
    same_fibre = subst (λ x. InLattice n rows (subtract x (tail r))) kept.same_lead (IsMove-ends grading kept.move);
    least = irreducible_least s (tail r) (IsMove-tail grading kept.move) f;
    difference = sym (ap (λ x. subtract x (tail r)) (sym kept.same_lead) ∙ parts r);
  }

  -- a move of the reduced basis begins at a lead
  pub reduced_from_lead : (m : List ℤ) → IsReducedMove n rows m → (v : List ℤ) × Contains moves v × (lead v ≡ lead m)
  reduced_from_lead m reduced =
      let (v, h, e) = lead_of_not_least s reduced.from reduced.point reduced.not_least reduced.divisors in
      (v, h, e ∙ (reduced_ends grading reduced).0)

-- a lead has one move of the reduced basis
pub reduced_once : {n : ℕ} {rows : List (List ℤ)} {w : List ℤ} (g : HasGrading (lattice_of n rows w)) (a b : List ℤ) → IsReducedMove n rows a → IsReducedMove n rows b → lead a ≡ lead b → a ≡ b
reduced_once {n} {rows} g a b r q e =
    r.difference ∙ ap (λ x. subtract x r.to) from ∙ ap (subtract q.from) to ∙ sym q.difference
  where
    from : r.from ≡ q.from
    from = (reduced_ends g r).0 ∙ e ∙ sym (reduced_ends g q).0

    to : r.to ≡ q.to
    to =
        one_least g r.to q.to r.least q.least
        (same_fibre_append g r.to r.from q.to r.least.point r.point q.least.point (same_fibre_back g r.from r.to r.same_fibre)
        (subst (λ x. InLattice n rows (subtract x q.to)) (sym from) q.same_fibre))
