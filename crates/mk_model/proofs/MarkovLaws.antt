-- The essential moves join every fibre.
use Rattle.std.proofs.Common.{◌≡◌, ◌⊎◌, inl, inr, ℕ, List, length, Option, None, ℤ, ◌≤ℤ◌, Contains, arith, ap, sym, ◌∙◌, ⊎_elim}
use Rattle.std.proofs.lemmas.Int.{ints}
use Rattle.std.proofs.lemmas.List.Elements.{All-weaker}
use Rattle.mk_model.specs.Vectors.{add, subtract, negate, positive_part, negative_part, weight, IsPoint}
use Rattle.mk_model.specs.Lattices.{Lattice, lattice_of, InLattice, HasGrading}
use Rattle.mk_model.specs.Orders.{standard, lead, tail, IsBelow, ComesBefore}
use Rattle.mk_model.specs.Walks.{Joined, Members}
use Rattle.mk_model.specs.Walks.Walk.{stay}
use Rattle.mk_model.specs.Bases.{IsMove, MovesBefore, IsEssentialUpTo, IsAnswer, IsUpTo, IsMarkov, IsMarkovUpTo}
use Rattle.mk_model.proofs.VectorAlgebra.{lengths, columns, same_vectors, positive_part-negate, negative_part-negate}
use Rattle.mk_model.proofs.OrderLaws.{IsBelow-total_standard}
use Rattle.mk_model.proofs.WalkLaws.{walk_back, one_step}
use Rattle.mk_model.proofs.LatticeLaws.{InLattice-columns, InLattice-negate}
use Rattle.mk_model.proofs.MoveLaws.{IsMove-columns, IsMove-lead, IsMove-tail, IsMove-same_weight}
use Rattle.mk_model.proofs.Fibres.{joined_by_parts, walk_replace, step_by_parts, shared, positive_and_shared, negative_and_shared}
use Rattle.mk_model.proofs.Fibres.{lead_of_difference}
use Rattle.mk_model.proofs.MoveRanks.{by_move_order}
use Rattle.mk_model.proofs.WeightBounds.{IsUpTo-no_heavier, ComesBefore-no_heavier}

-- the tail is the lead less the move
pub tail_from_lead : (m : List ℤ) → tail m ≡ subtract (lead m) m
tail_from_lead m = same_vectors _ _ (omega (arith, lengths)) (λ c. omega (arith, ints, columns))

module _ {n : ℕ} {rows : List (List ℤ)} {w : List ℤ} (g : HasGrading (lattice_of n rows w)) where
  -- Moves that join the ends of each move of the lattice up to a weight join every fibre up to it.
  pub joined_from_ends : {others : List ℤ → Type 0} (upto : Option ℕ) →
      ((m : List ℤ) → IsMove n rows m → IsUpTo upto (weight w (lead m)) → Joined n others (lead m) (tail m)) →
      (x y : List ℤ) → IsPoint n x → IsPoint n y → IsUpTo upto (weight w x) → InLattice n rows (subtract x y) → Joined n others x y
  joined_from_ends {others} upto f x y p q light h = go (IsBelow-total_standard n (negative_part d) (positive_part d)
      (omega (arith, lengths, k)) (omega (arith, lengths, k)))
    where
      d : List ℤ
      d = subtract x y

      k : length d ≡ n
      k = InLattice-columns n rows d g.rows_columns h

      same_columns : length x ≡ length y
      same_columns = p.columns ∙ sym q.columns

      no_heavier : weight w (positive_part d) ≤ℤ weight w x
      no_heavier = ⊎_elim (λ l. omega (arith, ints, l)) (λ (e, _). omega (arith, ints, ap (weight w) e)) (lead_of_difference g x y p q)

      turned : IsMove n rows (negate d) → Joined n others (positive_part d) (negative_part d)
      turned b =
          let l : weight w (lead (negate d)) ≤ℤ weight w x = omega (
            arith,
            ints,
            no_heavier,
            IsMove-same_weight g b,
            ap (weight w) (negative_part-negate d),
          ) in
          walk_back (rw (positive_part-negate, negative_part-negate) at (f (negate d) b (IsUpTo-no_heavier upto _ _ l light)))

      go : (IsBelow (standard n) (negative_part d) (positive_part d) ⊎ IsBelow (standard n) (positive_part d) (negative_part d))
          ⊎ (negative_part d ≡ positive_part d) → Joined n others x y
      go (inl (inl o)) = joined_by_parts p q (f d (record { in_lattice = h; oriented = o }) (IsUpTo-no_heavier upto _ _ no_heavier light))
      go (inl (inr o)) = joined_by_parts p q (turned (record {
        in_lattice = InLattice-negate n rows d h;
        oriented = simp (positive_part-negate, negative_part-negate) o;
      }))
      go (inr e) =
          let s : x ≡ y = sym (positive_and_shared x y same_columns) ∙ ap (λ v. add v (shared x y)) (sym e)
          ∙ negative_and_shared x y same_columns in
          rw s (stay q)

  module _ {upto : Option ℕ} {moves : List (List ℤ)} (a : IsAnswer (lattice_of n rows w) upto moves) where
    abbrev HasJoinedEnds : List ℤ → Type 0
    HasJoinedEnds m = IsUpTo upto (weight w (lead m)) → Joined n (Members moves) (lead m) (tail m)

    -- the ends of each move up to the bound are joined by members: those before it are no heavier
    pub ends_joined : (m : List ℤ) → IsMove n rows m → HasJoinedEnds m
    ends_joined = by_move_order g HasJoinedEnds (λ m b below light. from m b light below (a.complete m b light))
      where
        from : (m : List ℤ) → IsMove n rows m → IsUpTo upto (weight w (lead m)) →
            ((v : List ℤ) → IsMove n rows v → ComesBefore n w v m → HasJoinedEnds v) →
            Contains moves m ⊎ Joined n (MovesBefore (lattice_of n rows w) m) (lead m) (tail m) → Joined n (Members moves) (lead m) (tail m)
        from m b light below (inl c) = one_step (IsMove-lead g b) (IsMove-tail g b) (m, c, inr (tail_from_lead m))
        from m b light below (inr j) =
            walk_replace {moves = MovesBefore (lattice_of n rows w) m} {others = Members moves}
            (λ x y p q (v, (e, k), s). step_by_parts v (IsMove-columns g e) p q s
            (below v e k (IsUpTo-no_heavier upto _ _ (ComesBefore-no_heavier n w v m k) light))) j

    pub markov_from_answer : IsMarkovUpTo (lattice_of n rows w) upto moves
    markov_from_answer = record {
      in_lattice = All-weaker (IsEssentialUpTo (lattice_of n rows w) upto) (InLattice n rows)
          (λ m e. e.essential.move.in_lattice) moves a.essential;
      joins = λ x y p q h. joined_from_ends {others = Members moves} upto ends_joined x y p.point q.point p.light h;
    }

-- without a bound
pub markov_from_none : (lattice : Lattice) (moves : List (List ℤ)) → IsMarkovUpTo lattice None moves →
    IsMarkov lattice.columns lattice.rows moves
markov_from_none lattice moves a = record {
  in_lattice = a.in_lattice;
  joins = λ x y p q h. a.joins x y (record { point = p; light = tt }) (record { point = q; light = tt }) h;
}

pub markov_to_none : (lattice : Lattice) (moves : List (List ℤ)) → IsMarkov lattice.columns lattice.rows moves →
    IsMarkovUpTo lattice None moves
markov_to_none lattice moves a = record { in_lattice = a.in_lattice; joins = λ x y p q h. a.joins x y p.point q.point h }
