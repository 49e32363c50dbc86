-- A saturated list of moves: the vectors without a step down are the least of their fibres, and the least vectors that
-- aren't are its leads.
use Rattle.std.proofs.Common.{[], ◌≡◌, ◌⊎◌, inl, inr, ℕ, ◌<◌, List, length, get_or, ℤ, Contains, arith, ap, refl, sym, ◌∙◌, subst, ⊎_elim}
use Rattle.std.proofs.lemmas.Int.{ints}
use Rattle.std.proofs.lemmas.List.{get_or_default}
use Rattle.std.proofs.lemmas.List.Elements.{All-contains}
use Rattle.mk_model.specs.Vectors.{subtract, IsPoint}
use Rattle.mk_model.specs.Lattices.{lattice_of, InLattice, HasGrading}
use Rattle.mk_model.specs.Walks.{Members}
use Rattle.mk_model.specs.Orders.{IsOriented, standard, lead}
use Rattle.mk_model.specs.Bases.{IsMarkov, IsMove}
use Rattle.mk_model.specs.Reductions.{Divides, IsDescent, IsIrreducible}
use Rattle.mk_model.specs.ReducedBases.{IsLeast}
use Rattle.mk_model.specs.Pairs.{AreOrientedMoves, EveryPairJoined}
use Rattle.mk_model.specs.Saturation.{NoneRedundant}
use Rattle.mk_model.proofs.VectorAlgebra.{same_vectors}
use Rattle.mk_model.proofs.OrderLaws.{IsBelow-not_same, IsBelow-asymmetric}
use Rattle.mk_model.proofs.MoveLaws.{IsMove-lead}
use Rattle.mk_model.proofs.Fibres.{same_fibre_back, same_fibre_step}
use Rattle.mk_model.proofs.Divisors.{Divides-itself, Divides-transitive, divides_or_not}
use Rattle.mk_model.proofs.Confluence.{descent_point, descent_below}
use Rattle.mk_model.proofs.NormalForms.{descent_or_none, irreducible_is_least}

-- moves of a lattice, a Markov basis of it, completed along the standard list, of which none is redundant
pub record AreSaturated (n : ℕ) (rows : List (List ℤ)) (w : List ℤ) (moves : List (List ℤ)) : Type 0 where
  pub oriented : AreOrientedMoves (lattice_of n rows w) (standard n) moves
  pub joined : EveryPairJoined n (standard n) moves
  pub markov : IsMarkov n rows moves
  pub apart : NoneRedundant moves

-- two points that divide each other are equal
pub same_from_divisors : {n : ℕ} {x y : List ℤ} → IsPoint n x → IsPoint n y → Divides x y → Divides y x → x ≡ y
same_from_divisors {x = x} {y = y} p q d e = same_vectors x y (p.columns ∙ sym q.columns) (λ c. omega (arith, ints, d.entries c, e.entries c))

module _ {n : ℕ} {rows : List (List ℤ)} {w : List ℤ} {moves : List (List ℤ)} (s : AreSaturated n rows w moves) where
  abbrev grading : HasGrading (lattice_of n rows w)
  grading = s.oriented.grading

  pub member_move : (v : List ℤ) → Contains moves v → IsMove n rows v
  member_move v h = record {
    in_lattice = All-contains (InLattice n rows) moves v s.oriented.in_lattice h;
    oriented = All-contains (IsOriented (standard n)) moves v s.oriented.oriented h;
  }

  pub irreducible_least : (x : List ℤ) → IsPoint n x → IsIrreducible moves x → IsLeast n rows x
  irreducible_least x p f = record {
    point = p;
    none_below = λ y q h b. ⊎_elim (λ e. IsBelow-not_same (standard n) y x (sym e) b) (λ c. IsBelow-asymmetric (standard n) x y c b)
        (irreducible_is_least s.oriented s.markov s.joined x y f p q h);
  }

  pub least_irreducible : (x : List ℤ) → IsLeast n rows x → IsIrreducible moves x
  least_irreducible x l v h d =
      let step : IsDescent moves x (subtract x v) = record { move = v; member = h; divides = d; below = refl } in
      let inside = same_fibre_step grading {moves = Members moves} (λ m k. (member_move m k).in_lattice) x (subtract x v) l.point (v, h, inr refl) in
      l.none_below (subtract x v) (descent_point s.oriented l.point step) (same_fibre_back grading x (subtract x v) inside) (descent_below s.oriented l.point step)

  -- ---- the leads
  pub lead_point : (v : List ℤ) → Contains moves v → IsPoint n (lead v)
  lead_point v h = IsMove-lead grading (member_move v h)

  pub lead_not_least : (v : List ℤ) → Contains moves v → ¬ (IsLeast n rows (lead v))
  lead_not_least v h l = least_irreducible (lead v) l v h (Divides-itself (lead v))

  -- the moves of two places, where the lead of the one divides that of the other
  divided : (i j : ℕ) (d : List ℤ) → i < length moves → j < length moves → Divides (lead (get_or moves i d)) (lead (get_or moves j d)) → i ≡ j
  divided i j d l k e = go (cases i j)
    where
      cases : (i j : ℕ) → (i < j) ⊎ (j < i) ⊎ (i ≡ j)
      cases i j = grind arith

      go : (i < j) ⊎ (j < i) ⊎ (i ≡ j) → i ≡ j
      go (inl c) = absurd ((s.apart i j d c k).0 e)
      go (inr (inl c)) = absurd ((s.apart j i d c l).1 e)
      go (inr (inr c)) = c

  -- different places have different leads
  pub leads_apart : (i j : ℕ) → i < length moves → j < length moves → lead (get_or moves i []) ≡ lead (get_or moves j []) → i ≡ j
  leads_apart i j l k e = divided i j [] l k (subst (Divides (lead (get_or moves i []))) e (Divides-itself (lead (get_or moves i []))))

  -- a move whose lead divides that of another is that move
  pub lead_once : (u v : List ℤ) → Contains moves u → Contains moves v → Divides (lead u) (lead v) → u ≡ v
  lead_once u v (i, l, e) (j, k, f) d =
      let g : get_or moves j u ≡ v = get_or_default moves j u v k ∙ f in
      let same : i ≡ j = divided i j u l k (rw (e, g) d) in
      sym e ∙ ap (λ k. get_or moves k u) same ∙ g

  pub lead_divisor_least : (v : List ℤ) → Contains moves v → (y : List ℤ) → IsPoint n y → Divides y (lead v) → ¬ (y ≡ lead v) → IsLeast n rows y
  lead_divisor_least v h y p d apart = irreducible_least y p none
    where
      none : IsIrreducible moves y
      none u k e =
          let same : u ≡ v = lead_once u v k h (Divides-transitive e d) in
          apart (same_from_divisors p (lead_point v h) d (subst (λ z. Divides (lead z) y) same e))

  -- a vector that isn't the least of its fibre, while each other vector that divides it is, is a lead
  pub lead_of_not_least : (x : List ℤ) → IsPoint n x → ¬ (IsLeast n rows x) →
      ((y : List ℤ) → IsPoint n y → Divides y x → ¬ (y ≡ x) → IsLeast n rows y) → (v : List ℤ) × Contains moves v × (lead v ≡ x)
  lead_of_not_least x p not_least divisors = go (descent_or_none moves x)
    where
      go : ((y : List ℤ) × IsDescent moves x y) ⊎ IsIrreducible moves x → (v : List ℤ) × Contains moves v × (lead v ≡ x)
      go (inr none) = absurd (not_least (irreducible_least x p none))
      go (inl (y, d)) = (d.move, d.member, ⊎_elim same other (divides_or_not x (lead d.move)))
        where
          q : IsPoint n (lead d.move)
          q = lead_point d.move d.member

          same : Divides x (lead d.move) → lead d.move ≡ x
          same e = same_from_divisors q p d.divides e

          other : ¬ (Divides x (lead d.move)) → lead d.move ≡ x
          other e = absurd (lead_not_least d.move d.member (divisors (lead d.move) q d.divides (λ f. e (subst (λ z. Divides z (lead d.move)) f (Divides-itself (lead d.move))))))
