-- Moves of a lattice are its reduced basis if no fibre has two vectors that no lead divides.
use Rattle.std.proofs.Common.{◌≡◌, ◌⊎◌, inl, inr, ℕ, Bool, true, false, not, ◌||◌, List, ℤ, AllPairs, Contains, arith, ap, refl, sym, ◌∙◌, subst, ⊎_elim}
use Rattle.std.specs.List.{list_all}
use Rattle.std.specs.Ordering.{int_eq}
use Rattle.std.specs.Cmp.Lexicographic.{pointwise}
use Rattle.std.proofs.lemmas.Bool.Decides.{Decides-int_eq}
use Rattle.std.proofs.lemmas.Int.{ints}
use Rattle.std.proofs.lemmas.List.Elements.{All-contains}
use Rattle.std.proofs.lemmas.List.Sums.{AllPass-from_list_all}
use Rattle.std.proofs.lemmas.Slice.Eq.{slice_eq-Decides}
use Rattle.mk_model.specs.Vectors.{subtract, weight, IsPoint}
use Rattle.mk_model.specs.Lattices.{lattice_of, InLattice, HasGrading}
use Rattle.mk_model.specs.Orders.{IsBelow, IsOriented, standard, lead, tail, ComesBefore}
use Rattle.mk_model.specs.Bases.{IsMove}
use Rattle.mk_model.specs.Reductions.{Divides, IsDescent, IsIrreducible}
use Rattle.mk_model.specs.ReducedBases.{IsLeast, IsReducedMove, IsReducedBasis}
use Rattle.mk_model.specs.Pairs.{AreOrientedMoves}
use Rattle.mk_model.specs.Saturation.{divides}
use Rattle.mk_model.proofs.VectorAlgebra.{same_vectors, parts}
use Rattle.mk_model.proofs.OrderLaws.{IsBelow-not_same, IsBelow-asymmetric}
use Rattle.mk_model.proofs.WalkLaws.{walk_to}
use Rattle.mk_model.proofs.MoveLaws.{IsMove-lead, IsMove-tail, IsMove-ends}
use Rattle.mk_model.proofs.Fibres.{same_fibre_of_walk, same_fibre_back, same_fibre_append}
use Rattle.mk_model.proofs.Divisors.{Decides-divides, Divides-transitive}
use Rattle.mk_model.proofs.DivisorWeights.{divisor_cases}
use Rattle.mk_model.proofs.NormalForms.{All-from_contains, LeastReach, least_reach, reach_below, reach_joined, descent_or_none}
use Rattle.mk_model.proofs.ReducedLaws.{one_least}

-- does each lead divide no other, and no tail
abbrev same_vector : List ℤ → List ℤ → Bool
same_vector x y = pointwise int_eq x y

abbrev pub leads_apart : List (List ℤ) → Bool
leads_apart moves = list_all (λ u. list_all (λ v. not (divides (lead u) (lead v)) || same_vector u v) moves) moves

abbrev pub tails_undivided : List (List ℤ) → Bool
tails_undivided moves = list_all (λ u. list_all (λ v. not (divides (lead u) (tail v))) moves) moves

passes : (test : List ℤ → List ℤ → Bool) (moves : List (List ℤ)) → list_all (λ u. list_all (test u) moves) moves ≡ true → (u v : List ℤ) →
    Contains moves u → Contains moves v → test u v ≡ true
passes test moves e u v h k =
    let each : list_all (test u) moves ≡ true = All-contains (λ u. list_all (test u) moves ≡ true) moves u
    (AllPass-from_list_all (λ u. list_all (test u) moves) moves e) h in
    All-contains (λ v. test u v ≡ true) moves v (AllPass-from_list_all (test u) moves each) k

lead_once : (moves : List (List ℤ)) → leads_apart moves ≡ true → (u v : List ℤ) → Contains moves u → Contains moves v →
    Divides (lead u) (lead v) → u ≡ v
lead_once moves e u v h k d = go (passes (λ u v. not (divides (lead u) (lead v)) || same_vector u v) moves e u v h k)
    ((Decides-divides (lead u) (lead v)).1 d)
  where
    go : not (divides (lead u) (lead v)) || same_vector u v ≡ true → divides (lead u) (lead v) ≡ true → u ≡ v
    go t s = (slice_eq-Decides Decides-int_eq u v _ refl).0 (rw s at t)

tail_undivided : (moves : List (List ℤ)) → tails_undivided moves ≡ true → (v : List ℤ) → Contains moves v → IsIrreducible moves (tail v)
tail_undivided moves e v k u h d = go (passes (λ u v. not (divides (lead u) (tail v))) moves e u v h k)
    ((Decides-divides (lead u) (tail v)).1 d)
  where
    go : not (divides (lead u) (tail v)) ≡ true → divides (lead u) (tail v) ≡ true → ⊥
    go t s = let f : false ≡ true = rw s at t in cc

module _ {n : ℕ} {rows : List (List ℤ)} {w : List ℤ} (g : HasGrading (lattice_of n rows w)) (moves : List (List ℤ))
    (members : (m : List ℤ) → Contains moves m → IsMove n rows m)
    (one : (x y : List ℤ) → IsPoint n x → IsPoint n y → InLattice n rows (subtract x y) → IsIrreducible moves x → IsIrreducible moves y →
    x ≡ y) where
  oriented_members : AreOrientedMoves (lattice_of n rows w) (standard n) moves
  oriented_members = record {
    grading = g;
    in_lattice = All-from_contains (InLattice n rows) moves (λ m h. (members m h).in_lattice);
    oriented = All-from_contains (IsOriented (standard n)) moves (λ m h. (members m h).oriented);
  }

  -- each vector of its fibre steps down to it
  undivided_is_least : (x : List ℤ) → IsPoint n x → IsIrreducible moves x → IsLeast n rows x
  undivided_is_least x p none = record { point = p; none_below = λ y q h b. refuse y q h b (least_reach oriented_members y q) }
    where
      refuse : (y : List ℤ) → IsPoint n y → InLattice n rows (subtract y x) → IsBelow (standard n) y x → LeastReach moves y → ⊥
      refuse y q h b r =
          let walk = reach_joined oriented_members q r.reach in
          let inside : InLattice n rows (subtract y r.least) = same_fibre_of_walk g (λ m k. (members m k).in_lattice) walk in
          let end = walk_to walk in
          let same : r.least ≡ x = one r.least x end p (same_fibre_append g r.least y x end q p (same_fibre_back g y r.least inside) h)
          r.irreducible none in
          ⊎_elim (λ e. IsBelow-not_same (standard n) y x (sym e ∙ same) b)
          (λ c. IsBelow-asymmetric (standard n) y x b (subst (λ z. IsBelow (standard n) z y) same c))
          (reach_below oriented_members q r.reach)

  lead_not_least : (v : List ℤ) → Contains moves v → ¬ (IsLeast n rows (lead v))
  lead_not_least v h l =
      let a = members v h in
      l.none_below (tail v) (IsMove-tail g a) (same_fibre_back g (lead v) (tail v) (IsMove-ends g a)) a.oriented

  module _ (apart : leads_apart moves ≡ true) (tails : tails_undivided moves ≡ true) where
    member_is_reduced : (m : List ℤ) → Contains moves m → IsReducedMove n rows m
    member_is_reduced m h = record {
      from = lead m;
      to = tail m;
      point = IsMove-lead g (members m h);
      not_least = lead_not_least m h;
      divisors = λ y q d ne. undivided_is_least y q (λ u k e. ne (same y q d
          (subst (λ v. Divides (lead v) y) (lead_once moves apart u m k h (Divides-transitive e d)) e)));
      same_fibre = IsMove-ends g (members m h);
      least = undivided_is_least (tail m) (IsMove-tail g (members m h)) (tail_undivided moves tails m h);
      difference = sym (parts m);
    }
      where
        same : (y : List ℤ) → IsPoint n y → Divides y (lead m) → Divides (lead m) y → y ≡ lead m
        same y q d e = same_vectors y (lead m) (q.columns ∙ sym (IsMove-lead g (members m h)).columns)
            (λ c. omega (arith, ints, d.entries c, e.entries c))

    reduced_is_member : (m : List ℤ) → IsReducedMove n rows m → Contains moves m
    reduced_is_member m r = go (descent_or_none moves r.from)
      where
        ends : (v : List ℤ) → Contains moves v → lead v ≡ r.from → Contains moves m
        ends v h e =
            let a = members v h in
            let least = undivided_is_least (tail v) (IsMove-tail g a) (tail_undivided moves tails v h) in
            let inside : InLattice n rows (subtract r.from (tail v)) = subst (λ x. InLattice n rows (subtract x (tail v))) e
            (IsMove-ends g a) in
            let same : r.to ≡ tail v = one_least g r.to (tail v) r.least least
            (same_fibre_append g r.to r.from (tail v) r.least.point r.point least.point (same_fibre_back g r.from r.to r.same_fibre) inside)
            in
            let whole : v ≡ m = sym (parts v) ∙ ap (λ x. subtract x (tail v)) e ∙ ap (subtract r.from) (sym same) ∙ sym r.difference in
            subst (Contains moves) whole h

        go : ((y : List ℤ) × IsDescent moves r.from y) ⊎ IsIrreducible moves r.from → Contains moves m
        go (inr none) = absurd (r.not_least (undivided_is_least r.from r.point none))
        go (inl (y, d)) =
            let q : IsPoint n (lead d.move) = IsMove-lead g (members d.move d.member) in
            ⊎_elim (λ l. absurd (lead_not_least d.move d.member (r.divisors (lead d.move) q d.divides
            (λ e. omega (arith, ints, l, ap (weight w) e))))) (ends d.move d.member)
            (divisor_cases g r.from (lead d.move) r.point q d.divides)

    pub reduced_from_undivided : AllPairs (ComesBefore n w) moves → IsReducedBasis (lattice_of n rows w) moves
    reduced_from_undivided ascending = record {
      ascending = ascending;
      each = All-from_contains (IsReducedMove n rows) moves member_is_reduced;
      complete = reduced_is_member;
    }
