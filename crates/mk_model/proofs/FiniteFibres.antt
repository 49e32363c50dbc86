-- Every fibre is finite: a list has all its points.
use Rattle.std.proofs.Common.{◌≡◌, ◌⊎◌, inl, inr, ℕ, zero, suc, ◌≤◌, ◌<◌, List, [], ◌∷◌, ◌++◌, length, map, ℤ, pos, negsuc, ◌≤ℤ◌, Contains}
use Rattle.std.proofs.Common.{arith, subst, ⊎_elim}
use Rattle.std.proofs.lemmas.Int.{ints}
use Rattle.std.proofs.lemmas.List.{get_or_past}
use Rattle.std.proofs.lemmas.Bool.{cases_lt}
use Rattle.std.proofs.lemmas.List.Elements.{Contains-append_left, Contains-append_right}
use borrow.Author.Differences.{up}
use Rattle.mk_model.specs.Vectors.{entry, subtract, weight, IsPoint}
use Rattle.mk_model.specs.Lattices.{Lattice, InLattice, HasGrading}
use Rattle.mk_model.proofs.VectorAlgebra.{weight_nonnegative, entry_within_weight}
use Rattle.mk_model.proofs.Fibres.{same_fibre_weight}
use Rattle.mk_model.proofs.Lists.{Contains-none, Contains-here, Contains-there, Contains-cases}

pub entry_in_fibre : {lattice : Lattice} → HasGrading lattice → (x y : List ℤ) (c : ℕ) → IsPoint lattice.columns x →
    IsPoint lattice.columns y →
    InLattice lattice.columns lattice.rows (subtract y x) → (pos 0 ≤ℤ entry y c) × (entry y c ≤ℤ weight lattice.grading x)
entry_in_fibre {lattice} g x y c p q h = (q.nonnegative c, go (cases_lt c lattice.columns))
  where
    positive : (c : ℕ) → c < length lattice.grading → pos 1 ≤ℤ entry lattice.grading c
    positive c l = g.positive c (omega (arith, g.columns))

    go : (c < lattice.columns) ⊎ (lattice.columns ≤ c) → entry y c ≤ℤ weight lattice.grading x
    go (inl l) = omega (
      arith,
      ints,
      entry_within_weight lattice.grading y c positive q.nonnegative (omega (arith, g.columns)),
      same_fibre_weight g y x q p h,
    )
    go (inr l) = rw (get_or_past y c (pos 0) (omega (arith, q.columns))) (weight_nonnegative lattice.grading x positive p.nonnegative)

-- each of the numbers from 0 to the bound in front of each of the vectors
with_fronts : ℕ → List (List ℤ) → List (List ℤ)
with_fronts zero vectors = map (λ x. pos 0 ∷ x) vectors
with_fronts (suc k) vectors = map (λ x. pos (suc k) ∷ x) vectors ++ with_fronts k vectors

-- the vectors of n columns with entries from 0 to the bound
box : ℕ → ℕ → List (List ℤ)
box zero bound = [] ∷ []
box (suc n) bound = with_fronts bound (box n bound)

Contains-map : (f : List ℤ → List ℤ) (vectors : List (List ℤ)) (x : List ℤ) → Contains vectors x → Contains (map f vectors) (f x)
Contains-map f [] x h = absurd (Contains-none x h)
Contains-map f (v ∷ vectors) x h =
    ⊎_elim (λ e. subst (λ u. Contains (f v ∷ map f vectors) (f u)) e (Contains-here (f v) (map f vectors)))
    (λ k. Contains-there (f v) (map f vectors) (f x) (Contains-map f vectors x k)) (Contains-cases v vectors x h)

with_fronts_has : (bound k : ℕ) → k ≤ bound → (vectors : List (List ℤ)) (x : List ℤ) → Contains vectors x →
    Contains (with_fronts bound vectors) (pos k ∷ x)
unfolding with_fronts
with_fronts_has zero k l vectors x h = subst (λ k. Contains (map (λ x. pos 0 ∷ x) vectors) (pos k ∷ x)) (omega arith)
    (Contains-map (λ x. pos 0 ∷ x) vectors x h)
with_fronts_has (suc b) k l vectors x h =
    ⊎_elim (λ m. Contains-append_right (map (λ x. pos (suc b) ∷ x) vectors) (with_fronts b vectors) (pos k ∷ x)
    (with_fronts_has b k (omega arith) vectors x h))
    (λ m. Contains-append_left (map (λ x. pos (suc b) ∷ x) vectors) (with_fronts b vectors) (pos k ∷ x)
    (subst (λ k. Contains (map (λ x. pos (suc b) ∷ x) vectors) (pos k ∷ x)) (omega arith)
    (Contains-map (λ x. pos (suc b) ∷ x) vectors x h))) (cases_lt k (suc b))

box_has : (n bound : ℕ) (x : List ℤ) → length x ≡ n → ((c : ℕ) → (pos 0 ≤ℤ entry x c) × (entry x c ≤ℤ pos bound)) → Contains (box n bound) x
unfolding box
box_has zero bound [] l f = Contains-here [] []
box_has zero bound (a ∷ x) l f = absurd (omega arith)
box_has (suc n) bound [] l f = absurd (omega arith)
box_has (suc n) bound (pos k ∷ x) l f = with_fronts_has bound k (omega (arith, ints, (f 0).1)) (box n bound) x
    (box_has n bound x (omega arith) (λ c. f (suc c)))
box_has (suc n) bound (negsuc k ∷ x) l f = absurd (omega (arith, ints, (f 0).0))

pub fibre_listed : {lattice : Lattice} → HasGrading lattice → (x : List ℤ) → IsPoint lattice.columns x →
    (vectors : List (List ℤ)) × ((y : List ℤ) → IsPoint lattice.columns y → InLattice lattice.columns lattice.rows (subtract y x) →
    Contains vectors y)
fibre_listed {lattice} g x p = (
  box lattice.columns bound,
  λ y q h. box_has lattice.columns bound y q.columns (λ c. let (a, b) = entry_in_fibre g x y c p q h in (a, omega (arith, ints, b))),
)
  where
    bound : ℕ
    bound = up (weight lattice.grading x)
