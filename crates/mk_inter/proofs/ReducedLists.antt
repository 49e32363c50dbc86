-- The moves with reduced tails of a saturated basis, in order: the reduced basis of the lattice.
use Rattle.std.proofs.Common.{◌≡◌, ◌≢◌, ◌⊎◌, inl, inr, ℕ, zero, suc, ◌<◌, ◌^◌, List, [], ◌∷◌, length, get_or, ℤ, pos, All, AllPairs, Contains, arith, ap, sym, ◌∙◌, subst}
use Rattle.std.specs.List.{AllZip}
use Rattle.std.specs.List.Sorted.{IsPermutation}
use Rattle.std.proofs.lemmas.List.{length-map, get_or-map, get_or_default}
use Rattle.std.proofs.lemmas.List.Elements.{All-map}
use Rattle.std.proofs.lemmas.List.Sorted.{All-permutation, Contains-permutation, IsPermutation-map, length_permutation}
use Rattle.std.proofs.lemmas.Slice.Zip.{AllZip-long}
use Rattle.std.proofs.lemmas.Int.{ints}
use Rattle.mk_model.specs.Lattices.{SameLattice}
use Rattle.mk_model.specs.Orders.{lead, ComesBefore}
use Rattle.mk_model.specs.ReducedBases.{IsReducedMove, IsReducedBasis}
use Rattle.mk_move.specs.Moves.{Weighed, IsBefore, IsGraded}
use Rattle.mk_move.specs.MoveLists.{lattice_spanned, BasisView, BelongsTo, vectors_of}
use Rattle.mk_core.specs.SaturatedBases.{IsSaturated}
use Rattle.mk_inter.specs.Tails.{IsReducedList}
use Rattle.mk_inter.specs.TailSteps.{IsReducedFrom, IsEarlier, NoneEarlier}
use Rattle.mk_inter.proofs.SaturatedLists.{leads_apart}
use Rattle.mk_inter.proofs.LeastTails.{reduced_from_lead, reduced_once}
use Rattle.mk_inter.proofs.Bases.{saturated_list}
use Rattle.mk_inter.proofs.Permuted.{AllApart, AllApart-permutation}
use Rattle.mk_inter.proofs.MovesSorted.{IsEarlier-total}
use Rattle.mk_inter.proofs.SameLattices.{same_lattice, basis_of_others}

-- moves that are those of the reduced basis of the lattice that a basis spans, in some order
pub record AreReduced (basis : BasisView) (moves : List Weighed) : Type 0 where
  pub belongs : All (BelongsTo basis.priority basis.grading) moves
  pub each : All (λ m. IsReducedMove (length basis.grading) (vectors_of basis.moves) m.entries) moves
  pub complete : (m : List ℤ) → IsReducedMove (length basis.grading) (vectors_of basis.moves) m → Contains (vectors_of moves) m
  pub apart : AllApart (λ (a b : Weighed). lead a.entries ≢ lead b.entries) moves

-- in another order
pub AreReduced-permutation : (basis : BasisView) (moves others : List Weighed) → IsPermutation moves others → AreReduced basis moves → AreReduced basis others
AreReduced-permutation basis moves others h a = record {
  belongs = All-permutation (BelongsTo basis.priority basis.grading) moves others h a.belongs;
  each = All-permutation (λ m. IsReducedMove (length basis.grading) (vectors_of basis.moves) m.entries) moves others h a.each;
  complete = λ m r. Contains-permutation (vectors_of moves) (vectors_of others) m (IsPermutation-map (λ (m : Weighed). m.entries) moves others h) (a.complete m r);
  apart = AllApart-permutation (λ (a b : Weighed). lead a.entries ≢ lead b.entries) moves others h a.apart;
}

-- ---- the moves from the leads of a basis
zipped : {A B : Type 0} (R : A → B → Type 0) (xs : List A) (ys : List B) → AllZip R xs ys → (k : ℕ) (d : A) (e : B) → k < length ys → R (get_or xs k d) (get_or ys k e)
zipped R [] [] z k d e l = absurd (omega arith)
zipped R [] (y ∷ ys) z k d e l = absurd z
zipped R (x ∷ xs) [] z k d e l = absurd z
zipped R (x ∷ xs) (y ∷ ys) z zero d e l = z.0
zipped R (x ∷ xs) (y ∷ ys) z (suc k) d e l = zipped R xs ys z.1 k d e (omega arith)

module _ (basis : BasisView) (s : IsSaturated basis) (tails : List Weighed) (z : AllZip (IsReducedFrom basis) (vectors_of basis.moves) tails) where
  abbrev n : ℕ
  n = length basis.grading

  abbrev rows : List (List ℤ)
  rows = vectors_of basis.moves

  pub as_many : length tails ≡ length basis.moves
  as_many = AllZip-long (IsReducedFrom basis) rows tails z ∙ length-map basis.moves (λ m. m.entries)

  at : (k : ℕ) (d : Weighed) → k < length tails → IsReducedFrom basis (get_or rows k []) (get_or tails k d)
  at k d l = zipped (IsReducedFrom basis) rows tails z k [] d l

  place_row : (k : ℕ) → k < length tails → k < length rows
  place_row k l = omega (arith, l, AllZip-long (IsReducedFrom basis) rows tails z)

  abbrev entries_of : Weighed → List ℤ
  entries_of m = m.entries

  complete_here : (m : List ℤ) → IsReducedMove n rows m → Contains (vectors_of tails) m
  complete_here m reduced = go (reduced_from_lead (saturated_list basis s) m reduced)
    where
      none : Weighed
      none = record { entries = m; weight = pos 0 }

      go : (v : List ℤ) × Contains rows v × (lead v ≡ lead m) → Contains (vectors_of tails) m
      go (v, (k, l, e), f) =
          let within : k < length tails = omega (arith, l, AllZip-long (IsReducedFrom basis) rows tails z) in
          let h = at k none within in
          let same : lead (get_or tails k none).entries ≡ lead m = h.same_lead ∙ ap lead (get_or_default rows k [] v l ∙ e) ∙ f in
          let found : (get_or tails k none).entries ≡ m = reduced_once (saturated_list basis s).oriented.grading (get_or tails k none).entries m h.reduced reduced same in
          (k, omega (arith, within, length-map tails entries_of), get_or-map entries_of tails k none m within ∙ found)

  apart_here : AllApart (λ (a b : Weighed). lead a.entries ≢ lead b.entries) tails
  apart_here i j d apart l k e =
      apart (leads_apart (saturated_list basis s) i j (place_row i l) (place_row j k) (sym (at i d l).same_lead ∙ e ∙ (at j d k).same_lead))

  pub are_reduced : AreReduced basis tails
  are_reduced = record {
    belongs = λ k d l. (at k d l).belongs;
    each = λ k d l. (at k d l).reduced;
    complete = complete_here;
    apart = apart_here;
  }

-- ---- sorted
before_by_weight : (n : ℕ) (w : List ℤ) (a b : Weighed) → IsGraded w a → IsGraded w b → IsBefore n a b → ComesBefore n w a.entries b.entries
before_by_weight n w a b g h (inl l) = inl (omega (arith, ints, l, g.weight, h.weight))
before_by_weight n w a b g h (inr (e, k)) = inr (sym g.weight ∙ e ∙ h.weight, k)

-- of two moves of as many columns, the one that isn't earlier comes later, unless they have one lead
before_of_earlier : (n : ℕ) (w : List ℤ) (a b : Weighed) → length a.entries ≡ n → length b.entries ≡ n → IsGraded w a → IsGraded w b → (IsEarlier b a → ⊥) → lead a.entries ≢ lead b.entries → ComesBefore n w a.entries b.entries
before_of_earlier n w a b k l g h none apart = go (IsEarlier-total a b)
  where
    go : (IsEarlier a b ⊎ IsEarlier b a) ⊎ (a ≡ b) → ComesBefore n w a.entries b.entries
    go (inl (inl (inl i))) = absurd (omega arith)
    go (inl (inl (inr (e, i)))) = before_by_weight n w a b g h (subst (λ n. IsBefore n a b) k i)
    go (inl (inr i)) = absurd (none i)
    go (inr e) = absurd (apart (ap (λ m. lead m.entries) e))

module _ (basis : BasisView) (s : IsSaturated basis) (moves : List Weighed) (all : AreReduced basis moves) (sorted : NoneEarlier moves) (few : length moves < 2 ^ 32) where
  ascending_moves : AllPairs (ComesBefore (length basis.grading) basis.grading) (vectors_of moves)
  ascending_moves i j d h l =
      let none : Weighed = record { entries = d; weight = pos 0 } in
      let m : j < length moves = omega (arith, l, length-map moves (λ m. m.entries)) in
      let k : i < length moves = omega (arith, h, m) in
      let p = all.belongs i none k in
      let q = all.belongs j none m in
      let before = before_of_earlier (length basis.grading) basis.grading (get_or moves i none) (get_or moves j none) (p.columns ∙ s.kept.columns) (q.columns ∙ s.kept.columns) p.graded q.graded
      (sorted i j none h m) (all.apart i j none (λ e. omega (arith, h, e)) k m) in
      rw (get_or-map (λ (m : Weighed). m.entries) moves i none d k, get_or-map (λ (m : Weighed). m.entries) moves j none d m) before

  pub reduced_basis : IsReducedBasis (lattice_spanned basis) (vectors_of moves)
  reduced_basis = record {
    ascending = ascending_moves;
    each = All-map (IsReducedMove (length basis.grading) (vectors_of basis.moves)) (λ (m : Weighed). m.entries) moves all.each;
    complete = all.complete;
  }

  pub spans : SameLattice (length basis.grading) (vectors_of basis.moves) (vectors_of moves)
  spans = same_lattice (saturated_list basis s).oriented.grading reduced_basis

  pub reduced_list : IsReducedList (record { moves = moves; priority = basis.priority; grading = basis.grading })
  reduced_list = record {
    kept = record { priority = s.kept.priority; grading = s.kept.grading; columns = s.kept.columns; few = few; moves = all.belongs };
    standard_list = s.standard_list;
    reduced = basis_of_others spans reduced_basis;
  }

-- a list of moves, by its parts
pub same_list : (made : BasisView) (moves : List Weighed) (p : List ℕ) (w : List ℤ) → made.moves ≡ moves → made.priority ≡ p → made.grading ≡ w → made ≡ record { moves = moves; priority = p; grading = w }
same_list made moves p w e f g = λ i. record { moves = e i; priority = f i; grading = g i }

-- ---- what is given for a basis
module _ (basis given : BasisView) (same : given ≡ basis) (s : IsSaturated basis) (tails moves : List Weighed) (z : AllZip (IsReducedFrom given) (vectors_of given.moves) tails) (order : IsPermutation tails moves) where
  here : AllZip (IsReducedFrom basis) (vectors_of basis.moves) tails
  here = subst (λ (b : BasisView). AllZip (IsReducedFrom b) (vectors_of b.moves) tails) same z

  pub reduced_moves : AreReduced basis moves
  reduced_moves = AreReduced-permutation basis tails moves order (are_reduced basis s tails here)

  pub few_moves : length moves < 2 ^ 32
  few_moves = omega (arith, length_permutation tails moves order, as_many basis s tails here, s.kept.few)

  pub belonging_moves : All (BelongsTo given.priority given.grading) moves
  belonging_moves = subst (λ (b : BasisView). All (BelongsTo b.priority b.grading) moves) (sym same) reduced_moves.belongs

  module _ (sorted : NoneEarlier moves) (made : BasisView) (a : made.moves ≡ moves) (b : made.priority ≡ given.priority) (c : made.grading ≡ given.grading) where
    made_is : made ≡ record { moves = moves; priority = basis.priority; grading = basis.grading }
    made_is = same_list made moves basis.priority basis.grading a (b ∙ ap (λ x. x.priority) same) (c ∙ ap (λ x. x.grading) same)

    pub made_list : IsReducedList made
    made_list = subst IsReducedList (sym made_is) (reduced_list basis s moves reduced_moves sorted few_moves)

    pub made_reduced : IsReducedBasis (lattice_spanned basis) (vectors_of made.moves)
    made_reduced = rw a (reduced_basis basis s moves reduced_moves sorted few_moves)

    pub made_spans : SameLattice (length basis.grading) (vectors_of basis.moves) (vectors_of made.moves)
    made_spans = rw a (spans basis s moves reduced_moves sorted few_moves)
