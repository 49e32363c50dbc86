-- The pairs of a weight, and a remainder for each in their order: links are gathered from one after another.
use Rattle.std.proofs.Common.{◌≡◌, ℕ, zero, suc, ◌+◌, ◌<◌, List, [], ◌∷◌, ◌++◌, length, take, get_or, Option, None, Some, Result, Ok, Err, IfErr, ℤ, arith, ap, sym, ◌∙◌, subst}
use Rattle.std.specs.List.{AllZip}
use Rattle.std.proofs.lemmas.List.{take_all, take_more, length_push}
use Rattle.std.proofs.lemmas.Slice.Zip.{AllZip-long}
use Rattle.std.proofs.lemmas.List.Elements.{All-contains}
use Rattle.mk_model.specs.Bases.{IsUpTo}
use Rattle.mk_model.specs.CoreStates.{pair_of}
use Rattle.mk_move.specs.Moves.{Weighed}
use Rattle.mk_move.specs.MoveLists.{BasisView, vectors_of}
use Rattle.mk_inter.specs.Tails.{IsReducedList}
use Rattle.mk_inter.proofs.Collected.{IsFaultOfOne}
use Rattle.mk_reduce.specs.Remainders.{IsNormalRest}
use Rattle.mk_reduce.specs.Works.{IsRest}
use Rattle.mk_minimise.specs.declared.minimal.MinimiseFault.{MinimiseFault}
use Rattle.mk_minimise.specs.declared.minimal.MinimiseFault.TheVariants.{Memory, Overflow}
use Rattle.mk_minimise.specs.declared.overlaps.Overlap.{Overlap}
use Rattle.mk_minimise.specs.LinkSteps.{IsAdded}
use Rattle.mk_minimise.specs.Minimal.{IsPairFault, IsFaultOfPairs, IsMinimiseFault}
use Rattle.mk_minimise.specs.Overlaps.{IsOverlap, AreOverlaps, IsRemainderOf}
use Rattle.mk_minimise.specs.Stages.{weight_at, IsFront}
use Rattle.mk_minimise.proofs.StageSteps.{pair_fault_is}
use Rattle.mk_minimise.proofs.GatheredLinks.{AreGathered, gather_none, gather_some}

-- the items of two lists at a place
zip_get : {A B : Type 0} (R : A → B → Type 0) (xs : List A) (ys : List B) → AllZip R xs ys → (k : ℕ) → k < length ys → (d : A) (e : B) → (k < length xs) × R (get_or xs k d) (get_or ys k e)
zip_get R [] [] h k l d e = absurd (omega (arith, l))
zip_get R [] (y ∷ ys) h k l d e = absurd h
zip_get R (x ∷ xs) [] h k l d e = absurd h
zip_get R (x ∷ xs) (y ∷ ys) h zero l d e = (omega arith, h.0)
zip_get R (x ∷ xs) (y ∷ ys) h (suc k) l d e =
    let (m, r) = zip_get R xs ys h.1 k (omega (arith, l)) d e in
    (omega (arith, m), r)

-- the fault of one of the pairs
pub fault_of_pairs : {T : Type 0} (moves : List (List ℤ)) (pairs : List Overlap) (result : Result T MinimiseFault) →
    IfErr result (IsFaultOfOne (λ (pair : Overlap). IsPairFault moves (pair_of pair.first pair.second)) pairs) → IfErr result (IsFaultOfPairs moves pairs)
fault_of_pairs moves pairs (Ok rests) h = tt
fault_of_pairs moves pairs (Err Memory) h = tt
fault_of_pairs moves pairs (Err (Overflow i j by operand at)) h = h

-- a fault of one of the pairs of the weight is one of the basis
pub pairs_fault_is : (basis : BasisView) (h : IsReducedList basis) (lower : BasisView) (front : IsFront basis lower) (more : length lower.moves < length basis.moves) (pairs : List Overlap) →
    AreOverlaps basis.grading (vectors_of lower.moves) (weight_at basis (length lower.moves)) pairs → (fault : MinimiseFault) → IsFaultOfPairs (vectors_of lower.moves) pairs fault →
    (upto : Option ℕ) → IsUpTo upto (weight_at basis (length lower.moves)) → IsMinimiseFault basis upto fault
pairs_fault_is basis h lower front more pairs all Memory f upto light = tt
pairs_fault_is basis h lower front more pairs all (Overflow i j by operand at) (pair, member, f) upto light =
    pair_fault_is basis h lower front more pair
    (All-contains (IsOverlap basis.grading (vectors_of lower.moves) (weight_at basis (length lower.moves))) pairs pair all.each member) (Overflow i j by operand at) f upto light

module _ (basis : BasisView) (h : IsReducedList basis) (lower : BasisView) (front : IsFront basis lower) (more : length lower.moves < length basis.moves) (pairs : List Overlap)
    (all : AreOverlaps basis.grading (vectors_of lower.moves) (weight_at basis (length lower.moves)) pairs) (rests before : List (Option Weighed)) (z : AllZip (IsRemainderOf lower) pairs rests) where
  abbrev no_pair : Overlap
  no_pair = record { first = 0; second = 0 }

  abbrev here : Overlap
  here = get_or pairs (length before) no_pair

  -- ---- the next remainder, of the pair at that place
  module _ (rest : Option Weighed) (next : (length before < length rests) × (rest ≡ get_or rests (length before) rest)) where
    found : (length before < length pairs) × IsRemainderOf lower here rest
    found =
        let (l, r) = zip_get (IsRemainderOf lower) pairs rests z (length before) next.0 no_pair rest in
        (l, subst (IsRemainderOf lower here) (sym next.1) r)

    one_more : (links : List Weighed) → AreGathered basis lower (take (length before) pairs ++ here ∷ []) links → AreGathered basis lower (take (length (before ++ rest ∷ [])) pairs) links
    one_more links g =
        let longer : take (length (before ++ rest ∷ [])) pairs ≡ take (length before) pairs ++ here ∷ [] = ap (λ k. take k pairs) (length_push before rest) ∙ take_more pairs (length before) no_pair found.0 in
        subst (λ (xs : List Overlap). AreGathered basis lower xs links) (sym longer) g

    -- it is nothing
    pub next_none : rest ≡ None → (links : List Weighed) → AreGathered basis lower (take (length before) pairs) links → AreGathered basis lower (take (length (before ++ rest ∷ [])) pairs) links
    next_none e links g =
        one_more links
        (gather_none basis h lower front more (take (length before) pairs) links g here (all.each (length before) no_pair found.0) (subst (IsRemainderOf lower here) e found.1))

    -- it is a move, which is put to the links
    pub next_is_rest : (m : Weighed) → rest ≡ Some m → IsRest basis.grading m
    next_is_rest m e =
        let normal : IsNormalRest lower (pair_of here.first here.second) m = subst (IsRemainderOf lower here) e found.1 in
        subst (λ (w : List ℤ). IsRest w m) front.grading normal.rest

    pub next_some : (m : Weighed) → rest ≡ Some m → (links longer : List Weighed) → AreGathered basis lower (take (length before) pairs) links → IsAdded basis m links longer → AreGathered basis lower (take (length (before ++ rest ∷ [])) pairs) longer
    next_some m e links longer g added =
        one_more longer
        (gather_some basis h lower front more (take (length before) pairs) links g here (all.each (length before) no_pair found.0) m (subst (IsRemainderOf lower here) e found.1) longer added)

  -- all remainders
  pub gathered_all : length before ≡ length rests → (links : List Weighed) → AreGathered basis lower (take (length before) pairs) links → AreGathered basis lower pairs links
  gathered_all e links g =
      subst (λ (xs : List Overlap). AreGathered basis lower xs links) (take_all (length before) pairs (omega (arith, e, AllZip-long (IsRemainderOf lower) pairs rests z))) g
