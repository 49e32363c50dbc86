-- Steps of one weight: the next move of its run, and why the work on a pair stops.
use Rattle.std.proofs.Common.{◌≡◌, ℕ, ◌+◌, ◌≤◌, ◌<◌, List, [], ◌∷◌, ◌++◌, length, drop, slice_get, Some, Option, ℤ, All, Contains, arith, ap, sym, ◌∙◌, subst}
use Rattle.std.proofs.lemmas.List.{map-append, length_push, take-append-drop}
use Rattle.std.proofs.lemmas.List.Elements.{All-push}
use Rattle.std.proofs.lemmas.Option.{slice_get_within}
use Rattle.mk_model.specs.Bases.{IsUpTo}
use Rattle.mk_model.specs.CoreStates.{Pair, move_at, pair_of, IsPairOf, stop_at}
use Rattle.mk_model.specs.Orders.{lead}
use Rattle.mk_model.specs.Overflows.{IsGenuineOverflow, IsPairOfWeight}
use Rattle.mk_model.specs.Vectors.{weight}
use Rattle.mk_model.proofs.Journals.{IsGenuineOverflow-append}
use Rattle.mk_move.specs.Moves.{Weighed}
use Rattle.mk_move.specs.MoveLists.{BasisView, BelongsTo, vector_of, vectors_of}
use Rattle.mk_move.proofs.MoveVectors.{vector_at, length-vectors_of}
use Rattle.mk_inter.specs.Tails.{IsReducedList}
use Rattle.mk_minimise.specs.declared.minimal.MinimiseFault.{MinimiseFault}
use Rattle.mk_minimise.specs.declared.minimal.MinimiseFault.TheVariants.{Memory, Overflow}
use Rattle.mk_minimise.specs.declared.overlaps.Overlap.{Overlap}
use Rattle.mk_minimise.specs.Minimal.{IsPairFault, IsMinimiseFault}
use Rattle.mk_minimise.specs.Overlaps.{lcm_at, IsOverlap}
use Rattle.mk_minimise.specs.Stages.{weight_at, IsFront, IsWeightRun, HasLead, TellsLeast, AreChosen}
use Rattle.mk_minimise.proofs.ChosenMoves.{chosen_more, chosen_skip}
use Rattle.mk_minimise.proofs.LowerFronts.{member_at, vectors_are, overlap_of_basis}

-- ---- the next move of a run
-- chosen from the moves before a place, each belongs to the basis, and no more than they are
pub record IsChoosing (basis : BasisView) (place : ℕ) (items : List Weighed) : Type 0 where
  pub chosen : AreChosen (length basis.grading) basis.grading (vectors_of basis.moves) place (vectors_of items)
  pub belongs : All (BelongsTo basis.priority basis.grading) items
  pub few : length items ≤ place

module _ (basis : BasisView) (h : IsReducedList basis) (start end : ℕ) (run : IsWeightRun basis start end) (links : List Weighed)
    (tells : TellsLeast (length basis.grading) basis.grading (vectors_of basis.moves) (weight_at basis start) (vectors_of links))
    (place : ℕ) (from : start ≤ place) (to : place < end) (items : List Weighed) (choosing : IsChoosing basis place items) (m : Weighed) (at : slice_get basis.moves place ≡ Some m) where
  within : place < length basis.moves
  within = slice_get_within basis.moves place m at

  row_within : place < length (vectors_of basis.moves)
  row_within = omega (arith, within, length-vectors_of basis.moves)

  row_is : move_at (vectors_of basis.moves) place ≡ m.entries
  row_is = vector_at basis.moves place m at

  here : Contains (vectors_of basis.moves) (move_at (vectors_of basis.moves) place)
  here = member_at basis h place within

  pub choose_more : BelongsTo basis.priority basis.grading m → (after : List Weighed) → after ≡ items ++ m ∷ [] → (HasLead (vectors_of links) (lead m.entries) → ⊥) → IsChoosing basis (place + 1) after
  choose_more belongs after e none =
      let first = tells.least (move_at (vectors_of basis.moves) place) here (run.same place from to) (λ k. none (subst (λ x. HasLead (vectors_of links) (lead x)) row_is k)) in
      let more = chosen_more (length basis.grading) basis.grading (vectors_of basis.moves) h.reduced.ascending place row_within (vectors_of items) choosing.chosen first in
      let same : vectors_of items ++ move_at (vectors_of basis.moves) place ∷ [] ≡ vectors_of (items ++ m ∷ []) =
      ap (λ x. vectors_of items ++ x ∷ []) row_is ∙ sym (map-append (λ (m : Weighed). m.entries) items (m ∷ [])) in
      subst (IsChoosing basis (place + 1)) (sym e)
      (record {
        chosen = subst (AreChosen (length basis.grading) basis.grading (vectors_of basis.moves) (place + 1)) same more;
        belongs = All-push (BelongsTo basis.priority basis.grading) items m choosing.belongs belongs;
        few = omega (arith, choosing.few, length_push items m);
      })

  pub choose_skip : HasLead (vectors_of links) (lead m.entries) → IsChoosing basis (place + 1) items
  choose_skip has =
      let steps = tells.others (move_at (vectors_of basis.moves) place) here (run.same place from to) (subst (λ x. HasLead (vectors_of links) (lead x)) (sym row_is) has) in
      record {
        chosen = chosen_skip (length basis.grading) basis.grading (vectors_of basis.moves) h.reduced.ascending place row_within (vectors_of items) choosing.chosen steps;
        belongs = choosing.belongs;
        few = omega (arith, choosing.few);
      }

-- ---- why the work on a pair stops
module _ (basis : BasisView) (h : IsReducedList basis) (lower : BasisView) (front : IsFront basis lower) (more : length lower.moves < length basis.moves) (pair : Overlap) (o : IsOverlap basis.grading (vectors_of lower.moves) (weight_at basis (length lower.moves)) pair) where
  abbrev rows : List (List ℤ)
  rows = vectors_of basis.moves

  of_basis : IsOverlap basis.grading rows (weight_at basis (length lower.moves)) pair
  of_basis = overlap_of_basis basis h lower front more (weight_at basis (length lower.moves)) pair o

  of_weight : (i j : ℕ) → pair_of i j ≡ pair_of pair.first pair.second → IsPairOfWeight basis.grading rows (pair_of i j)
  of_weight i j e =
      subst (IsPairOfWeight basis.grading rows) (sym e)
      (record {
        of_list = record { ordered = of_basis.ordered; within = of_basis.within };
        overlap = of_basis.overlap;
        move = move_at rows (length lower.moves);
        member = member_at basis h (length lower.moves) more;
        same = of_basis.weighs;
      })

  pub pair_fault_is : (fault : MinimiseFault) → IsPairFault (vectors_of lower.moves) (pair_of pair.first pair.second) fault → (upto : Option ℕ) → IsUpTo upto (weight_at basis (length lower.moves)) → IsMinimiseFault basis upto fault
  pair_fault_is Memory f upto light = tt
  pair_fault_is (Overflow i j by operand at) (e, genuine) upto light = (
    of_weight i j e,
    subst (λ (p : Pair). IsUpTo upto (weight basis.grading (lcm_at rows p.first p.second))) (sym e) (subst (IsUpTo upto) (sym of_basis.weighs) light),
    subst (λ (moves : List (List ℤ)). IsGenuineOverflow moves (stop_at (pair_of i j) by (vector_of operand) at.column at.left at.times at.right))
        (ap (λ xs. xs ++ drop (length lower.moves) rows) (vectors_are basis h lower front more) ∙ take-append-drop (length lower.moves) rows)
        (IsGenuineOverflow-append (vectors_of lower.moves) (drop (length lower.moves) rows) _ (subst (IsPairOf (vectors_of lower.moves)) (sym e) (record { ordered = o.ordered; within = o.within })) genuine),
  )
