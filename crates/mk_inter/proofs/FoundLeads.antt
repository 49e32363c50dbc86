-- What a finder of the leads of a basis finds.
use Rattle.std.proofs.Common.{◌≡◌, ℕ, ◌<◌, List, [], length, get_or, slice_get, Some, ℤ, pos, All, arith, ap, sym, ◌∙◌, subst}
use Rattle.std.proofs.lemmas.List.{get_or-map, get_or_default}
use Rattle.std.proofs.lemmas.List.Elements.{All-map, All-weaker, All-contains}
use Rattle.std.proofs.lemmas.Option.{get_or_from_slice_get, slice_get_within}
use Rattle.mk_model.specs.Lattices.{InLattice}
use Rattle.mk_model.specs.CoreStates.{move_at}
use Rattle.mk_model.specs.Orders.{lead, tail}
use Rattle.mk_model.specs.Reductions.{Divides, IsIrreducible}
use Rattle.mk_model.specs.Reductions.Reaches.{here}
use Rattle.mk_model.proofs.VectorAlgebra.{length-positive_part}
use Rattle.mk_move.specs.Moves.{Weighed}
use Rattle.mk_move.specs.MoveLists.{BasisView, BelongsTo, vectors_of}
use Rattle.mk_move.specs.Sides.{DividesAt}
use Rattle.mk_move.proofs.MoveVectors.{vector_at, length-vectors_of}
use Rattle.mk_reduce.specs.Leads.{leads_of}
use Rattle.mk_reduce.proofs.LeadLists.{length-leads_of}
use Rattle.mk_core.specs.SaturatedBases.{IsSaturated}
use Rattle.mk_inter.specs.TailSteps.{HasTailReduced, IsTailStep, IsReducedFrom}
use Rattle.mk_inter.proofs.LeastTails.{tail_reduced}
use Rattle.mk_inter.proofs.Bases.{saturated_list}
use Rattle.mk_inter.proofs.TailSteps.{vector_member, has_lead}

-- the lead at a place
pub lead_of_place : (moves : List Weighed) (k : ℕ) (d : List ℤ) → k < length moves → get_or (leads_of moves) k d ≡ lead (move_at (vectors_of moves) k)
lead_of_place moves k d l =
    let none : Weighed = record { entries = []; weight = pos 0 } in
    get_or-map (λ (m : Weighed). lead m.entries) moves k none d l ∙ ap lead (sym (get_or-map (λ (m : Weighed). m.entries) moves k none [] l))

pub leads_columns : (p : List ℕ) (w : List ℤ) (moves : List Weighed) (r : Weighed) → All (BelongsTo p w) moves → length r.entries ≡ length p → All (λ x. length x ≡ length r.entries) (leads_of moves)
leads_columns p w moves r each same =
    All-map (λ x. length x ≡ length r.entries) (λ (m : Weighed). lead m.entries) moves
    (All-weaker (BelongsTo p w) (λ m. length (lead m.entries) ≡ length r.entries) (λ m h. length-positive_part m.entries ∙ h.columns ∙ sym same) moves each)

module _ (basis : BasisView) (s : IsSaturated basis) (index : ℕ) (of_list : index < length basis.moves) where
  pub begun : (m : Weighed) → slice_get basis.moves index ≡ Some m → BelongsTo basis.priority basis.grading m → HasTailReduced basis index m
  begun m at belongs =
      let e = vector_at basis.moves index m at in
      record {
        belongs = belongs;
        in_lattice = subst (InLattice (length basis.grading) (vectors_of basis.moves)) e
            (All-contains (InLattice (length basis.grading) (vectors_of basis.moves)) (vectors_of basis.moves) (move_at (vectors_of basis.moves) index) s.markov.in_lattice (vector_member basis.moves index of_list));
        same_lead = ap lead (sym e);
        reached = rw e here;
      }

  pub found : (rest : Weighed) (place : ℕ) → HasTailReduced basis index rest → DividesAt (leads_of basis.moves) (tail rest.entries) place → IsTailStep basis index place rest
  found rest place h d =
      let within : place < length basis.moves = omega (arith, slice_get_within (leads_of basis.moves) place d.lead d.at, length-leads_of basis.moves) in
      let same : d.lead ≡ lead (move_at (vectors_of basis.moves) place) =
      sym (get_or_from_slice_get (leads_of basis.moves) place d.lead [] d.at) ∙ lead_of_place basis.moves place [] within in
      record { of_list = of_list; within = within; divides = subst (λ x. Divides x (tail rest.entries)) same d.divides; reduced = h }

  undivided : (rest : Weighed) → All (λ x. ¬ (Divides x (tail rest.entries))) (leads_of basis.moves) → IsIrreducible (vectors_of basis.moves) (tail rest.entries)
  undivided rest none v (k, l, e) d =
      let within : k < length basis.moves = omega (arith, l, length-vectors_of basis.moves) in
      let at : get_or (leads_of basis.moves) k [] ≡ lead v =
      lead_of_place basis.moves k [] within ∙ ap lead (get_or_default (vectors_of basis.moves) k [] v l ∙ e) in
      none k [] (omega (arith, within, length-leads_of basis.moves)) (subst (λ x. Divides x (tail rest.entries)) (sym at) d)

  pub reduced_at_end : (rest : Weighed) → HasTailReduced basis index rest → All (λ x. ¬ (Divides x (tail rest.entries))) (leads_of basis.moves) → IsReducedFrom basis (move_at (vectors_of basis.moves) index) rest
  reduced_at_end rest h none = record {
    belongs = h.belongs;
    same_lead = h.same_lead;
    reduced = tail_reduced (saturated_list basis s) (move_at (vectors_of basis.moves) index) (vector_member basis.moves index of_list) rest.entries (has_lead basis index rest s h) (undivided rest none);
  }
