-- A saturated basis as a list of vectors.
use Rattle.std.proofs.Common.{◌≡◌, ℕ, List, length, ℤ, pos, All, refl, ◌∙◌, subst}
use Rattle.std.proofs.lemmas.List.Elements.{All-map, All-weaker}
use Rattle.mk_model.specs.Vectors.{weight}
use Rattle.mk_model.specs.Lattices.{lattice_of, HasGrading}
use Rattle.mk_model.specs.Orders.{IsOriented, standard}
use Rattle.mk_model.specs.Pairs.{EveryPairJoined}
use Rattle.mk_move.specs.Gradings.{AreWeights}
use Rattle.mk_move.specs.Moves.{Weighed}
use Rattle.mk_move.specs.MoveLists.{BasisView, BelongsTo, vectors_of}
use Rattle.mk_core.specs.SaturatedBases.{IsSaturated}
use Rattle.mk_inter.proofs.SaturatedLists.{AreSaturated}

-- the vectors of moves that belong to a grading
pub grading_of : (p : List ℕ) (w : List ℤ) (moves : List Weighed) → AreWeights w → length p ≡ length w → All (BelongsTo p w) moves → HasGrading (lattice_of (length w) (vectors_of moves) w)
grading_of p w moves weights same each = record {
  columns = refl;
  positive = λ c l. (weights.each c (pos 0) l).0;
  rows_columns = All-map (λ row. length row ≡ length w) (λ (m : Weighed). m.entries) moves (All-weaker (BelongsTo p w) (λ m. length m.entries ≡ length w) (λ m h. h.columns ∙ same) moves each);
  rows_weight = All-map (λ row. weight w row ≡ pos 0) (λ (m : Weighed). m.entries) moves (All-weaker (BelongsTo p w) (λ m. weight w m.entries ≡ pos 0) (λ m h. h.graded.product) moves each);
}

pub saturated_list : (basis : BasisView) → IsSaturated basis → AreSaturated (length basis.grading) (vectors_of basis.moves) basis.grading (vectors_of basis.moves)
saturated_list basis s = record {
  oriented = record {
    grading = grading_of basis.priority basis.grading basis.moves s.kept.grading s.kept.columns s.kept.moves;
    in_lattice = s.markov.in_lattice;
    oriented = All-map (IsOriented (standard (length basis.grading))) (λ (m : Weighed). m.entries) basis.moves
        (All-weaker (BelongsTo basis.priority basis.grading) (λ m. IsOriented (standard (length basis.grading)) m.entries) (λ m h. subst (λ p. IsOriented p m.entries) s.standard_list h.oriented) basis.moves s.kept.moves);
  };
  joined = subst (λ p. EveryPairJoined (length basis.grading) p (vectors_of basis.moves)) s.standard_list s.joined;
  markov = s.markov;
  apart = s.none_redundant;
}
