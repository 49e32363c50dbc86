-- The pair of two places of a basis, from its moves.
use Rattle.std.proofs.Common.{◌≡◌, ◌≢◌, ℕ, ◌<◌, List, ℤ, slice_get, Some, arith, ap, sym, ◌∙◌, subst}
use Rattle.std.proofs.lemmas.Option.{slice_get_within}
use Rattle.mk_model.specs.CoreStates.{move_at}
use Rattle.mk_model.specs.Orders.{lead}
use Rattle.mk_model.specs.Pairs.{AreDisjoint}
use Rattle.mk_model.specs.Reductions.{lcm}
use Rattle.mk_model.specs.Vectors.{weight}
use Rattle.mk_move.specs.Moves.{Weighed}
use Rattle.mk_move.specs.MoveLists.{vectors_of}
use Rattle.mk_move.proofs.MoveVectors.{vector_at, length-vectors_of}
use Rattle.mk_minimise.specs.Overlaps.{lcm_at, AreCoprime, HasOtherWeight, overlap_at, IsOverlap}

module _ (w : List ℤ) (moves : List Weighed) (i j : ℕ) (a b : Weighed) (of_a : slice_get moves i ≡ Some a) (of_b : slice_get moves j ≡ Some b) where
  pub lcm_same : lcm (lead a.entries) (lead b.entries) ≡ lcm_at (vectors_of moves) i j
  lcm_same = ap (λ x. lcm (lead x) (lead b.entries)) (sym (vector_at moves i a of_a)) ∙ ap (λ x. lcm (lead (move_at (vectors_of moves) i)) (lead x)) (sym (vector_at moves j b of_b))

  pub coprime_there : AreDisjoint (lead a.entries) (lead b.entries) → AreCoprime (vectors_of moves) i j
  coprime_there d =
      subst (λ x. AreDisjoint (lead x) (lead (move_at (vectors_of moves) j))) (sym (vector_at moves i a of_a))
      (subst (λ x. AreDisjoint (lead a.entries) (lead x)) (sym (vector_at moves j b of_b)) d)

  pub coprime_here : AreCoprime (vectors_of moves) i j → AreDisjoint (lead a.entries) (lead b.entries)
  coprime_here d =
      subst (λ x. AreDisjoint (lead x) (lead b.entries)) (vector_at moves i a of_a)
      (subst (λ x. AreDisjoint (lead (move_at (vectors_of moves) i)) (lead x)) (vector_at moves j b of_b) d)

  pub other_weight : (bound : ℤ) → weight w (lcm (lead a.entries) (lead b.entries)) ≢ bound → HasOtherWeight w (vectors_of moves) bound i j
  other_weight bound other e = other (ap (weight w) lcm_same ∙ e)

  pub overlap_is : (bound : ℤ) → i < j → ¬ (AreDisjoint (lead a.entries) (lead b.entries)) → weight w (lcm (lead a.entries) (lead b.entries)) ≡ bound → IsOverlap w (vectors_of moves) bound (overlap_at i j)
  overlap_is bound l none e = record {
    ordered = l;
    within = omega (arith, slice_get_within moves j b of_b, length-vectors_of moves);
    overlap = λ d. none (coprime_here d);
    weighs = ap (weight w) (sym lcm_same) ∙ e;
  }
