-- Runs of one weight in a reduced basis, whose weights rise.
use Rattle.std.proofs.Common.{◌≡◌, ◌⊎◌, inl, inr, ℕ, ◌+◌, ◌≤◌, ◌<◌, [], length, slice_get, Some, Option, ◌≤ℤ◌, ◌<ℤ◌, arith, ap, sym, ◌∙◌, subst}
use Rattle.std.proofs.lemmas.Bool.{cases_lt}
use Rattle.std.proofs.lemmas.Int.{ints, by_lt_z}
use Rattle.mk_model.specs.Bases.{IsUpTo}
use Rattle.mk_model.specs.CoreStates.{move_at}
use Rattle.mk_model.specs.Orders.{lead, ComesBefore}
use Rattle.mk_model.specs.Vectors.{weight}
use Rattle.mk_model.proofs.WeightBounds.{IsUpTo-no_heavier}
use Rattle.mk_move.specs.Moves.{Weighed, IsGraded}
use Rattle.mk_move.specs.MoveLists.{BasisView, vectors_of}
use Rattle.mk_move.proofs.MoveVectors.{vector_at, length-vectors_of}
use Rattle.mk_inter.specs.Tails.{IsReducedList}
use Rattle.mk_minimise.specs.Stages.{weight_at, IsWeightCut, IsAsHeavy, IsWeightRun, IsPlaceUpTo, IsBoundCut}

-- the weight that a move has
pub weight_is : (basis : BasisView) (k : ℕ) (m : Weighed) → slice_get basis.moves k ≡ Some m → IsGraded basis.grading m → m.weight ≡ weight_at basis k
weight_is basis k m e h = h.weight ∙ ap (λ x. weight basis.grading (lead x)) (sym (vector_at basis.moves k m e))

-- the places from start to end have the weight of the start
pub record IsRunSoFar (basis : BasisView) (start end : ℕ) : Type 0 where
  pub some : start < end
  pub within : end ≤ length basis.moves
  pub same : (k : ℕ) → start ≤ k → k < end → weight_at basis k ≡ weight_at basis start

module _ (basis : BasisView) (h : IsReducedList basis) where
  weights_ascend : (i j : ℕ) → i < j → j < length basis.moves → weight_at basis i ≤ℤ weight_at basis j
  weights_ascend i j l k = go (h.reduced.ascending i j [] l (omega (arith, k, length-vectors_of basis.moves)))
    where
      go : ComesBefore (length basis.grading) basis.grading (move_at (vectors_of basis.moves) i) (move_at (vectors_of basis.moves) j) → weight_at basis i ≤ℤ weight_at basis j
      go (inl s) = omega (arith, ints, s)
      go (inr (e, _)) = omega (arith, ints, e)

  pub weights_rise : (i j : ℕ) → i ≤ j → j < length basis.moves → weight_at basis i ≤ℤ weight_at basis j
  weights_rise i j l k = go (cases i j l)
    where
      cases : (i j : ℕ) → i ≤ j → (i < j) ⊎ (i ≡ j)
      cases i j l = grind arith

      go : (i < j) ⊎ (i ≡ j) → weight_at basis i ≤ℤ weight_at basis j
      go (inl s) = weights_ascend i j s k
      go (inr e) = omega (arith, ints, ap (weight_at basis) e)

  -- ---- a run, until it ends
  pub run_begins : (start : ℕ) → start < length basis.moves → IsRunSoFar basis start (start + 1)
  run_begins start l = record { some = omega arith; within = omega arith; same = λ k h i. ap (weight_at basis) (only k h i) }
    where
      only : (k : ℕ) → start ≤ k → k < start + 1 → k ≡ start
      only k h i = omega arith

  pub run_goes_on : (start end : ℕ) → IsRunSoFar basis start end → IsAsHeavy basis start end → IsRunSoFar basis start (end + 1)
  run_goes_on start end r a = record { some = omega (arith, r.some); within = omega (arith, a.within); same = λ k h i. at k h (cases k i) }
    where
      cases : (k : ℕ) → k < end + 1 → (k < end) ⊎ (k ≡ end)
      cases k i = grind arith

      at : (k : ℕ) → start ≤ k → (k < end) ⊎ (k ≡ end) → weight_at basis k ≡ weight_at basis start
      at k h (inl i) = r.same k h i
      at k h (inr e) = ap (weight_at basis) e ∙ a.same

  pub run_ends : (start end : ℕ) → IsRunSoFar basis start end → (IsAsHeavy basis start end → ⊥) → IsWeightRun basis start end
  run_ends start end r none = record { some = r.some; within = r.within; same = r.same; cut = cut }
    where
      at_most : (i : ℕ) → i < end → (i < start) ⊎ (start ≤ i) → weight_at basis i ≤ℤ weight_at basis start
      at_most i l (inl k) = weights_rise i start (omega arith) (omega (arith, r.some, r.within))
      at_most i l (inr k) = omega (arith, ints, r.same i k l)

      more : end < length basis.moves → weight_at basis start <ℤ weight_at basis end
      more l = by_lt_z (weight_at basis start) (weight_at basis end) (λ s. s)
          (λ s. absurd (none (record { within = l; same = omega (arith, ints, s, weights_rise start end (omega (arith, r.some)) l) })))

      cut : IsWeightCut basis end
      cut i j l k m = omega (arith, ints, at_most i l (cases_lt i start), more (omega arith), weights_rise end j k m)

  -- ---- the places up to a bound
  module _ (upto : Option ℕ) where
    abbrev pub AreUpTo : ℕ → Type 0
    AreUpTo count = (k : ℕ) → k < count → IsUpTo upto (weight_at basis k)

    -- a run at a place up to the bound is up to it
    pub up_to_more : (start end : ℕ) → AreUpTo start → IsPlaceUpTo basis upto start → IsWeightRun basis start end → AreUpTo end
    up_to_more start end before here run k l = go (cases_lt k start)
      where
        go : (k < start) ⊎ (start ≤ k) → IsUpTo upto (weight_at basis k)
        go (inl s) = before k s
        go (inr s) = subst (IsUpTo upto) (sym (run.same k s l)) here.light

    -- where the next place isn't up to the bound, no place from it on is
    pub up_to_ends : (count : ℕ) → AreUpTo count → (IsPlaceUpTo basis upto count → ⊥) → IsBoundCut basis.grading (vectors_of basis.moves) upto count
    up_to_ends count before none = record {
      light = before;
      heavy = λ k h l light. none (record {
        within = omega (arith, h, l, length-vectors_of basis.moves);
        light = IsUpTo-no_heavier upto _ _ (weights_rise count k h (omega (arith, l, length-vectors_of basis.moves))) light;
      });
    }
