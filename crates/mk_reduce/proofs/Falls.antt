-- Each step lowers the number of a vector.
use Rattle.std.proofs.Common.{◌≡◌, ℕ, ◌<◌, List, [], get_or, ℤ, pos, arith, subst}
use Rattle.std.proofs.Math.ListN.{get_or-map}
use Rattle.mk_model.specs.CoreStates.{move_at}
use Rattle.mk_model.specs.Overflows.{IsTimesDividing}
use Rattle.mk_move.specs.Moves.{Weighed}
use Rattle.mk_move.specs.MoveLists.{BasisView, IsBasis, vectors_of}
use Rattle.mk_move.proofs.MoveVectors.{length-vectors_of}
use Rattle.mk_reduce.specs.declared.step.Step.{Step}
use Rattle.mk_reduce.specs.Works.{IsReductionStep, after_step}
use Rattle.mk_reduce.proofs.Heights.{height, step_lowers, IsLevel}
use Rattle.mk_reduce.proofs.BasisMoves.{grading_of, level_of}

module _ (basis : BasisView) (h : IsBasis basis) where
  abbrev no_move : Weighed
  no_move = record { entries = []; weight = pos 0 }

  vector_is : (place : ℕ) → move_at (vectors_of basis.moves) place ≡ (get_or basis.moves place no_move).entries
  vector_is place = get_or-map (λ (m : Weighed). m.entries) basis.moves place no_move

  pub step_down : (r : List ℤ) (step : Step) → IsLevel (grading_of basis.grading h.grading) basis.priority r → IsReductionStep (vectors_of basis.moves) r step →
      height basis.grading basis.priority (after_step (vectors_of basis.moves) r step) < height basis.grading basis.priority r
  step_down r step l d =
      let b = h.moves step.place no_move (omega (arith, d.within, length-vectors_of basis.moves)) in
      let v = get_or basis.moves step.place no_move in
      rw (vector_is step.place) (step_lowers (grading_of basis.grading h.grading) basis.priority r v.entries step.times l (level_of basis h v b) b.oriented (subst (λ x. IsTimesDividing x r step.times) (vector_is step.place) d.divides))
