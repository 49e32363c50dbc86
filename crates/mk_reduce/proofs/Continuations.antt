-- Work that goes on reduces what was left before.
use Rattle.std.proofs.Common.{◌≡◌, List, [], ◌∷◌, ◌++◌, length, ℤ, refl, sym, subst}
use Rattle.mk_model.specs.CoreStates.{Pair, difference}
use Rattle.mk_model.specs.Reductions.{Reduct}
use Rattle.mk_model.specs.Reductions.Reaches.{here, go}
use Rattle.mk_move.specs.MoveLists.{BasisView, vectors_of}
use Rattle.mk_reduce.specs.declared.step.Step.{Step}
use Rattle.mk_reduce.specs.Works.{TheWork, WorkOf, rest_of, after_step, LeadsTo, ContinuesWork}
use Rattle.mk_reduce.proofs.MoreSteps.{reduction_of}

-- the last steps of a trace lead from where the first ones led
last_steps : (moves : List (List ℤ)) (r : List ℤ) (trace more : List Step) (middle last : List ℤ) → LeadsTo moves r trace middle → LeadsTo moves r (trace ++ more) last → LeadsTo moves middle more last
last_steps moves r [] more middle last e l = subst (λ x. LeadsTo moves x more last) (sym e) l
last_steps moves r (step ∷ trace) more middle last (h, k) (g, l) = last_steps moves (after_step moves r step) trace more middle last k l

pub trace_reduct : (moves : List (List ℤ)) (r : List ℤ) (trace : List Step) (last : List ℤ) → LeadsTo moves r trace last → Reduct moves r last
trace_reduct moves r [] last e = subst (Reduct moves r) (sym e) here
trace_reduct moves r (step ∷ trace) last (h, l) =
    go (reduction_of moves r (after_step moves r step) step h refl) (trace_reduct moves (after_step moves r step) trace last l)

pub continued_reduct : (basis : BasisView) (began after : TheWork) → WorkOf began basis → WorkOf after basis → after.pair ≡ began.pair → ContinuesWork began.trace after.trace →
    Reduct (vectors_of basis.moves) (rest_of (length basis.grading) began.remainder) (rest_of (length basis.grading) after.remainder)
continued_reduct basis began after h g e (more, f) = trace_reduct moves (rest began) more (rest after) (last_steps moves first began.trace more (rest began) (rest after) h.steps whole)
  where
    moves : List (List ℤ)
    moves = vectors_of basis.moves

    first : List ℤ
    first = difference moves began.pair

    rest : TheWork → List ℤ
    rest work = rest_of (length basis.grading) work.remainder

    whole : LeadsTo (vectors_of basis.moves) (difference (vectors_of basis.moves) began.pair) (began.trace ++ more) (rest_of (length basis.grading) after.remainder)
    whole =
        subst (λ (trace : List Step). LeadsTo (vectors_of basis.moves) (difference (vectors_of basis.moves) began.pair) trace (rest_of (length basis.grading) after.remainder)) f
        (subst (λ (p : Pair). LeadsTo (vectors_of basis.moves) (difference (vectors_of basis.moves) p) after.trace (rest_of (length basis.grading) after.remainder)) e g.steps)
