use Rattle.std.proofs.Common.{length, subst}
use Rattle.mk_move.specs.MoveLists.{BasisView, vectors_of}
use Rattle.mk_minimise.specs.Stages.{AreChosenUpTo}
use Rattle.mk_minimise.proofs.ChosenMoves.{chosen_are_answer}
use Rattle.mk_minimise.proofs.LowerFronts.{list_grading}
use Rattle.mk_minimise.proofs.minimal.list_of.Goals as goal

pub returns-clause-answer : goal.returns-clause-answer
returns-clause-answer g c =
    let basis = c.args.basis.now in
    let chosen = c.in_ok-chosen.chosen.items in
    let all = subst (λ (b : BasisView). AreChosenUpTo (length b.grading) b.grading (vectors_of b.moves) c.args.upto (vectors_of chosen)) c.basis-moves.ensures.value c.in_ok-chosen.ensures.chosen in
    chosen_are_answer (length basis.grading) basis.grading (vectors_of basis.moves) c.args.upto (vectors_of chosen) all (list_grading basis c.basis-moves.ensures.kept) c.basis-moves.ensures.kept.reduced
