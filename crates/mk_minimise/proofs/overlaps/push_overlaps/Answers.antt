use Rattle.std.proofs.Common.{◌+◌, ap, sym, ◌∙◌, subst}
use mir.Syntax.{w128}
use mir.Val.{to_z, of_z}
use Rattle.mk_model.specs.CoreStates.{pair_of}
use Rattle.mk_move.specs.MoveLists.{vectors_of}
use Rattle.mk_minimise.specs.Overlaps.{ListsBefore}
use Rattle.mk_minimise.proofs.OverlapLists.{lists_push, lists_skip}
use Rattle.mk_minimise.proofs.overlaps.push_overlaps.Goals as goal
use Rattle.mk_minimise.proofs.overlaps.push_overlaps.Goals.{in-Some+in_ok-push, in_default}

pub loop-first-preserved : goal.loop-first-preserved
loop-first-preserved c =
    let w = c.args.basis.now.grading in
    let moves = vectors_of c.args.basis.now.moves in
    let first = c.loop-first.first in
    let second = c.args.second in
    let weight = to_z w128 (of_z w128 c.args.weight) in
    let before = c.loop-first.found.items in
    elim c.match-overlap_of.branch [
      | in-Some+in_ok-push b ↦ subst (ListsBefore w moves weight (pair_of (first + 1) second)) (sym (ap (λ v. v.items) b.found-is ∙ b.in_ok-push.ensures.items))
          (lists_push w moves weight before first second b.in-Some.pair c.loop-first.invariant b.in-Some.ensures.overlap b.in-Some.ensures.value)
      | in_default b ↦ subst (ListsBefore w moves weight (pair_of (first + 1) second)) (sym (ap (λ v. v.items) b.found-is))
          (lists_skip w moves weight before first second c.loop-first.invariant b.in_default.ensures.none)
    ]
