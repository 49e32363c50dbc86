use Rattle.std.proofs.Common.{ap, ◌∙◌}
use Rattle.mk_move.specs.MoveLists.{BasisView}
use Rattle.mk_saturate.proofs.TurnedMoves.{turned_more}
use Rattle.mk_saturate.proofs.turning.turned.Goals as goal

pub loop-k-preserved : goal.loop-k-preserved
loop-k-preserved c =
    let pushed = c.in_ok-push_turned.ensures in record {
      priority = ap (λ (b : BasisView). b.priority) pushed.pushed ∙ c.loop-k.invariant.priority;
      grading = ap (λ (b : BasisView). b.grading) pushed.pushed ∙ c.loop-k.invariant.grading;
      moves = turned_more c.args.priority c.args.basis.now.moves c.loop-k.k c.move_at.result.now c.loop-k.turned c.push_turned.new.turned c.move_at.ensures.value c.loop-k.invariant.priority c.loop-k.invariant.moves pushed;
    }
