use Rattle.std.proofs.Common.{subst, sym, List, ℕ}
use Rattle.mk_move.specs.Moves.{Weighed, IsRowOriented, IsGraded}
use Rattle.mk_saturate.proofs.TurnedMoves.{turned_belongs}
use Rattle.mk_saturate.proofs.turning.push_turned.Goals as goal

pub push-requires-clause-belongs : goal.push-requires-clause-belongs
push-requires-clause-belongs c =
    let row = c.args.row.now in
    let next = c.orient.new.self in
    let p = c.args.turned.now.priority in
    let w = c.args.turned.now.grading in
    let oriented = subst (λ (l : List ℕ). IsRowOriented c.in_ok-next.next.entries l next.entries) c.priority.ensures c.orient.ensures.entries in
    let of_row = subst (λ (m : Weighed). IsRowOriented m.entries p next.entries) c.in_ok-next.ensures oriented in
    turned_belongs p w row next c.requires.columns of_row (c.orient.ensures.graded w (subst (λ (m : Weighed). IsGraded w m) (sym c.in_ok-next.ensures) c.requires.graded))
