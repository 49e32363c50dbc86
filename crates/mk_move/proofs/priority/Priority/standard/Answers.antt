use Rattle.std.proofs.Common.{◌≡◌, List, ℕ, ◌++◌, ◌-◌, subst, sym, ◌∙◌, arith, append-nil, ap}
use Rattle.mk_model.specs.Orders.{standard}
use Rattle.mk_move.specs.Priorities.{IsPriority}
use Rattle.mk_move.proofs.StandardLists.{standard_next, standard_priority}
use Rattle.mk_move.proofs.priority.Priority.standard.Goals as goal

pub loop-left-preserved : goal.loop-left-preserved
loop-left-preserved c =
    let left = c.loop-left.left in
    ap (λ (xs : List ℕ). xs ++ standard (left - 1)) c.in_ok-push.ensures.items ∙ standard_next c.loop-left.list.items left (omega arith) ∙ c.loop-left.invariant

pub invariant_of-result : goal.invariant_of-result
invariant_of-result c =
    let at_zero : c.loop-left.left ≡ 0 = omega arith in
    let whole : c.loop-left.list.items ≡ standard c.args.columns =
    sym (append-nil c.loop-left.list.items) ∙ sym (ap (λ k. c.loop-left.list.items ++ standard k) at_zero) ∙ c.loop-left.invariant in
    subst IsPriority (sym whole) (standard_priority c.args.columns (omega arith))
