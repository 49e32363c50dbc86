use Rattle.std.proofs.Common.{◌≡◌, ◌-◌, ◌++◌, ◌∷◌, List, ℕ, arith, ap, ◌∙◌, sym, subst, append-nil}
use Rattle.mk_move.specs.Priorities.{IsPriority, others}
use Rattle.mk_move.proofs.FirstLists.{first_priority, others_next}
use Rattle.mk_move.proofs.priority.Priority.first.Goals as goal

pub loop-end-preserved-in-Continue-branch-2 : goal.loop-end-preserved-in-Continue-branch-2
loop-end-preserved-in-Continue-branch-2 c =
    let end = c.loop-end.end in
    ap (λ (xs : List ℕ). xs ++ others c.args.column (end - 1)) c.in_ok-push-2.ensures.items ∙ others_next c.loop-end.list.items c.args.column end (omega arith) (omega arith) ∙ c.loop-end.invariant

pub invariant_of-result : goal.invariant_of-result
invariant_of-result c =
    let at_zero : c.loop-end.end ≡ 0 = omega arith in
    let whole : c.loop-end.list.items ≡ c.args.column ∷ others c.args.column c.args.columns =
    sym (append-nil c.loop-end.list.items) ∙ sym (ap (λ k. c.loop-end.list.items ++ others c.args.column k) at_zero) ∙ c.loop-end.invariant in
    subst IsPriority (sym whole) (first_priority c.args.column c.args.columns c.requires (omega arith))
