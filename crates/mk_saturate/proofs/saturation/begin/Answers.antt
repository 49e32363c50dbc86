use Rattle.std.proofs.Common.{length, ap, ◌∙◌, List, ℤ, subst, Err}
use Rattle.mk_model.specs.Tables.{rows_of}
use Rattle.mk_move.proofs.StandardLists.{length-standard}
use Rattle.mk_move.specs.declared.moves.MoveFault.{MoveFault}
use Rattle.mk_saturate.specs.Starts.{Starts, IsFirstUngraded}
use Rattle.mk_saturate.proofs.Beginnings.{none_ungraded}
use Rattle.mk_saturate.proofs.saturation.begin.Goals as goal

pub start_basis-requires-clause-list : goal.start_basis-requires-clause-list
start_basis-requires-clause-list c = ap length c.in_ok-priority.ensures ∙ length-standard c.columns.result ∙ c.columns.ensures.value

pub unreachable-requires : goal.unreachable-requires
unreachable-requires c =
    let rows = rows_of c.args.lat.now in
    let value = c.in-Err-NotGraded.field-0-0 in
    let refused = subst (λ (fault : MoveFault). Starts rows c.in_ok-try_copy.field-0 c.in_ok-priority.priority (Err fault)) c.in-Err-NotGraded.field-0-is c.in-Err-NotGraded.ensures.basis in
    none_ungraded rows c.args.grading.now value c.requires.graded (subst (λ (w : List ℤ). IsFirstUngraded rows w value) c.in_ok-try_copy.ensures refused)
