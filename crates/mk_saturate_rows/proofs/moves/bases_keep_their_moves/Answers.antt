use Rattle.std.proofs.Common.{List, ℕ, ℤ, ◌∙◌, sym, subst}
use Rattle.mk_move.specs.Moves.{Weighed}
use Rattle.mk_move.specs.MoveLists.{BelongsTo}
use Rattle.mk_saturate_rows.proofs.moves.bases_keep_their_moves.Goals as goal

pub push-requires-clause-belongs : goal.push-requires-clause-belongs
push-requires-clause-belongs g c =
    let start = c.in_ok-start.start in
    let m = c.in_ok-try_copy.field-0 in
    let list = c.new-basis.ensures.priority ∙ c.in_ok-list.ensures ∙ c.priority.ensures in
    let weights = c.new-basis.ensures.grading ∙ c.in_ok-grading.ensures ∙ c.grading.ensures in
    subst (λ (p : List ℕ). BelongsTo p c.new-basis.result.grading m) (sym list)
    (subst (λ (w : List ℤ). BelongsTo start.priority w m) (sym weights)
    (subst (λ (x : Weighed). BelongsTo start.priority start.grading x) (sym c.in_ok-try_copy.ensures) c.move_at.ensures.belongs))
