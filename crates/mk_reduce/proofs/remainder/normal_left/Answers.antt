use Rattle.std.proofs.Common.{Bool, true, false, Ok, length, List, ℤ, subst, ap, ◌∙◌}
use Rattle.mk_model.specs.Vectors.{zeros}
use Rattle.mk_move.specs.MoveLists.{vectors_of}
use Rattle.mk_reduce.specs.declared.stop.Stop.{Stop}
use Rattle.mk_reduce.specs.declared.stop.Stop.TheVariants.{Overflow}
use Rattle.mk_reduce.specs.Traces.{ReducesKeeping, IsRefusedFrom}
use Rattle.mk_reduce.proofs.Remainders.{with_weight}
use Rattle.mk_reduce.proofs.Traces.{nothing_kept, left_reduct, left_normal, left_refused}
use Rattle.mk_reduce.proofs.remainder.normal_left.Goals as goal

pub returns-in_ok-weighed-in-Ok-true : goal.returns-in_ok-weighed-in-Ok-true
returns-in_ok-weighed-in-Ok-true g c = λ pair began.
    let basis = c.args.basis.now in
    let first = c.args.rest.now.entries in
    let left = c.reduce_keeping.new.rest in
    let ends : ReducesKeeping basis first nothing_kept (Ok true) left nothing_kept =
    subst (λ (b : Bool). ReducesKeeping basis first nothing_kept (Ok b) left nothing_kept) c.in-Ok-true.field-0-test c.in-Ok-true.ensures in
    left_normal basis pair first began nothing_kept nothing_kept left c.in_ok-weighed-in-Ok-true.field-0 ends.0
    (c.in_ok-weighed-in-Ok-true.ensures ∙ ap (λ (w : List ℤ). with_weight w left) c.grading.ensures) ends.1

pub returns-in-Ok-false : goal.returns-in-Ok-false
returns-in-Ok-false g c = λ pair began.
    let basis = c.args.basis.now in
    let first = c.args.rest.now.entries in
    let left = c.reduce_keeping.new.rest in
    let ends : ReducesKeeping basis first nothing_kept (Ok false) left nothing_kept =
    subst (λ (b : Bool). ReducesKeeping basis first nothing_kept (Ok b) left nothing_kept) c.in-Ok-false.field-0-test c.in-Ok-false.ensures in
    left_reduct basis pair first began nothing_kept nothing_kept (zeros (length basis.grading)) ends

pub returns-in_ok-weighed-in-Err-Overflow : goal.returns-in_ok-weighed-in-Err-Overflow
returns-in_ok-weighed-in-Err-Overflow g c = λ pair began.
    let basis = c.args.basis.now in
    let left = c.reduce_keeping.new.rest in
    let refused : IsRefusedFrom (vectors_of basis.moves) left.entries (Overflow c.in-Err-Overflow.by c.in-Err-Overflow.at) =
    subst (λ (stop : Stop). IsRefusedFrom (vectors_of basis.moves) left.entries stop) c.in-Err-Overflow.field-0-is c.in-Err-Overflow.ensures.1 in
    left_refused basis pair c.args.rest.now.entries began nothing_kept nothing_kept left c.in_ok-weighed-in-Err-Overflow.field-0 c.in-Err-Overflow.ensures.0
    (c.in_ok-weighed-in-Err-Overflow.ensures ∙ ap (λ (w : List ℤ). with_weight w left) c.grading-in-Err-Overflow.ensures) c.in-Err-Overflow.by c.in-Err-Overflow.at refused
