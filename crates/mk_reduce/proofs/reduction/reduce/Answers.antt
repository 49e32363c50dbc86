use Rattle.std.proofs.Common.{Bool, true, false, Ok, Some, List, ℤ, subst, sym, ap, ◌∙◌}
use Rattle.mk_reduce.specs.Works.{TheWork, WorkOf}
use Rattle.mk_reduce.specs.Stops.{IsStepRefused}
use Rattle.mk_reduce.specs.Traces.{ReducesKeeping}
use Rattle.mk_reduce.specs.contracts.work.Work.{the_view}
use Rattle.mk_reduce.proofs.Remainders.{with_weight}
use Rattle.mk_reduce.proofs.Traces.{all_of, ended_at_some, ended_at_none, stopped, stop_is}
use Rattle.mk_reduce.proofs.reduction.reduce.Goals as goal

pub returns-in-Ok-true-clause-work : goal.returns-in-Ok-true-clause-work
returns-in-Ok-true-clause-work g c =
    let basis = c.args.basis.now in
    let began = the_view c.work.inside in
    let left = c.reduce_keeping.new.rest in
    let trace = c.reduce_keeping.new.keeper.items in
    let ends : ReducesKeeping basis c.in-Some.rest.entries (all_of began.trace) (Ok true) left (all_of trace) =
    subst (λ (b : Bool). ReducesKeeping basis c.in-Some.rest.entries (all_of began.trace) (Ok b) left (all_of trace)) c.in-Ok-true.field-0-test c.in-Ok-true.ensures in
    ended_at_some basis began (subst (λ (w : TheWork). WorkOf w basis) (sym c.work.view_is) c.requires.work) c.in-Some.rest c.in-Some.is left c.weigh.new.self trace ends.0
    (c.weigh.ensures ∙ ap (λ (w : List ℤ). with_weight w left) c.grading.ensures) c.len-work-inside.result c.len-work-inside.ensures.value c.columns.ensures.kept

pub returns-in-Ok-false-clause-work : goal.returns-in-Ok-false-clause-work
returns-in-Ok-false-clause-work g c =
    let basis = c.args.basis.now in
    let began = the_view c.work.inside in
    let trace = c.reduce_keeping.new.keeper.items in
    let ends : ReducesKeeping basis c.in-Some.rest.entries (all_of began.trace) (Ok false) c.reduce_keeping.new.rest (all_of trace) =
    subst (λ (b : Bool). ReducesKeeping basis c.in-Some.rest.entries (all_of began.trace) (Ok b) c.reduce_keeping.new.rest (all_of trace)) c.in-Ok-false.field-0-test c.in-Ok-false.ensures in
    ended_at_none basis began (subst (λ (w : TheWork). WorkOf w basis) (sym c.work.view_is) c.requires.work) c.in-Some.rest c.in-Some.is c.len-work-inside.result trace c.len-work-inside.ensures.value ends

pub returns-in-Err-clause-work : goal.returns-in-Err-clause-work
returns-in-Err-clause-work g c =
    let basis = c.args.basis.now in
    let began = the_view c.work.inside in
    let left = c.reduce_keeping.new.rest in
    stopped basis began (subst (λ (w : TheWork). WorkOf w basis) (sym c.work.view_is) c.requires.work) c.in-Some.rest c.in-Some.is left c.weigh-in-Err.new.self c.reduce_keeping.new.keeper.items c.in-Err.ensures.0
    (c.weigh-in-Err.ensures ∙ ap (λ (w : List ℤ). with_weight w left) c.grading-in-Err.ensures) c.columns-in-Err.ensures.kept

pub returns-in-Err-clause-stop : goal.returns-in-Err-clause-stop
returns-in-Err-clause-stop g c =
    let basis = c.args.basis.now in
    let began = the_view c.work.inside in
    let left = c.reduce_keeping.new.rest in
    subst (λ (w : TheWork). IsStepRefused basis.moves w.pair (Some c.weigh-in-Err.new.self) c.in-Err.stop) c.work.view_is
    (stop_is basis began (subst (λ (w : TheWork). WorkOf w basis) (sym c.work.view_is) c.requires.work) c.in-Some.rest c.in-Some.is left c.weigh-in-Err.new.self c.reduce_keeping.new.keeper.items c.in-Err.ensures.0
    (c.weigh-in-Err.ensures ∙ ap (λ (w : List ℤ). with_weight w left) c.grading-in-Err.ensures) c.in-Err.stop c.in-Err.ensures.1)
