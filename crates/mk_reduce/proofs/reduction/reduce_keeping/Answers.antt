use Rattle.std.proofs.Common.{Bool, true, false, Ok, Err, ℤ, subst}
use Rattle.mk_move.specs.InPlace.{TakesOffInPlace}
use Rattle.mk_move.proofs.Entries.{as_entry, entry_read}
use Rattle.mk_reduce.proofs.Traces.{untraced, step_traced, lower_traced, zero_traced, refused_traced}
use Rattle.mk_reduce.proofs.reduction.reduce_keeping.Goals as goal

pub loop-step-init : goal.loop-step-init
loop-step-init g c = untraced c.args.basis.now c.args.rest.now (g.K.StepKeeper.has c.args.keeper.now) c.requires.unweighed

pub loop-step-smaller : goal.loop-step-smaller
loop-step-smaller g c =
    let m = c.loop-step.rest in
    let v = c.move_at.result.now in
    let step = c.in-Some.step in
    let some : TakesOffInPlace m (as_entry step.times) v.entries (Ok true) c.take_off.new.self = subst (λ (b : Bool). TakesOffInPlace m (as_entry step.times) v.entries (Ok b) c.take_off.new.self) c.in-Ok-true.field-0-test c.in-Ok-true.ensures.taken in
    let taken = subst (λ (z : ℤ). TakesOffInPlace m z v.entries (Ok true) c.take_off.new.self) (entry_read step.times c.in-Some.ensures.times) some in
    lower_traced c.args.basis.now c.requires.basis c.args.rest.now.entries (g.K.StepKeeper.has c.args.keeper.now) (g.K.StepKeeper.has c.loop-step.keeper) m v step c.loop-step.invariant c.in-Some.ensures.found c.move_at.ensures.value c.move_at.ensures.belongs c.take_off.new.self taken

pub loop-step-preserved : goal.loop-step-preserved
loop-step-preserved g c =
    let m = c.loop-step.rest in
    let v = c.move_at.result.now in
    let step = c.in-Some.step in
    let some : TakesOffInPlace m (as_entry step.times) v.entries (Ok true) c.take_off.new.self = subst (λ (b : Bool). TakesOffInPlace m (as_entry step.times) v.entries (Ok b) c.take_off.new.self) c.in-Ok-true.field-0-test c.in-Ok-true.ensures.taken in
    let taken = subst (λ (z : ℤ). TakesOffInPlace m z v.entries (Ok true) c.take_off.new.self) (entry_read step.times c.in-Some.ensures.times) some in
    step_traced c.args.basis.now c.requires.basis c.args.rest.now.entries (g.K.StepKeeper.has c.args.keeper.now) (g.K.StepKeeper.has c.loop-step.keeper) m v step c.loop-step.invariant c.in-Some.ensures.found c.move_at.ensures.value c.move_at.ensures.belongs (g.K.StepKeeper.has c.keep.new.self) c.in_ok-keep.ensures.ok c.take_off.new.self taken

pub returns-in-Ok-false : goal.returns-in-Ok-false
returns-in-Ok-false g c =
    let m = c.loop-step.rest in
    let v = c.move_at.result.now in
    let step = c.in-Some.step in
    let some : TakesOffInPlace m (as_entry step.times) v.entries (Ok false) c.take_off.new.self = subst (λ (b : Bool). TakesOffInPlace m (as_entry step.times) v.entries (Ok b) c.take_off.new.self) c.in-Ok-false.field-0-test c.in-Ok-false.ensures.taken in
    let taken = subst (λ (z : ℤ). TakesOffInPlace m z v.entries (Ok false) c.take_off.new.self) (entry_read step.times c.in-Some.ensures.times) some in
    zero_traced c.args.basis.now c.requires.basis c.args.rest.now.entries (g.K.StepKeeper.has c.args.keeper.now) (g.K.StepKeeper.has c.loop-step.keeper) m v step c.loop-step.invariant c.in-Some.ensures.found c.move_at.ensures.value c.move_at.ensures.belongs (g.K.StepKeeper.has c.keep.new.self) c.in_ok-keep.ensures.ok c.take_off.new.self taken

pub returns-in-Err : goal.returns-in-Err
returns-in-Err g c =
    let m = c.loop-step.rest in
    let v = c.move_at.result.now in
    let step = c.in-Some.step in
    let taken = subst (λ (z : ℤ). TakesOffInPlace m z v.entries (Err c.in-Err.at) c.take_off.new.self) (entry_read step.times c.in-Some.ensures.times) c.in-Err.ensures.taken in
    refused_traced c.args.basis.now c.requires.basis c.args.rest.now.entries (g.K.StepKeeper.has c.args.keeper.now) (g.K.StepKeeper.has c.loop-step.keeper) m v step c.loop-step.invariant c.in-Some.ensures.found c.move_at.ensures.value c.move_at.ensures.belongs (g.K.StepKeeper.has c.keep.new.self) c.in_ok-keep.ensures.ok (g.K.StepKeeper.has c.take_back.new.self) c.take_back.ensures c.take_off.new.self c.in-Err.at taken
