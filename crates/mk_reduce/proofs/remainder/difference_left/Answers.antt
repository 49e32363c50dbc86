use Rattle.std.proofs.Common.{Bool, true, false, Ok, pos, subst}
use Rattle.mk_model.specs.CoreStates.{pair_of}
use Rattle.mk_move.specs.InPlace.{TakesOffInPlace}
use Rattle.mk_reduce.proofs.Beginnings.{not_begun}
use Rattle.mk_reduce.proofs.Remainders.{difference_unweighed, difference_begins, difference_zero}
use Rattle.mk_reduce.proofs.remainder.difference_left.Goals as goal

pub normal_left-requires-clause-unweighed : goal.normal_left-requires-clause-unweighed
normal_left-requires-clause-unweighed g c =
    let a = c.move_at.result.now in
    let b = c.args.rest.now in
    let taken : TakesOffInPlace b (pos 1) a.entries (Ok true) c.take_off.new.self = subst (λ (t : Bool). TakesOffInPlace b (pos 1) a.entries (Ok t) c.take_off.new.self) c.in-Ok-true.field-0-test c.in-Ok-true.ensures.taken in
    difference_unweighed c.args.basis.now c.requires.basis c.args.i c.args.j a b c.move_at.ensures.value c.requires.second c.move_at.ensures.belongs c.take_off.new.self taken

pub returns-in-Ok-true : goal.returns-in-Ok-true
returns-in-Ok-true g c =
    let a = c.move_at.result.now in
    let b = c.args.rest.now in
    let taken : TakesOffInPlace b (pos 1) a.entries (Ok true) c.take_off.new.self = subst (λ (t : Bool). TakesOffInPlace b (pos 1) a.entries (Ok t) c.take_off.new.self) c.in-Ok-true.field-0-test c.in-Ok-true.ensures.taken in
    c.normal_left.ensures (pair_of c.args.i c.args.j)
    (difference_begins c.args.basis.now c.requires.basis c.args.i c.args.j a b c.move_at.ensures.value c.requires.second c.move_at.ensures.belongs c.take_off.new.self taken)

pub returns-in-Ok-false : goal.returns-in-Ok-false
returns-in-Ok-false g c =
    let a = c.move_at.result.now in
    let b = c.args.rest.now in
    let none : TakesOffInPlace b (pos 1) a.entries (Ok false) c.take_off.new.self = subst (λ (t : Bool). TakesOffInPlace b (pos 1) a.entries (Ok t) c.take_off.new.self) c.in-Ok-false.field-0-test c.in-Ok-false.ensures.taken in
    difference_zero c.args.basis.now c.requires.basis c.args.i c.args.j a b c.move_at.ensures.value c.requires.second c.move_at.ensures.belongs none.1

pub returns-in-Err : goal.returns-in-Err
returns-in-Err g c =
    let a = c.move_at.result.now in
    let b = c.args.rest.now in
    let refused = not_begun c.args.basis.now.moves c.args.i c.args.j a b c.in-Err.at c.move_at.ensures.value c.requires.second c.in-Err.ensures.taken.1 in
    refused.1
