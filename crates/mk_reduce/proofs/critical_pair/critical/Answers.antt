use Rattle.std.proofs.Common.{◌≡◌, Bool, true, false, Ok, Some, None, List, length, ℤ, pos, slice_get, ap, sym, ◌∙◌, subst}
use Rattle.mk_model.specs.Vectors.{zeros}
use Rattle.mk_move.specs.Moves.{Weighed}
use Rattle.mk_move.specs.InPlace.{TakesOffInPlace}
use Rattle.mk_reduce.specs.Works.{WorkOf}
use Rattle.mk_reduce.proofs.Beginnings.{begun, not_begun}
use Rattle.mk_reduce.proofs.Remainders.{difference_unweighed, rest_weighed, with_weight}
use Rattle.mk_reduce.proofs.critical_pair.critical.Goals as goal

pub returns-in-Ok-true-clause-work : goal.returns-in-Ok-true-clause-work
returns-in-Ok-true-clause-work c =
    let basis = c.args.basis.now in
    let a = c.move_at-2.result.now in
    let b = c.in_ok-rest.rest in
    let left = c.take_off.new.self in
    let given = c.weigh.new.self in
    let second : slice_get basis.moves c.args.j ≡ Some b = c.move_at.ensures.value ∙ ap Some (sym c.in_ok-rest.ensures) in
    let taken : TakesOffInPlace b (pos 1) a.entries (Ok true) left = subst (λ (t : Bool). TakesOffInPlace b (pos 1) a.entries (Ok t) left) c.in-Ok-true.field-0-test c.in-Ok-true.ensures.taken in
    let weighed = c.weigh.ensures ∙ ap (λ (w : List ℤ). with_weight w left) c.grading.ensures in
    let unweighed = difference_unweighed basis c.len.ensures.kept c.args.i c.args.j a b c.move_at-2.ensures.value second c.move_at-2.ensures.belongs left taken in
    subst (λ work. WorkOf work basis) (sym c.new.ensures)
    (begun basis c.args.i c.args.j a b (Some given) c.requires.ordered c.move_at-2.ensures.value second (ap (λ (m : Weighed). m.entries) (weighed) ∙ ap (λ (m : Weighed). m.entries) taken)
    (rest_weighed basis.grading left given unweighed weighed) c.columns.ensures.kept)

pub returns-in-Ok-false-clause-work : goal.returns-in-Ok-false-clause-work
returns-in-Ok-false-clause-work c =
    let basis = c.args.basis.now in
    let a = c.move_at-2.result.now in
    let b = c.in_ok-rest.rest in
    let left = c.take_off.new.self in
    let second : slice_get basis.moves c.args.j ≡ Some b = c.move_at.ensures.value ∙ ap Some (sym c.in_ok-rest.ensures) in
    let none : TakesOffInPlace b (pos 1) a.entries (Ok false) left = subst (λ (t : Bool). TakesOffInPlace b (pos 1) a.entries (Ok t) left) c.in-Ok-false.field-0-test c.in-Ok-false.ensures.taken in
    let columns = ap (λ (m : Weighed). length m.entries) c.in_ok-rest.ensures ∙ c.move_at.ensures.belongs.columns ∙ c.len.ensures.kept.columns in
    subst (λ work. WorkOf work basis) (sym c.new-in-Ok-false.ensures)
    (begun basis c.args.i c.args.j a b None c.requires.ordered c.move_at-2.ensures.value second (sym (none.1 ∙ ap zeros columns)) tt tt)

pub returns-in-Err-clause-refused : goal.returns-in-Err-clause-refused
returns-in-Err-clause-refused c =
    not_begun c.args.basis.now.moves c.args.i c.args.j c.move_at-2.result.now c.in_ok-rest.rest c.in-Err.at c.move_at-2.ensures.value (c.move_at.ensures.value ∙ ap Some (sym c.in_ok-rest.ensures)) c.in-Err.ensures.taken.1
