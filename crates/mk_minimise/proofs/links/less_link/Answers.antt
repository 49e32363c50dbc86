use Rattle.std.proofs.Common.{◌≡◌, ℤ, Err, ap, sym, ◌∙◌, subst}
use Rattle.mk_move.proofs.Entries.{as_entry, entry_read}
use Rattle.mk_move.specs.Steps.{TakesOff}
use Rattle.mk_minimise.specs.LinkSteps.{times_at}
use Rattle.mk_minimise.proofs.LinkEnds.{times_is_entry, never_beyond, less_link_is}
use Rattle.mk_minimise.proofs.links.less_link.Goals as goal
use Rattle.mk_minimise.proofs.links.less_link.Goals.{After-subtract_times}

taken : (c : After-subtract_times) → TakesOff c.args.m.now.entries (times_at c.args.side) c.args.link.now.entries c.args.grading.now c.subtract_times.result
taken c =
    let read : as_entry c.times_of.result ≡ times_at c.args.side = ap (λ z. as_entry z) c.times_of.ensures ∙ entry_read (times_at c.args.side) (times_is_entry c.args.side) in
    subst (λ (z : ℤ). TakesOff c.args.m.now.entries z c.args.link.now.entries c.args.grading.now c.subtract_times.result) read c.subtract_times.ensures

pub unreachable-requires : goal.unreachable-requires
unreachable-requires c =
    let at = (goal.at.unreachable-requires c).After-subtract_times in
    let m = c.args.m.now.entries in
    let link = c.args.link.now.entries in
    never_beyond c.args.side m link c.in-Err-Overflow.field-0-0 c.columns.ensures.kept.entries c.columns-2.ensures.kept.entries (c.requires.link.columns ∙ sym c.requires.rest.columns) c.requires.at_end
    (subst (λ result. TakesOff m (times_at c.args.side) link c.args.grading.now result) (c.in-Err-Overflow.is ∙ ap Err c.in-Err-Overflow.field-0-is) (taken at))

pub returns-in-Ok : goal.returns-in-Ok
returns-in-Ok c =
    let at = (goal.at.returns-in-Ok c).After-subtract_times in
    let m = c.args.m.now in
    let link = c.args.link.now in
    less_link_is c.args.grading.now m link c.args.side c.in-Ok.left c.requires.rest c.requires.link
    (subst (λ result. TakesOff m.entries (times_at c.args.side) link.entries c.args.grading.now result) c.in-Ok.is (taken at))
