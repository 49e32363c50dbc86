use Rattle.std.proofs.Common.{◌≡◌, length, sym, subst, All, List, ℤ}
use Rattle.mk_model.specs.Reductions.{Divides}
use Rattle.mk_move.specs.Sides.{part_of}
use Rattle.mk_reduce.proofs.NextSteps.{lead_columns, normal_on}
use Rattle.mk_reduce.proofs.reduction.next_step.Goals as goal

pub find-requires : goal.find-requires
find-requires g c =
    subst (All (λ (x : List ℤ). length x ≡ length c.args.rest.now.entries)) (sym c.requires.leads) (lead_columns c.args.basis.now c.args.rest.now.entries c.requires.basis c.requires.columns)

pub find-requires-2 : goal.find-requires-2
find-requires-2 g c =
    subst (All (λ (x : List ℤ). length x ≡ length c.args.rest.now.entries)) (sym c.requires.leads) (lead_columns c.args.basis.now c.args.rest.now.entries c.requires.basis c.requires.columns)

pub returns-in_err-place-clause-none : goal.returns-in_err-place-clause-none
returns-in_err-place-clause-none g c =
    let first = subst (All (λ (x : List ℤ). ¬ (Divides x (part_of c.likely_sides-first.result.0 c.args.rest.now.entries)))) c.requires.leads c.in_default.ensures.none in
    let second = subst (All (λ (x : List ℤ). ¬ (Divides x (part_of c.likely_sides-first.result.1 c.args.rest.now.entries)))) c.requires.leads c.in_err-place.ensures.none in
    rw c.from_residual.ensures (normal_on c.args.basis.now.moves c.args.rest.now c.likely_sides-first.result.0 c.likely_sides-first.result.1 c.columns.ensures.kept c.likely_sides-first.ensures first second)
