use Rattle.std.proofs.Common.{◌≡◌, List, ℤ, All, length, sym, subst}
use Rattle.mk_reduce.proofs.NextSteps.{lead_columns}
use Rattle.mk_saturate_rows.proofs.finders.assert_found.Goals as goal

pub find-requires : goal.find-requires
find-requires g c =
    let entries = c.args.m.now.entries in
    let columns : length entries ≡ length c.args.basis.now.grading = cc in
    subst (All (λ (x : List ℤ). length x ≡ length entries)) (sym c.requires) (lead_columns c.args.basis.now entries c.len.ensures.kept columns)
