use Rattle.std.proofs.Common.{inl, inr, ◌+◌, suc, length, refl, arith}
use Rattle.mk_model.specs.Tableaux.{tableau_row}
use Rattle.mk_model.proofs.ExactPivots.{divided}
use Rattle.mk_model.proofs.TableauShapes.{RowOf, RowOrCosts, kept}
use Rattle.mk_model.proofs.tableau_laws.pivots_divide_exactly.Goals as goal

pub returns-clause-positive : goal.returns-clause-positive
returns-clause-positive c n made sides rows t a p = (kept n sides rows a made t p).positive

pub returns-clause-rows : goal.returns-clause-rows
returns-clause-rows _ n made sides rows t column place i c a p entering leaving within last =
    let k = kept n sides rows a made t p in
    let b = entering.within in
    divided (n + suc (length rows)) t.denominator (RowOf t) k.exact_rows (tableau_row t place) (tableau_row t i) column c
    (place, leaving.within, refl) (i, within, refl) (omega arith) last

pub returns-clause-costs : goal.returns-clause-costs
returns-clause-costs _ n made sides rows t column place c a p entering leaving last =
    let k = kept n sides rows a made t p in
    let b = entering.within in
    divided (n + length rows) t.denominator (RowOrCosts t) k.exact_costs (tableau_row t place) t.costs column c
    (inl (place, leaving.within, refl)) (inr refl) (omega arith) last
