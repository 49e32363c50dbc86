use Rattle.std.proofs.Common.{subst, sym, ap, ◌∙◌, ◌∷◌, List, Bool, false, set, length}
use Rattle.mk_move.specs.Priorities.{others}
use Rattle.mk_saturate.specs.Saturations.{SaturationView, IsSaturation, IsLeastLeft}
use Rattle.mk_saturate.proofs.Completions.{written_back, column_taken, leaves}
use Rattle.mk_saturate.proofs.saturation.Saturation.accept.Goals as goal

pub invariant_of-self : goal.invariant_of-self
invariant_of-self c =
    let (column, least, phase) = c.requires in
    let s = subst (λ (s : SaturationView). IsSaturation s) c.self.view_is c.self.invariant in
    let items = ap (λ (s : SaturationView). s.left) c.self.view_is in
    let same = c.deref_mut.ensures.value ∙ items in
    let written = c.saturate_least.ensures column (subst (λ (l : List Bool). IsLeastLeft l column) (sym same) least) ∙ ap (λ (l : List Bool). set l column false) same in
    let left = written_back c.self.inside.left.items c.saturate_least.new.left c.args.self.now.left column c.self.inside.left.len (sym c.deref_mut.ensures.len ∙ ap length c.deref_mut.ensures.value) items written in
    column_taken c.args.self.now column (others column (length c.args.self.now.basis.grading)) c.args.completed.now c.in_ok-kept.kept _ s phase c.in_ok-kept.ensures left

pub returns-clause-basis : goal.returns-clause-basis
returns-clause-basis c =
    let (column, least, phase) = c.requires in
    let s = subst (λ (s : SaturationView). IsSaturation s) c.self.view_is c.self.invariant in
    leaves c.args.self.now.basis (column ∷ others column (length c.args.self.now.basis.grading)) c.args.completed.now c.in_ok-kept.kept s.kept phase c.in_ok-kept.ensures

pub returns-clause-left : goal.returns-clause-left
returns-clause-left c =
    let (column, least, phase) = c.requires in
    let items = ap (λ (s : SaturationView). s.left) c.self.view_is in
    let same = c.deref_mut.ensures.value ∙ items in
    let written = c.saturate_least.ensures column (subst (λ (l : List Bool). IsLeastLeft l column) (sym same) least) ∙ ap (λ (l : List Bool). set l column false) same in
    (column, least, written_back c.self.inside.left.items c.saturate_least.new.left c.args.self.now.left column c.self.inside.left.len (sym c.deref_mut.ensures.len ∙ ap length c.deref_mut.ensures.value) items written)
