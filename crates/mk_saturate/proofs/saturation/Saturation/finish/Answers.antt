use Rattle.std.proofs.Common.{subst, sym}
use Rattle.mk_model.specs.Orders.{standard}
use Rattle.std.proofs.Common.{length}
use Rattle.mk_move.specs.MoveLists.{BasisView}
use Rattle.mk_saturate.specs.Saturations.{SaturationView, IsSaturation, IsDropped}
use Rattle.mk_saturate.proofs.Completions.{leaves, saturated}
use Rattle.mk_saturate.proofs.saturation.Saturation.finish.Goals as goal

pub new-requires : goal.new-requires
new-requires c =
    let s = subst (λ (s : SaturationView). IsSaturation s) c.self.view_is c.self.invariant in
    saturated c.args.self.now c.args.completed.now c.in_ok-kept.kept s c.requires.none_left c.requires.last c.in_ok-kept.ensures

pub returns : goal.returns
returns c =
    let s = subst (λ (s : SaturationView). IsSaturation s) c.self.view_is c.self.invariant in
    let basis = c.args.self.now.basis in
    subst (λ (after : BasisView). IsDropped basis c.args.completed.now after) (sym c.new.ensures)
    (leaves basis (standard (length basis.grading)) c.args.completed.now c.in_ok-kept.kept s.kept c.requires.last c.in_ok-kept.ensures)
