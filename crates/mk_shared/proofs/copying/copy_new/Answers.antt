use Rattle.std.proofs.Common.{◌≡◌, ◌+◌, ◌∷◌, [], length, slice_get, Some, ap, sym, ◌∙◌, subst, length-append}
use Rattle.mk_move.specs.MoveLists.{BasisView}
use Rattle.mk_core.specs.GrownBases.{IsLonger}
use Rattle.mk_ledger.specs.Settlings.{with_placed}
use Rattle.mk_shared.proofs.GrownCopies.{next_copied, grown_copy}
use Rattle.mk_shared.proofs.copying.copy_new.Goals as goal

pub loop-k-preserved : goal.loop-k-preserved
loop-k-preserved c =
    let copy = c.loop-k.copy in
    let basis = c.args.basis.now in
    let m = c.in_ok-new.new in
    let h = c.loop-k.invariant in
    let at : slice_get basis.moves (length copy.moves) ≡ Some m = ap (slice_get basis.moves) h.count ∙ c.move_at.ensures.value
    ∙ ap Some (sym c.in_ok-new.ensures) in
    let pushed : c.push.new.self ≡ with_placed copy m = c.in_ok-push.ensures.ok in
    record {
      more = subst (IsLonger c.args.copy.now) (sym pushed) (grown_copy c.args.copy.now copy m h.more);
      part = subst (λ (b : BasisView). IsLonger b basis) (sym pushed) (next_copied copy basis h.part m at);
      count = ap (λ (b : BasisView). length b.moves) pushed ∙ length-append copy.moves (m ∷ []) ∙ ap (λ k. k + 1) h.count;
    }
