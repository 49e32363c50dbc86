use Rattle.std.proofs.Common.{◌≡◌, ◌<◌, ◌∙◌, arith, sym, ap, length, get_or, List, ℕ, ◌∷◌, ◌++◌, []}
use Rattle.std.specs.Int.{bit_at}
use Rattle.std.proofs.lemmas.List.{get_or_default}
use Rattle.mk_support.proofs.Blocks.{share_same, share_more}
use Rattle.mk_support.proofs.block.Block.share.Goals as goal
use Rattle.mk_support.proofs.block.Block.share.Goals.{then-bit_of-wanted+in_ok-push, else-bit_of-wanted}

-- src/block.rt:94:9
pub loop-index-preserved : goal.loop-index-preserved
loop-index-preserved c =
    let n = c.loop-index.index in
    let masks = c.args.self.now.masks.items in
    let places = c.args.self.now.places.items in
    let share = c.loop-index.share in
    let bit_is : c.bit_of.result ≡ bit_at (get_or masks n 0) c.args.bit = c.bit_of.ensures ∙ ap (λ (x : List ℕ). bit_at (get_or x n 0) c.args.bit) c.deref-mask-items.ensures.value in
    elim c.if-bit_of-wanted.branch [
      | then-bit_of-wanted+in_ok-push w ↦
          let within : n < length masks = omega (arith, ap length c.deref-mask-items.ensures.value) in
          let place_is = w.index.ensures ∙ get_or_default places n w.index.result.now 0 (omega (arith, within, c.args.self.now.paired)) in
          let masks_are = w.in_ok-push.ensures.masks ∙ ap (λ (x : List ℕ). share.masks.items ++ get_or x n 0 ∷ []) c.deref-mask-items.ensures.value in
          let places_are = w.in_ok-push.ensures.places ∙ ap (λ (p : ℕ). share.places.items ++ p ∷ []) place_is in
          rw (w.share-is, masks_are, places_are)
          (share_more masks places c.args.bit c.args.wanted n share.masks.items share.places.items within share.paired (sym bit_is ∙ w.if-bit_of-wanted.true) c.loop-index.invariant)
      | else-bit_of-wanted w ↦
          rw w.share-is
          (share_same masks places c.args.bit c.args.wanted n share.masks.items share.places.items (λ e. w.if-bit_of-wanted.false (bit_is ∙ e)) c.loop-index.invariant)
    ]
