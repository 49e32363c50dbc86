use Rattle.std.proofs.Common.{◌∙◌, sym}
use Rattle.mk_support.proofs.Blocks.{with_this, without_this}
use Rattle.mk_support.proofs.block.Block.share_with.Goals as goal
use Rattle.mk_support.proofs.block.Block.share_with.Goals.{then-bit_of-wanted+in_ok-push, else-bit_of-wanted}

-- src/block.rt:106:5
pub returns : goal.returns
returns c =
    elim c.if-bit_of-wanted.branch [
      | then-bit_of-wanted+in_ok-push w ↦
          rw w.share-is
          (with_this c.args.self.now c.args.bit c.args.wanted c.args.mask c.args.place c.in_ok-share.share w.push.new.self (sym c.bit_of.ensures ∙ w.if-bit_of-wanted.true) w.in_ok-push.ensures.masks w.in_ok-push.ensures.places c.in_ok-share.ensures)
      | else-bit_of-wanted w ↦
          rw w.share-is
          (without_this c.args.self.now c.args.bit c.args.wanted c.args.mask c.args.place c.in_ok-share.share (λ e. w.if-bit_of-wanted.false (c.bit_of.ensures ∙ e)) c.in_ok-share.ensures)
    ]
