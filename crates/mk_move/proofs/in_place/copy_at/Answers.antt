use Rattle.std.proofs.Common.{arith, pos}
use Rattle.mk_model.specs.Vectors.{entry}
use Rattle.mk_move.proofs.Entries.{entry_read}
use Rattle.mk_move.proofs.Copies.{same_but_fewer, same_at_last}
use Rattle.mk_move.proofs.in_place.copy_at.Goals as goal

pub loop-left-init : goal.loop-left-init
loop-left-init c = (c.ranges.bits.fits, c.requires.same)

pub loop-left-preserved : goal.loop-left-preserved
loop-left-preserved c =
    let bit = c.first_bit-column in
    let n = bit.result.0 in
    let y = c.args.right.now in
    let within = c.loop-left.invariant.1.within n bit.ensures.set in
    let columns = c.loop-left.invariant.1.columns in (
      omega (arith, c.loop-left.invariant.0, bit.ensures.fewer),
      same_but_fewer c.loop-left.row y c.loop-left.left bit.result.1 n c.loop-left.invariant.0 bit.ensures.fewer bit.ensures.set bit.ensures.cleared bit.ensures.others c.loop-left.invariant.1 _
          (entry_read (entry y n) (c.requires.right n (pos 0) (omega (arith, within, columns)))),
    )

pub returns : goal.returns
returns c = same_at_last c.loop-left.row c.args.right.now c.loop-left.left c.loop-left-test.false c.loop-left.invariant.1
