use Rattle.std.proofs.Common.{length, arith, refl, sym}
use Rattle.mk_move.proofs.MaskOrders.{parts_below}
use Rattle.mk_move.proofs.orders.compare_parts.Goals as goal

pub returns-then-left-right : goal.returns-then-left-right
returns-then-left-right c =
    parts_below c.args.side c.args.a.now.entries c.args.b.now.entries (length c.args.a.now.entries) c.mask-left.result c.mask-right.result refl (sym c.requires) (omega arith) (omega arith) c.mask-left.ensures c.mask-right.ensures c.if-left-right.true

pub returns-then-left-right-2 : goal.returns-then-left-right-2
returns-then-left-right-2 c =
    parts_below c.args.side c.args.b.now.entries c.args.a.now.entries (length c.args.a.now.entries) c.mask-right.result c.mask-left.result (sym c.requires) refl (omega arith) (omega arith) c.mask-right.ensures c.mask-left.ensures c.if-left-right-2.true
