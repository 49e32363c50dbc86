use Rattle.std.proofs.Common.{◌≡◌, None, length, arith, ap}
use Rattle.mk_drive.proofs.Lines.{match_none, match_not_none, is_zero_claim, zero_line, is_stale}
use Rattle.mk_drive.proofs.seat.settle_work.Goals as goal
use Rattle.mk_drive.proofs.seat.settle_work.Goals.{Then-is_none}

-- nothing is left
nothing_left : (c : Then-is_none) → c.args.work.remainder ≡ None
nothing_left c = match_none c.remainder.result _ _ c.remainder.ensures c.if-is_none.ensures

pub settle_zero-requires : goal.settle_zero-requires
settle_zero-requires c =
    is_zero_claim c.args.ledger.now c.basis.ensures.kept c.args.worker c.args.work c.requires (nothing_left (goal.at.settle_zero-requires c).Then-is_none)

pub returns-then-is_none : goal.returns-then-is_none
returns-then-is_none c =
    let settled = c.in_ok-settle_zero.ensures in
    zero_line c.args.ledger.now c.basis.ensures.kept c.args.worker c.args.work c.requires (nothing_left (goal.at.returns-then-is_none c).Then-is_none) c.settle_zero.new.self settled.ok settled.basis

pub returns-then-front-length : goal.returns-then-front-length
returns-then-front-length c =
    let ledger = c.args.ledger.now in
    is_stale ledger c.basis.ensures.kept c.args.worker c.args.work c.requires
    (match_not_none c.args.work.remainder (λ m. m.now) c.remainder.result c.remainder.ensures c.if-is_none.ensures)
    (omega (arith, c.if-front-length.true, c.front.ensures, c.len-length.ensures.value, ap (λ b. length b.moves) c.basis.ensures.value))
