use Rattle.std.proofs.Common.{◌+◌, ◌-◌, ◌/◌, length, ap}
use Rattle.mk_ledger.specs.PairFlags.{pairs_of}
use Rattle.mk_ledger.proofs.Words.{fresh, flags_fresh}
use Rattle.mk_ledger.proofs.bits.SettledBits.of_moves.Goals as goal

pub invariant_of-result : goal.invariant_of-result
invariant_of-result c =
    let filled = rw c.pairs_of.ensures.value at c.in_ok-fit.ensures.ok in
    fresh c.new-words.result.items c.fit.new.words.items c.args.moves c.requires c.new-words.ensures.items filled

pub returns : goal.returns
returns c =
    let old = c.new-words.result.items in
    let filled = rw c.pairs_of.ensures.value at c.in_ok-fit.ensures.ok in
    let flags = flags_fresh old c.fit.new.words.items ((pairs_of c.args.moves + 63) / 64 - length old)
    (pairs_of c.args.moves) c.new-words.ensures.items filled in
    ap (λ fs. record { moves = c.args.moves; flags = fs }) flags
