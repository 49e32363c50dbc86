use Rattle.std.proofs.Common.{◌+◌, ◌-◌, ◌/◌, ◌++◌, length, replicate, false, arith, ap, ◌∙◌}
use Rattle.mk_ledger.specs.PairFlags.{PairFlags, pairs_of}
use Rattle.mk_ledger.proofs.Words.{grown, flags_grown, filled_room}
use Rattle.mk_ledger.proofs.bits.SettledBits.grow.Goals as goal

pub invariant_of-self-2 : goal.invariant_of-self-2
invariant_of-self-2 c =
    let old = c.self.inside.words.items in
    let moves = c.self.inside.moves in
    let filled = rw c.pairs_of.ensures.value at c.in_ok-fit.ensures.ok in
    grown old c.fit.new.words.items moves ((pairs_of (moves + 1) + 63) / 64 - length old) c.self.invariant
    (omega (arith, c.requires, ap (λ (p : PairFlags). p.moves) c.self.view_is)) filled
    (filled_room old c.fit.new.words.items (pairs_of (moves + 1)) filled)

pub returns-clause-ok : goal.returns-clause-ok
returns-clause-ok c =
    let old = c.self.inside.words.items in
    let moves = c.self.inside.moves in
    let filled = rw c.pairs_of.ensures.value at c.in_ok-fit.ensures.ok in
    let flags = flags_grown old c.fit.new.words.items moves ((pairs_of (moves + 1) + 63) / 64 - length old) c.self.invariant filled in
    ap (λ fs. record { moves = moves + 1; flags = fs }) flags
    ∙ ap (λ (p : PairFlags). record { moves = p.moves + 1; flags = p.flags ++ replicate p.moves false }) c.self.view_is
