use Rattle.std.proofs.Common.{◌<◌, get_or, false, arith, ap, ◌∙◌}
use Rattle.mk_ledger.specs.PairFlags.{PairFlags, pair_number}
use Rattle.mk_ledger.proofs.Words.{word_within, flag_read}
use Rattle.mk_ledger.proofs.bits.SettledBits.is_settled.Goals as goal

pub index-word-requires : goal.index-word-requires
index-word-requires c =
    let within : c.args.j < c.self.inside.moves = omega (arith, c.requires.within, ap (λ (p : PairFlags). p.moves) c.self.view_is) in
    let l = word_within c.self.inside.words.items c.self.inside.moves c.args.i c.args.j c.self.invariant c.requires.ordered within in
    rw c.pair_number-number.ensures (omega (arith, l))

pub returns : goal.returns
returns c =
    let within : c.args.j < c.self.inside.moves = omega (arith, c.requires.within, ap (λ (p : PairFlags). p.moves) c.self.view_is) in
    let read = rw c.pair_number-number.ensures at c.index-word.ensures in
    rw c.pair_number-number.ensures
    (flag_read c.self.inside.words.items c.self.inside.moves c.args.i c.args.j c.index-word.result.now c.self.invariant c.requires.ordered
    within read
    ∙ ap (λ (p : PairFlags). get_or p.flags (pair_number c.args.i c.args.j) false) c.self.view_is)
