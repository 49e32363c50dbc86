use Rattle.std.proofs.Common.{◌<◌, set, true, arith, ap, sym, ◌∙◌, subst}
use Rattle.mk_ledger.specs.PairFlags.{PairFlags, AreWords, pair_number, pairs_of, flags_of}
use Rattle.mk_ledger.proofs.PairNumbers.{number_below}
use Rattle.mk_ledger.proofs.Words.{word_within, words_written, marked, flags_set}
use Rattle.mk_ledger.proofs.bits.SettledBits.mark.Goals as goal

pub index_mut-requires : goal.index_mut-requires
index_mut-requires c =
    let within : c.args.j < c.self.inside.moves = omega (arith, c.requires.within, ap (λ (p : PairFlags). p.moves) c.self.view_is) in
    let l = word_within c.self.inside.words.items c.self.inside.moves c.args.i c.args.j c.self.invariant c.requires.ordered within in
    rw c.pair_number-number.ensures (omega (arith, l))

pub invariant_of-self : goal.invariant_of-self
invariant_of-self c =
    let within : c.args.j < c.self.inside.moves = omega (arith, c.requires.within, ap (λ (p : PairFlags). p.moves) c.self.view_is) in
    let read = rw c.pair_number-number.ensures at c.index_mut.ensures.value in
    let written = words_written c.self.inside.words.items c.self.inside.moves c.args.i c.args.j c.index_mut.result.now c.self.invariant
    c.requires.ordered within read in
    rw c.pair_number-number.ensures
    (subst (λ ws. AreWords ws c.self.inside.moves) (sym written)
    (marked c.self.inside.words.items c.self.inside.moves c.args.i c.args.j c.self.invariant c.requires.ordered within))

pub returns : goal.returns
returns c =
    let words = c.self.inside.words.items in
    let moves = c.self.inside.moves in
    let number = pair_number c.args.i c.args.j in
    let within : c.args.j < moves = omega (arith, c.requires.within, ap (λ (p : PairFlags). p.moves) c.self.view_is) in
    let read = rw c.pair_number-number.ensures at c.index_mut.ensures.value in
    let written = words_written words moves c.args.i c.args.j c.index_mut.result.now c.self.invariant c.requires.ordered within read in
    let flags = flags_set words (pairs_of moves) number (number_below c.args.i c.args.j moves c.requires.ordered within)
    (word_within words moves c.args.i c.args.j c.self.invariant c.requires.ordered within) in
    rw c.pair_number-number.ensures
    (ap (λ ws. record { moves = moves; flags = flags_of ws (pairs_of moves) }) written
    ∙ ap (λ fs. record { moves = moves; flags = fs }) flags
    ∙ ap (λ (p : PairFlags). record { moves = p.moves; flags = set p.flags number true }) c.self.view_is)
