use Rattle.std.proofs.Common.{◌≡◌, ℕ, ◌-◌, ◌<◌, ◌≤◌, false, take, get_or, arith, ap, ◌∙◌, sym, subst}
use Rattle.mk_ledger.specs.PairFlags.{PairFlags, pairs_of, flags_of}
use Rattle.mk_ledger.proofs.Words.{shrunk, flags_shrunk}
use Rattle.mk_ledger.proofs.bits.SettledBits.shrink.Goals as goal

pub invariant_of-self : goal.invariant_of-self
invariant_of-self c =
    let words = c.self.inside.words.items in
    let moves = c.self.inside.moves in
    let some : 0 < moves = omega (arith, c.requires.some, ap (λ (p : PairFlags). p.moves) c.self.view_is) in
    let clear : (k : ℕ) → pairs_of (moves - 1) ≤ k → get_or (flags_of words (pairs_of moves)) k false ≡ false =
    subst (λ (p : PairFlags). (k : ℕ) → pairs_of (p.moves - 1) ≤ k →
    get_or p.flags k false ≡ false) (sym c.self.view_is) c.requires.clear in
    shrunk words moves c.self.invariant some clear

pub returns : goal.returns
returns c =
    let words = c.self.inside.words.items in
    let moves = c.self.inside.moves in
    let some : 0 < moves = omega (arith, c.requires.some, ap (λ (p : PairFlags). p.moves) c.self.view_is) in
    let clear : (k : ℕ) → pairs_of (moves - 1) ≤ k → get_or (flags_of words (pairs_of moves)) k false ≡ false =
    subst (λ (p : PairFlags). (k : ℕ) → pairs_of (p.moves - 1) ≤ k →
    get_or p.flags k false ≡ false) (sym c.self.view_is) c.requires.clear in
    ap (λ fs. record { moves = moves - 1; flags = fs }) (flags_shrunk words moves c.self.invariant some clear)
    ∙ ap (λ (p : PairFlags). record { moves = p.moves - 1; flags = take (pairs_of (p.moves - 1)) p.flags }) c.self.view_is
