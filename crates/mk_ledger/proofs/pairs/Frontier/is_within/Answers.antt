use Rattle.std.proofs.Common.{◌<◌, arith, subst, sym}
use Rattle.std.proofs.lemmas.Bool.Decides.{nat_tests}
use Rattle.mk_ledger.specs.PairFlags.{pairs_of}
use Rattle.mk_ledger.proofs.PairNumbers.{number_below, within_by_number}
use Rattle.mk_ledger.proofs.pairs.Frontier.is_within.Goals as goal

pub returns : goal.returns
returns c =
    let i = c.self.inside.i in
    let j = c.self.inside.j in (
      λ t. let l : j < c.args.moves = grind (arith, nat_tests) in
          subst (λ n. n < pairs_of c.args.moves) c.self.view_is (number_below i j c.args.moves c.self.invariant.ordered l),
      λ h. let l : j < c.args.moves =
          within_by_number i j c.args.moves c.self.invariant.ordered (subst (λ n. n < pairs_of c.args.moves) (sym c.self.view_is) h) in
          grind (arith, nat_tests),
    )
