use Rattle.std.proofs.Common.{◌+◌, arith, ap, ◌∙◌}
use Rattle.mk_ledger.proofs.PairNumbers.{number_next_row}
use Rattle.mk_ledger.proofs.pairs.Frontier.advance.Goals as goal

pub returns-else-self : goal.returns-else-self
returns-else-self c = number_next_row c.self.inside.i c.self.inside.j c.self.invariant.ordered (omega arith)
    ∙ ap (λ n. n + 1) c.self.view_is
