use Rattle.std.proofs.Common.{arith}
use Rattle.mk_ledger.proofs.PairNumbers.{number_of_less}
use Rattle.mk_ledger.proofs.pairs.Frontier.end_beside.Goals as goal

pub returns-then-j-self-clause-second : goal.returns-then-j-self-clause-second
returns-then-j-self-clause-second c k l h =
    omega (arith, c.self.view_is, number_of_less c.self.inside.i c.self.inside.j c.args.j k c.self.invariant.ordered (omega (arith, l)))

pub returns-then-j-self-2-clause-second : goal.returns-then-j-self-2-clause-second
returns-then-j-self-2-clause-second c k l h =
    omega (
      arith,
      c.self.view_is,
      number_of_less c.self.inside.i c.self.inside.j c.args.j k c.self.invariant.ordered
          (omega (arith, h, c.if-j-self.false)),
    )

pub returns-else-j-self-2-clause-first : goal.returns-else-j-self-2-clause-first
returns-else-j-self-2-clause-first c k l h =
    omega (
      arith,
      c.self.view_is,
      number_of_less c.self.inside.i c.self.inside.j k c.args.j c.self.invariant.ordered
          (omega (arith, c.if-j-self.false, c.if-j-self-2.false)),
    )

pub returns-else-j-self-2-clause-second : goal.returns-else-j-self-2-clause-second
returns-else-j-self-2-clause-second c k l h =
    omega (
      arith,
      c.self.view_is,
      number_of_less c.self.inside.i c.self.inside.j c.args.j k c.self.invariant.ordered
          (omega (arith, h, c.if-j-self.false)),
    )
