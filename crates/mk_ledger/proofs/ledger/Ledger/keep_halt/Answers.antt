use Rattle.std.proofs.Common.{arith}
use Rattle.mk_ledger.specs.Halts.{halt_as}
use Rattle.mk_ledger.proofs.HaltedFields.{halt_fits, halt_keeps, halt_happens}
use Rattle.mk_ledger.proofs.ledger.Ledger.keep_halt.Goals as goal

pub overflow_add-self : goal.overflow_add-self
overflow_add-self c =
    let fits = halt_fits c.self.inside c.self.invariant c.args.self.now c.self.view_is c.args.worker
    (halt_as c.args.halt) c.requires.worker c.requires.no_halt c.requires.cause c.index.result.now c.is_some.result c.from.result
    c.index.ensures c.is_some.ensures c.from.ensures in
    omega (arith, fits)

pub invariant_of-self : goal.invariant_of-self
invariant_of-self c =
    halt_keeps c.self.inside c.self.invariant c.args.self.now c.self.view_is c.args.worker
    (halt_as c.args.halt) c.requires.worker c.requires.no_halt c.requires.cause c.index.result.now c.is_some.result c.from.result
    c.index.ensures c.is_some.ensures c.from.ensures
    c.or-self-inside.result c.or-self-inside.ensures

pub returns-clause-halting : goal.returns-clause-halting
returns-clause-halting c =
    halt_happens c.self.inside c.self.invariant c.args.self.now c.self.view_is c.args.worker
    (halt_as c.args.halt) c.requires.worker c.requires.no_halt c.requires.cause c.index.result.now c.is_some.result c.from.result
    c.index.ensures c.is_some.ensures c.from.ensures
    c.or-self-inside.result c.or-self-inside.ensures

pub returns-clause-kept : goal.returns-clause-kept
returns-clause-kept c =
    (halt_keeps c.self.inside c.self.invariant c.args.self.now c.self.view_is c.args.worker
    (halt_as c.args.halt) c.requires.worker c.requires.no_halt c.requires.cause c.index.result.now c.is_some.result c.from.result
    c.index.ensures c.is_some.ensures c.from.ensures
    c.or-self-inside.result c.or-self-inside.ensures).ledger
