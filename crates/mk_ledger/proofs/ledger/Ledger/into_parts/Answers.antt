use Rattle.mk_ledger.specs.LedgerFields.{ledger_of}
use Rattle.mk_ledger.proofs.FirstHalts.{first_within}
use Rattle.mk_ledger.proofs.ledger.Ledger.into_parts.Goals as goal

pub take_halt-first_halt-requires : goal.take_halt-first_halt-requires
take_halt-first_halt-requires c = first_within (ledger_of c.self.inside).state c.self.invariant.ledger.legal.first_halted
