use Rattle.mk_support.specs.HeldLeads.{ListsFrom}
use Rattle.mk_support.proofs.held.entries_from.Given as goal

abbrev pub invariant-loop-column : goal.invariant-loop-column
invariant-loop-column l = ListsFrom l.row l.least l.column l.listed.items
