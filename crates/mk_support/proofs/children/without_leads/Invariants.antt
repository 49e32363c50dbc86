use Rattle.std.proofs.Common.{◌≡◌, length, All}
use Rattle.mk_support.specs.FirstBits.{IsEmpty}
use Rattle.mk_support.proofs.children.without_leads.Given as goal

abbrev pub invariant-loop : goal.invariant-loop
invariant-loop l = (length l.nodes.items ≡ l.counter) × All IsEmpty l.nodes.items
