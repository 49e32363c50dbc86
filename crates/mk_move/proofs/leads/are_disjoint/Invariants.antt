use Rattle.mk_move.proofs.Divisions.{DisjointUpTo}
use Rattle.mk_move.proofs.leads.are_disjoint.Given as goal

abbrev pub invariant-loop-column : goal.invariant-loop-column
invariant-loop-column l = DisjointUpTo l.a l.b l.column
