use Rattle.mk_move.proofs.Chains.{DividesLcmUpTo}
use Rattle.mk_move.proofs.chain.divides_lcm.Given as goal

abbrev pub invariant-loop-column : goal.invariant-loop-column
invariant-loop-column l = DividesLcmUpTo l.lead l.a l.b l.column
