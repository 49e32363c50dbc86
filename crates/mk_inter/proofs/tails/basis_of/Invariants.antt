use Rattle.mk_inter.proofs.MovesMoved.{IsMadeOf}
use Rattle.mk_inter.proofs.tails.basis_of.Given as goal

abbrev pub invariant-loop-m : goal.invariant-loop-m
invariant-loop-m l = IsMadeOf l.basis l.yielded l.made
