use Rattle.std.proofs.Common.{◌≡◌, map, take, neg_ℤ}
use Rattle.mk_move.proofs.moves.negated.Given as goal

abbrev pub invariant-loop-entry : goal.invariant-loop-entry
invariant-loop-entry l = l.entries.items ≡ map neg_ℤ (take l.entry-index l.row)
