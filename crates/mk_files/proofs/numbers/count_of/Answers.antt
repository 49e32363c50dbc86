use Rattle.std.proofs.Common.{arith}
use Rattle.mk_files.proofs.DigitsRead.{CountAbove-held}
use Rattle.mk_files.proofs.numbers.count_of.Goals as goal

pub returns-else-count-from-clause-out_of_range : goal.returns-else-count-from-clause-out_of_range
returns-else-count-from-clause-out_of_range c =
    λ _. CountAbove-held c.args.token.now c.without_plus_sign.result.now c.args.most c.in-Some.count _ c.without_plus_sign.ensures c.in-Some.ensures.found.0 c.in-Some.ensures.found.1 (omega arith)
