use Rattle.std.proofs.Common.{rules}
use Rattle.std.proofs.lemmas.Fn.{always_returns_same}
use Rattle.std.proofs.lemmas.Result.{on_ok_weaker}
use Rattle.mk_inter.proofs.MovesSorted.{is_earlier, earlier_ranks, answers_less, none_earlier}
use Rattle.mk_inter.proofs.sorting.sort_moves.Goals as goal

pub returns-clause-sorted : goal.returns-clause-sorted
returns-clause-sorted c =
    on_ok_weaker c.sort_by.result (λ sorted. none_earlier c.sort_by.new.self.items (sorted is_earlier earlier_ranks
    (always_returns_same _ _ _ (λ a r f' k. (answers_less a.0.now a.1.0.now r (search rules), search rules))))) c.sort_by.ensures.sorted
