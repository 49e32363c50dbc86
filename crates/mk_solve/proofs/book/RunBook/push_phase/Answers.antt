use Rattle.std.proofs.Common.{ap, length, sym, ◌+◌, ◌<◌, ◌^◌, subst, List}
use Rattle.mk_core.specs.declared.phase.Phase.{Phase}
use Rattle.mk_solve.specs.Books.{Book}
use Rattle.mk_solve.proofs.Sums.{kept_push}
use Rattle.mk_solve.proofs.book.RunBook.push_phase.Goals as goal

pub invariant_of-self-2 : goal.invariant_of-self-2
invariant_of-self-2 c =
    let items = ap (λ (b : Book). b.phases) c.self.view_is in
    kept_push c.self.inside.settled c.len-settled.result c.self.inside.phases.items c.push.new.self.items c.args.phase c.self.invariant c.in_ok-push.ensures.items c.len-settled.ensures.value
    (subst (λ (phases : List Phase). length phases + 1 < 2 ^ 32) (sym items) c.requires.few_phases)
