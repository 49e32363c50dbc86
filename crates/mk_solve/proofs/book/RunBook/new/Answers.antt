use Rattle.std.proofs.Common.{ap, sym, List, length, arith}
use Rattle.mk_core.specs.declared.phase.Phase.{Phase}
use Rattle.mk_model.specs.Books.{settled_in}
use Rattle.mk_solve.specs.Books.{settled_of}
use Rattle.mk_solve.proofs.book.RunBook.new.Goals as goal

pub invariant_of-result : goal.invariant_of-result
unfolding settled_in
invariant_of-result c =
    let none = ap (λ (phases : List Phase). length phases) c.new.ensures.items in
    record { sum = sym (ap settled_of c.new.ensures.items); few = omega (arith, none) }
