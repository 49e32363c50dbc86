use Rattle.std.proofs.Common.{arith, sym, subst}
use Rattle.std.proofs.lemmas.List.{length-map}
use Rattle.mk_model.specs.CoreStates.{pair_of}
use Rattle.mk_move.specs.MoveLists.{vectors_of}
use Rattle.mk_core.specs.Remainders.{IsWorkFault}
use Rattle.mk_core.proofs.Remainders.{fault_is}
use Rattle.mk_core.proofs.work.work_on.Goals as goal

pub remainder_in-requires : goal.remainder_in-requires
remainder_in-requires c = record {
  leads = c.requires.leads;
  ordered = c.requires.pair.ordered;
  within = omega (arith, c.requires.pair.within, length-map c.args.basis.now.moves (λ m. m.entries));
}

pub returns-in-Err : goal.returns-in-Err
returns-in-Err c =
    let moves = c.args.basis.now.moves in
    let pair = pair_of c.args.i c.args.j in
    subst (IsWorkFault (vectors_of moves) pair) (sym c.work_fault.ensures) (fault_is (vectors_of moves) pair c.in-Err.fault c.in-Err.ensures)
