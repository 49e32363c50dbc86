use Rattle.std.proofs.Common.{ap, sym, ◌∙◌, subst}
use Rattle.mk_model.specs.CoreStates.{pair_of, move_at}
use Rattle.mk_model.specs.Orders.{lead}
use Rattle.mk_model.specs.Pairs.{AreDisjoint}
use Rattle.mk_move.specs.MoveLists.{BasisView, vectors_of}
use Rattle.mk_core.proofs.skipping.skip_pair.Goals as goal

pub settle_coprime-requires : goal.settle_coprime-requires
settle_coprime-requires c = record {
  pair = pair_of c.args.i c.args.j;
  claimed = c.requires.claimed;
  disjoint = subst (λ moves. AreDisjoint (lead (move_at moves c.args.i)) (lead (move_at moves c.args.j)))
      (ap (λ (b : BasisView). vectors_of b.moves) c.basis.ensures.value ∙ sym c.basis.ensures.kept.moves)
      (c.have_coprime_leads.ensures.0 c.if-have_coprime_leads.true);
}
