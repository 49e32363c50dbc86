use Rattle.std.proofs.Common.{arith, subst, All, List, ℤ}
use Rattle.mk_model.proofs.VectorAlgebra.{length-positive_part}
use Rattle.mk_move.specs.Masks.{IsAtMostOne}
use Rattle.mk_move.proofs.LeadMasks.{squarefree_lead}
use Rattle.mk_move.proofs.basis.has_exact_mask.Goals as goal

pub returns-then-columns-le64 : goal.returns-then-columns-le64
returns-then-columns-le64 c = λ t. record {
  few = omega (arith, length-positive_part c.args.m.now.entries, c.columns.ensures.value, c.if-columns-le64.true);
  squarefree = squarefree_lead c.args.m.now.entries (subst (λ (x : List ℤ). All IsAtMostOne x) c.entries.ensures.value (c.is_none_above_one.ensures t));
}
