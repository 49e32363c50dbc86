use Rattle.std.proofs.Common.{ℕ, ◌≤◌, ◌<◌, ◌-◌, All, length}
use Rattle.mk_model.specs.Bases.{IsUpTo}
use Rattle.mk_move.specs.MoveLists.{BelongsTo, vectors_of}
use Rattle.mk_minimise.specs.Stages.{weight_at, IsFront, AreChosen}
use Rattle.mk_minimise.proofs.minimal.chosen_of.Given as goal

abbrev pub invariant-loop-alloc : goal.invariant-loop-alloc
invariant-loop-alloc g l = record {
  front : IsFront l.basis l.lower;
  light : (k : ℕ) → k < length l.lower.moves → IsUpTo l.upto (weight_at l.basis k);
  chosen : AreChosen (length l.basis.grading) l.basis.grading (vectors_of l.basis.moves) (length l.lower.moves) (vectors_of l.chosen.items);
  belongs : All (BelongsTo l.basis.priority l.basis.grading) l.chosen.items;
  few : length l.chosen.items ≤ length l.lower.moves;
}

abbrev pub decreases-loop-alloc : goal.decreases-loop-alloc
decreases-loop-alloc g l = length l.basis.moves - length l.lower.moves
