use Rattle.std.proofs.Common.{◌≡◌, length}
use Rattle.mk_core.specs.Neighbours.{AreDivisorsBetween}
use Rattle.mk_core.proofs.third_moves.ThirdMoves.note_divisors.Given as goal

abbrev pub invariant-loop-place : goal.invariant-loop-place
invariant-loop-place l = record {
  count : length l.self.divisors.items ≡ l.place;
  divisors : AreDivisorsBetween l.masks (length l.fn.self.divisors.items) l.place l.self.divisors.items;
}
