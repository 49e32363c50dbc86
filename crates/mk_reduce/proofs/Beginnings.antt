-- The work that begins at the difference of a pair, and why it doesn't.
use Rattle.std.proofs.Common.{◌≡◌, ℕ, ◌<◌, List, [], length, Option, Some, None, Ok, slice_get, ap, sym, ◌∙◌, arith, ℤ, pos, refl, subst, inl, IfSome}
use Rattle.std.proofs.lemmas.Option.{slice_get_within}
use Rattle.std.proofs.lemmas.List.Elements.{All-nil}
use Rattle.mk_model.specs.Vectors.{subtract, zeros}
use Rattle.mk_model.specs.CoreStates.{move_at, difference, pair_of, Pair}
use Rattle.mk_model.specs.Reductions.{Reduct}
use Rattle.mk_model.specs.Reductions.Reaches.{here}
use Rattle.mk_model.specs.Overflows.{IsFirstBeyond}
use Rattle.mk_model.proofs.VectorAlgebra.{scale-one}
use Rattle.mk_move.specs.Moves.{Weighed, IsMoveKept}
use Rattle.mk_move.specs.MoveLists.{BasisView, vectors_of}
use Rattle.mk_move.specs.Steps.{minus_times, TakesOff, IsOverflow}
use Rattle.mk_move.specs.declared.steps.OverflowAt.{OverflowAt}
use Rattle.mk_move.proofs.MoveVectors.{vector_at, length-vectors_of}
use Rattle.mk_reduce.specs.declared.stop.Stop.TheVariants.{Overflow}
use Rattle.mk_reduce.specs.declared.step.Step.{Step}
use Rattle.mk_reduce.specs.Works.{WorkOf, rest_of, IsRest}
use Rattle.mk_reduce.specs.Stops.{overflow_of, IsDifferenceRefused}

pub difference_at : (moves : List Weighed) (i j : ℕ) (a b : Weighed) → slice_get moves i ≡ Some a → slice_get moves j ≡ Some b → minus_times b.entries (pos 1) a.entries ≡ difference (vectors_of moves) (pair_of i j)
difference_at moves i j a b h k =
    ap (λ x. subtract b.entries x) (scale-one a.entries) ∙ sym (ap (λ x. subtract x (move_at (vectors_of moves) i)) (vector_at moves j b k) ∙ ap (λ x. subtract b.entries x) (vector_at moves i a h))

-- what is taken off, as the rest
pub rest_is : (x y w : List ℤ) (times : ℤ) (rest : Option Weighed) → length x ≡ length w → TakesOff x times y w (Ok rest) → rest_of (length w) rest ≡ minus_times x times y
rest_is x y w times None l h = sym (h ∙ ap zeros l)
rest_is x y w times (Some m) l h = h.entries

pub begun : (basis : BasisView) (i j : ℕ) (a b : Weighed) (rest : Option Weighed) → i < j → slice_get basis.moves i ≡ Some a → slice_get basis.moves j ≡ Some b →
    rest_of (length basis.grading) rest ≡ minus_times b.entries (pos 1) a.entries → IfSome rest (IsRest basis.grading) → IfSome rest IsMoveKept →
    WorkOf (record { pair = pair_of i j; front = 0; remainder = rest; trace = [] }) basis
begun basis i j a b rest l h k e graded kept =
    let at : rest_of (length basis.grading) rest ≡ difference (vectors_of basis.moves) (pair_of i j) = e ∙ difference_at basis.moves i j a b h k in
    record {
      pair = record { ordered = l; within = omega (arith, slice_get_within basis.moves j b k, length-vectors_of basis.moves) };
      front = omega arith;
      steps = at;
      reduct = subst (Reduct (vectors_of basis.moves) (difference (vectors_of basis.moves) (pair_of i j))) (sym at) here;
      rest = graded;
      kept = kept;
      places = inl (All-nil (λ (step : Step). step.place < 0));
    }

pub rest_graded : (x y w : List ℤ) (times : ℤ) (rest : Option Weighed) → length (minus_times x times y) ≡ length w → TakesOff x times y w (Ok rest) → IfSome rest (IsRest w)
rest_graded x y w times None l h = tt
rest_graded x y w times (Some m) l h = record { columns = ap length h.entries ∙ l; graded = h.graded }

-- the overflow of a difference has the numbers of a stop
pub first_beyond : (x y : List ℤ) (factor : ℤ) (at : OverflowAt) (pair : Pair) (operand : Option (List ℤ)) (by : Option ℕ) → IsOverflow x y factor at → IsFirstBeyond x y (overflow_of pair operand by at)
first_beyond x y factor at pair operand by f = record {
  left = f.left;
  right = f.right;
  beyond = rw (f.left, f.times, f.right) f.beyond;
  lesser = rw f.times f.lesser;
}

pub not_begun : (moves : List Weighed) (i j : ℕ) (a b : Weighed) (at : OverflowAt) → slice_get moves i ≡ Some a → slice_get moves j ≡ Some b → IsOverflow b.entries a.entries (pos 1) at → IsDifferenceRefused moves (pair_of i j) (Overflow None at)
not_begun moves i j a b at h k f =
    let beyond = first_beyond b.entries a.entries (pos 1) at (pair_of i j) None None f in
    let moved = subst (λ x. IsFirstBeyond x a.entries (overflow_of (pair_of i j) None None at)) (sym (vector_at moves j b k)) beyond in (
      refl,
      inl (
        refl,
        record {
          operand = refl;
          once = f.times;
          beyond = subst (λ y. IsFirstBeyond (move_at (vectors_of moves) j) y (overflow_of (pair_of i j) None None at)) (sym (vector_at moves i a h)) moved;
        },
      ),
    )
