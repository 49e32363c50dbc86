-- What is done with one tail, and the order of the moves. (Sturmfels, chapter 1: reduction of tails)
use Rattle.std.specs.Prelude.{◌≡◌, ◌⊎◌, ℕ, ◌<◌, ◌≤◌, List, length, AllPairs, ℤ, pos, neg_ℤ}
use Rattle.mk_model.specs.Vectors.{scale}
use Rattle.mk_model.specs.Lattices.{InLattice}
use Rattle.mk_model.specs.CoreStates.{move_at}
use Rattle.mk_model.specs.Orders.{lead, tail}
use Rattle.mk_model.specs.Reductions.{Divides, TailReduct}
use Rattle.mk_model.specs.ReducedBases.{IsReducedMove}
use Rattle.mk_move.specs.Moves.{Weighed, IsBefore}
use Rattle.mk_move.specs.MoveLists.{BasisView, BelongsTo, vectors_of}

-- A move that belongs to the basis and is in the lattice that it spans. It has the lead of the move of an index, and steps on
-- the tail lead to it from that move.
pub record HasTailReduced (basis : BasisView) (index : ℕ) (m : Weighed) : Type 0 where
  pub belongs : BelongsTo basis.priority basis.grading m
  pub in_lattice : InLattice (length basis.grading) (vectors_of basis.moves) m.entries
  pub same_lead : lead m.entries ≡ lead (move_at (vectors_of basis.moves) index)
  pub reached : TailReduct (vectors_of basis.moves) (move_at (vectors_of basis.moves) index) m.entries

-- a step on the tail by the move of a place, whose lead divides it
pub record IsTailStep (basis : BasisView) (index place : ℕ) (m : Weighed) : Type 0 where
  pub of_list : index < length basis.moves
  pub within : place < length basis.moves
  pub divides : Divides (lead (move_at (vectors_of basis.moves) place)) (tail m.entries)
  pub reduced : HasTailReduced basis index m

-- minus the greatest number of times that the lead of v divides the tail of r, which is at least once
pub record IsTimesAdded (v r : List ℤ) (times : ℤ) : Type 0 where
  pub count : ℕ
  pub value : times ≡ neg_ℤ (pos count)
  pub some : 1 ≤ count
  pub divides : Divides (scale (pos count) (lead v)) (tail r)
  pub greatest : (q : ℕ) → Divides (scale (pos q) (lead v)) (tail r) → q ≤ count

-- the move of the reduced basis that has the lead of a vector
pub record IsReducedFrom (basis : BasisView) (v : List ℤ) (m : Weighed) : Type 0 where
  pub belongs : BelongsTo basis.priority basis.grading m
  pub same_lead : lead m.entries ≡ lead v
  pub reduced : IsReducedMove (length basis.grading) (vectors_of basis.moves) m.entries

-- by the number of columns, then by move order
abbrev pub IsEarlier : Weighed → Weighed → Type 0
IsEarlier a b =
    (length a.entries < length b.entries)
    ⊎ ((length a.entries ≡ length b.entries) × IsBefore (length a.entries) a b)

-- no move is earlier than one that stands before it
abbrev pub NoneEarlier : List Weighed → Type 0
NoneEarlier moves = AllPairs (λ a b. ¬ (IsEarlier b a)) moves
