-- Links that are taken off where their lead is a part of what is left. (Sturmfels, chapters 1 and 5: reduction)
use Rattle.std.specs.Prelude.{◌≡◌, ◌⊎◌, ℕ, List, [], ◌∷◌, ◌++◌, length, slice_get, Contains, Option, None, Some, IfSome, ℤ, pos, neg_ℤ}
use Rattle.mk_model.specs.Vectors.{negate}
use Rattle.mk_model.specs.Orders.{lead}
use Rattle.mk_model.specs.Reductions.{Divides, Reaches}
use Rattle.mk_move.specs.Moves.{Weighed}
use Rattle.mk_move.specs.MoveLists.{BasisView, BelongsTo, vectors_of}
use Rattle.mk_move.specs.Sides.{part_of}
use Rattle.mk_move.specs.Steps.{minus_times}
use Rattle.mk_move.specs.declared.side.Side.{Side}
use Rattle.mk_move.specs.declared.side.Side.TheVariants.{Plus, Minus}
use Rattle.mk_reduce.specs.Works.{rest_of, IsRest}

-- the move is as heavy as the other, and its lead divides that part of it: so it is that part
pub record IsEnd (side : Side) (m link : Weighed) : Type 0 where
  pub as_heavy : link.weight ≡ m.weight
  pub divides : Divides (lead link.entries) (part_of side m.entries)

-- once off, where the lead is the positive part, or once added
abbrev pub times_at : Side → ℤ
times_at Plus = pos 1
times_at Minus = neg_ℤ (pos 1)

-- the move at the place is such a link
pub record IsLinkAt (links : List Weighed) (m : Weighed) (place : ℕ) (side : Side) : Type 0 where
  pub link : Weighed
  pub at : slice_get links place ≡ Some link
  pub at_end : IsEnd side m link

-- the link is neither
abbrev pub NoneIsEnd : Weighed → Weighed → Type 0
NoneIsEnd m link = (side : Side) → ¬ (IsEnd side m link)

-- what a link leaves of r on a side: nothing for zero, or a graded move
pub record IsLessLink (w r : List ℤ) (side : Side) (link : List ℤ) (left : Option Weighed) : Type 0 where
  pub entries : rest_of (length w) left ≡ minus_times r (times_at side) link
  pub rest : IfSome left (IsRest w)

-- r without a link of the list whose lead is a part of it
pub record IsLinkStep (links : List (List ℤ)) (r left : List ℤ) : Type 0 where
  pub link : List ℤ
  pub member : Contains links link
  pub side : Side
  pub at_end : lead link ≡ part_of side r
  pub less : left ≡ minus_times r (times_at side) link

-- no link of the list has a part of r as its lead
abbrev pub NoneEnds : List (List ℤ) → List ℤ → Type 0
NoneEnds links r = (link : List ℤ) → Contains links link → (side : Side) → ¬ (lead link ≡ part_of side r)

-- what such steps leave of r: nothing, or a move in which no link ends
pub record IsLeftOf (links : List (List ℤ)) (w r : List ℤ) (left : Option Weighed) : Type 0 where
  pub steps : Reaches (IsLinkStep links) r (rest_of (length w) left)
  pub rest : IfSome left (IsRest w)
  pub none_ends : IfSome left (λ m. NoneEnds links m.entries)

-- the links with what is left, oriented, or as before where nothing is
abbrev pub IsAddedLeft : BasisView → List Weighed → Option Weighed → List Weighed → Type 0
IsAddedLeft basis links None after = after ≡ links
IsAddedLeft basis links (Some left) after =
    (link : Weighed) × (after ≡ links ++ link ∷ []) × BelongsTo basis.priority basis.grading link
    × ((link.entries ≡ left.entries) ⊎ (link.entries ≡ negate left.entries))

-- The links after a move is put to them: as before, where they leave nothing of it; or with what they leave, oriented, at the end.
pub record IsAdded (basis : BasisView) (m : Weighed) (links after : List Weighed) : Type 0 where
  pub left : Option Weighed
  pub leaves : IsLeftOf (vectors_of links) basis.grading m.entries left
  pub added : IsAddedLeft basis links left after
