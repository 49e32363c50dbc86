-- The leads that the children of a tree hold.
use Rattle.std.specs.Prelude.{◌≡◌, ◌⊎◌, ℕ, ◌<◌, List, length, All, Some, slice_get}
use Rattle.std.specs.Int.{bit_at}
use Rattle.mk_support.specs.declared.node.Node.{Node}
use Rattle.mk_support.specs.Nodes.{Holds, AreSplit}

-- the child at this place of the list has this place of a lead with that mask
pub record HoldsAt (children : List Node) (first mask place : ℕ) : Type 0 where
  pub child : Node
  pub at : slice_get children first ≡ Some child
  pub holds : Holds child mask place

-- one of the children has it
abbrev pub Has : List Node → ℕ → ℕ → Type 0
Has children mask place = (first : ℕ) × HoldsAt children first mask place

-- there are none, or one for each bit and one more; in the child of a bit each mask has that bit
pub record AreByFirst (children : List Node) : Type 0 where
  pub count : (length children ≡ 0) ⊎ (length children ≡ 65)
  pub split : All AreSplit children
  pub set : (first m p : ℕ) → HoldsAt children first m p → first < 64 → bit_at m first ≡ 1

-- a child without leads
pub record IsEmpty (child : Node) : Type 0 where
  pub split : AreSplit child
  pub none : (m p : ℕ) → ¬ (Holds child m p)
