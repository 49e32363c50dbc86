-- The leads that a tree holds.
use Rattle.std.specs.Prelude.{◌≡◌, ◌⊎◌, ℕ, ◌<◌, List, ℤ}
use Rattle.std.specs.Int.{bit_at}
use Rattle.mk_support.specs.declared.block.Block.{Block}
use Rattle.mk_support.specs.declared.node.Node.{Node}
use Rattle.mk_support.specs.declared.node.Node.TheVariants.{Leaf, Fork'}
use Rattle.mk_support.specs.Blocks.{HoldsIn, IsPlacedLead, IsThis}

-- the tree has this place with that mask
abbrev pub Holds : Node → ℕ → ℕ → Type 0
Holds (Leaf block) m p = HoldsIn block m p
Holds (Fork' bit a with b without) m p = Holds with m p ⊎ Holds without m p

-- each mask of the tree is that of the lead at its place
abbrev pub ArePlaced : List (List ℤ) → Node → Type 0
ArePlaced leads node = (m p : ℕ) → Holds node m p → IsPlacedLead leads m p

-- on the first side of a fork each mask has its bit
abbrev pub AreSplit : Node → Type 0
AreSplit (Leaf block) = Unit {0}
AreSplit (Fork' bit a with b without) = (bit < 64) × ((m p : ℕ) → Holds with m p → bit_at m bit ≡ 1) × AreSplit with × AreSplit without

-- The second has this place with that mask besides those of the first.
pub record Gains (old : ℕ → ℕ → Type 0) (mask place : ℕ) (new : ℕ → ℕ → Type 0) : Type 0 where
  pub kept : (m p : ℕ) → old m p → new m p
  pub there : new mask place
  pub others : (m p : ℕ) → new m p → old m p ⊎ IsThis mask place m p

-- both have the same
pub record IsSame (old new : ℕ → ℕ → Type 0) : Type 0 where
  pub kept : (m p : ℕ) → old m p → new m p
  pub others : (m p : ℕ) → new m p → old m p

-- a tree of the places of a block and of another one
pub record ForksTo (block : Block) (mask place : ℕ) (fork : Node) : Type 0 where
  pub split : AreSplit fork
  pub gains : Gains (HoldsIn block) mask place (Holds fork)
