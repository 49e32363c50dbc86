-- The tree of a finder.
use Rattle.std.specs.Prelude.{ℕ, ◌<◌, ◌^◌, List, length, ℤ}
use Rattle.mk_support.specs.declared.node.Node.{Node}
use Rattle.mk_support.specs.Blocks.{IsPlacedLead}
use Rattle.mk_support.specs.FirstBits.{Has, AreByFirst}

-- the children have the place of each lead, with its mask, and no others; there are fewer than 2^32
pub record IsTree (leads : List (List ℤ)) (children : List Node) : Type 0 where
  pub few : length leads < 2 ^ 32
  pub by_first : AreByFirst children
  pub placed : (m p : ℕ) → Has children m p → IsPlacedLead leads m p
  pub each : (p : ℕ) → p < length leads → (m : ℕ) × Has children m p
