-- The leads that a block of a tree holds.
use Rattle.std.specs.Prelude.{◌≡◌, ◌≢◌, ◌⊎◌, ℕ, ◌<◌, List, Contains, length, Some, slice_get, slice_index, ℤ}
use Rattle.std.specs.Int.{bit_at}
use Rattle.mk_model.specs.Reductions.{Divides}
use Rattle.mk_move.specs.Masks.{IsMask}
use Rattle.mk_support.specs.declared.block.Block.{Block}

-- the mask and the place stand beside each other
pub record StandsInBlock (masks places : List ℕ) (mask place : ℕ) : Type 0 where
  pub index : ℕ
  pub within : index < length masks
  pub mask_at : slice_index masks index ≡ mask
  pub place_at : slice_index places index ≡ place

-- the block has this place with that mask
abbrev pub HoldsIn : Block → ℕ → ℕ → Type 0
HoldsIn block mask place = StandsInBlock block.masks.items block.places.items mask place

-- the mask is that of the lead at this place
pub record IsPlacedLead (leads : List (List ℤ)) (mask place : ℕ) : Type 0 where
  pub lead : List ℤ
  pub at : slice_get leads place ≡ Some lead
  pub is_mask : IsMask lead mask

-- the lead at this place doesn't divide x
abbrev pub IsRefused : List (List ℤ) → List ℤ → ℕ → Type 0
IsRefused leads x place = (lead : List ℤ) → slice_get leads place ≡ Some lead → ¬ (Divides lead x)

-- a mask of the block and this one aren't the same in the bit
pub record TellsApart (block : Block) (mask bit : ℕ) : Type 0 where
  pub low : bit < 64
  pub other : ℕ
  pub own : Contains block.masks.items other
  pub apart : bit_at other bit ≢ bit_at mask bit

-- it has the leads of the block whose masks have this bit there
pub record IsShare (block : Block) (bit wanted : ℕ) (share : Block) : Type 0 where
  pub own : (m p : ℕ) → HoldsIn share m p → HoldsIn block m p × (bit_at m bit ≡ wanted)
  pub whole : (m p : ℕ) → HoldsIn block m p → bit_at m bit ≡ wanted → HoldsIn share m p

-- this mask and this place
abbrev pub IsThis : ℕ → ℕ → ℕ → ℕ → Type 0
IsThis mask place m p = (m ≡ mask) × (p ≡ place)

-- it has the leads of the block, and another one, whose masks have this bit there
pub record IsShareWith (block : Block) (bit wanted mask place : ℕ) (share : Block) : Type 0 where
  pub own : (m p : ℕ) → HoldsIn share m p → (HoldsIn block m p ⊎ IsThis mask place m p) × (bit_at m bit ≡ wanted)
  pub whole : (m p : ℕ) → HoldsIn block m p → bit_at m bit ≡ wanted → HoldsIn share m p
  pub there : bit_at mask bit ≡ wanted → HoldsIn share mask place
