-- Free columns, by the sides of the moves that free them. (Sturmfels, chapter 12)
use Rattle.std.specs.Prelude.{Bool, List, ℤ}
use Rattle.mk_model.specs.FreeColumns.{freed_by}
use Rattle.mk_model.specs.Vectors.{negate}
use Rattle.mk_move.specs.declared.side.Side.{Side}
use Rattle.mk_move.specs.declared.side.Side.TheVariants.{Plus, Minus}

abbrev pub other_side : Side → Side
other_side Plus = Minus
other_side Minus = Plus

-- the vector or its negative: the one whose positive part is the vector's part on the side
abbrev pub turned_to : Side → List ℤ → List ℤ
turned_to Plus u = u
turned_to Minus u = negate u

-- what is left unsaturated by the vector turned to a side
abbrev pub freed_on : Side → List ℤ → List Bool → List Bool
freed_on side u left = freed_by (turned_to side u) left
