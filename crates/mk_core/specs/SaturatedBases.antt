-- A basis that is a Markov basis, completed along the standard list, without redundant moves. (Sturmfels, chapters 1, 5 and 12)
use Rattle.std.specs.Prelude.{◌≡◌, length}
use Rattle.mk_model.specs.Bases.{IsMarkov}
use Rattle.mk_model.specs.Orders.{standard}
use Rattle.mk_model.specs.Pairs.{EveryPairJoined}
use Rattle.mk_model.specs.Saturation.{NoneRedundant}
use Rattle.mk_move.specs.MoveLists.{BasisView, IsBasis, vectors_of}

pub record IsSaturated (basis : BasisView) : Type 0 where
  pub kept : IsBasis basis
  pub standard_list : basis.priority ≡ standard (length basis.grading)
  pub none_redundant : NoneRedundant (vectors_of basis.moves)
  pub joined : EveryPairJoined (length basis.grading) basis.priority (vectors_of basis.moves)
  pub markov : IsMarkov (length basis.grading) (vectors_of basis.moves) (vectors_of basis.moves)
