-- Bases that have grown since they were copied.
use Rattle.std.specs.Prelude.{◌≡◌, List, ◌++◌}
use Rattle.mk_move.specs.Moves.{Weighed}
use Rattle.mk_move.specs.MoveLists.{BasisView}

-- the list and the grading of the first basis, and its moves with maybe more behind them
pub record IsLonger (basis longer : BasisView) : Type 0 where
  pub priority : longer.priority ≡ basis.priority
  pub grading : longer.grading ≡ basis.grading
  pub more : List Weighed
  pub moves : longer.moves ≡ basis.moves ++ more
