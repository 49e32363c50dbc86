use Rattle.std.proofs.Common.{◌≡◌, All, take, pos}
use Rattle.mk_model.specs.Vectors.{weight}
use Rattle.mk_model.specs.Tables.{rows_of}
use Rattle.mk_grading.proofs.products.first_product.Given as goal

abbrev pub invariant-loop-lat_row : goal.invariant-loop-lat_row
invariant-loop-lat_row l = All (λ row. weight l.weights row ≡ pos 0) (take l.lat_row (rows_of l.lat))
