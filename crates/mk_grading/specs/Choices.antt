-- Why no grading is chosen, by the fault that says so.
use Rattle.std.specs.Prelude.{Option, IfSome, IsSomeAnd}
use Rattle.mk_model.specs.Tables.{Grid}
use Rattle.mk_model.specs.ChosenGradings.{FitsMatrix, HasOtherColumns, IsMatrixMismatch, HasOtherShape, IsFirstBelowOne, IsGradeMismatch, HasNoSource}
use Rattle.mk_grading.specs.declared.fault.GradeFault.{GradeFault}
use Rattle.mk_grading.specs.declared.fault.GradeFault.TheVariants.{Memory, MatColumns, MatMismatch, GradeShape, GradeNotPositive, GradeMismatch, NoGrading}

-- The cause of each fault: what is wrong first, in the order in which the faults stand. Want of memory has none.
abbrev pub IsGradeFault : Grid → Option Grid → Option Grid → GradeFault → Type 0
IsGradeFault lat mat grade Memory = ⊥
IsGradeFault lat mat grade (MatColumns found wanted) = IsSomeAnd mat (λ matrix. HasOtherColumns lat matrix found wanted)
IsGradeFault lat mat grade (MatMismatch mat_row lat_row value) =
    IsSomeAnd mat (λ matrix. IsMatrixMismatch lat matrix mat_row lat_row value)
IsGradeFault lat mat grade (GradeShape rows columns wanted) =
    IfSome mat (FitsMatrix lat) × IsSomeAnd grade (λ given. HasOtherShape lat given rows columns wanted)
IsGradeFault lat mat grade (GradeNotPositive column value) =
    IfSome mat (FitsMatrix lat) × IsSomeAnd grade (λ given. IsFirstBelowOne lat given column value)
IsGradeFault lat mat grade (GradeMismatch lat_row value) =
    IfSome mat (FitsMatrix lat) × IsSomeAnd grade (λ given. IsGradeMismatch lat given lat_row value)
IsGradeFault lat mat grade NoGrading = IfSome mat (FitsMatrix lat) × HasNoSource lat mat grade
