use Rattle.mk_model.proofs.LeavingRows.{some_above}
use Rattle.mk_model.proofs.tableau_laws.entering_column_has_a_pivot.Goals as goal

pub returns : goal.returns
returns _ n made sides rows t column a p e = some_above n sides rows a made t p column e
