use Rattle.mk_model.proofs.OneRowStops.{no_stop}
use Rattle.mk_model.proofs.book_laws.one_row_never_stops.Goals as goal

pub returns : goal.returns
returns c = λ lattice budget book stop g few h. no_stop lattice g few budget book stop h
