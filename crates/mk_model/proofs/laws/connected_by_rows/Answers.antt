use Rattle.std.proofs.lemmas.List.Elements.{All-contains}
use Rattle.mk_model.specs.Saturation.{IsSignedRow}
use Rattle.mk_model.proofs.RowConnections.{connected_by_rows}
use Rattle.mk_model.proofs.laws.connected_by_rows.Goals as goal

pub returns : goal.returns
returns c = λ lattice moves g signed. connected_by_rows g moves (λ row h. All-contains (IsSignedRow moves) lattice.rows row signed h)
