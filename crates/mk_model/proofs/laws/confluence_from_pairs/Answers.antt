use Rattle.mk_model.proofs.Confluence.{confluence}
use Rattle.mk_model.proofs.laws.confluence_from_pairs.Goals as goal

pub returns : goal.returns
returns c lattice priority moves o pairs x y walk = confluence o pairs x y walk
