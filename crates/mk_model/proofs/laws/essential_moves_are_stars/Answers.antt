use Rattle.mk_model.proofs.StarLaws.{essential_is_star, star_is_essential}
use Rattle.mk_model.proofs.laws.essential_moves_are_stars.Goals as goal

pub returns : goal.returns
returns c = λ lattice m g. (essential_is_star g, star_is_essential g)
