use Rattle.mk_model.proofs.Components.{lighter_by_members}
use Rattle.mk_model.proofs.laws.lighter_members_join.Goals as goal

pub returns : goal.returns
returns c = λ lattice basis bound x y g reduced j. lighter_by_members g reduced bound j
