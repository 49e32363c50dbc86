use Rattle.mk_model.proofs.Dropping.{drop_redundant_part, drop_redundant_covers}
use Rattle.mk_model.proofs.laws.drop_redundant_covers.Goals as goal

pub returns : goal.returns
returns c = record { members = λ moves m h. drop_redundant_part moves m h; divisors = λ moves m h. drop_redundant_covers moves m h }
