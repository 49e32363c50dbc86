use Rattle.mk_words.proofs.Determined.{no_model}
use Rattle.mk_words.proofs.SizesRead.{sizes_small}
use Rattle.mk_words.proofs.language.model_task.Goals as goal

pub returns-in-None-clause-words : goal.returns-in-None-clause-words
returns-in-None-clause-words c = λ is. no_model c.args.value.now (rw c.in-None.is at c.in_ok-sizes.ensures)

pub invariant_of-result : goal.invariant_of-result
invariant_of-result c = sizes_small c.args.value.now c.in-Some.sizes.items (rw c.in-Some.is at c.in_ok-sizes.ensures)
