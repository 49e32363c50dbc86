use Rattle.mk_examples.proofs.CheapestExamples.{normal_form, walk, middle, last, dearer, least}
use Rattle.mk_examples.proofs.cheapest.cheapest_examples.Goals as goal

pub returns : goal.returns
returns c = record { normal_form = normal_form; walk = walk; middle = middle; last = last; dearer = dearer; least = least }
