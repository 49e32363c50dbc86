use Rattle.mk_input.proofs.OneReading.{one_fault}
use Rattle.mk_input.proofs.laws.faults_exclude_each_other.Goals as goal

pub returns : goal.returns
returns c = λ files fault other has also. one_fault files fault other has also
