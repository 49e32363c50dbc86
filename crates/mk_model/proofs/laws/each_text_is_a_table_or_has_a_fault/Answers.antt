use Rattle.mk_model.proofs.TableFaultLaws.{no_fault, one_table, one_fault}
use Rattle.mk_model.proofs.TableFaultFound.{table_or_fault}
use Rattle.mk_model.proofs.laws.each_text_is_a_table_or_has_a_fault.Goals as goal

pub returns-clause-either : goal.returns-clause-either
returns-clause-either c = λ bytes limits. table_or_fault bytes limits

pub returns-clause-not_both : goal.returns-clause-not_both
returns-clause-not_both c = λ bytes limits grid fault byte read has. no_fault bytes limits grid fault byte read has

pub returns-clause-one_table : goal.returns-clause-one_table
returns-clause-one_table c = λ bytes limits grid other read also. one_table bytes limits grid other read also

pub returns-clause-one_fault : goal.returns-clause-one_fault
returns-clause-one_fault c = λ bytes limits fault other byte place has also. one_fault bytes limits fault other byte place has also
