use Rattle.std.proofs.Common.{◌≡◌, ◌⊎◌, Option, Ok, Some, subst}
use Rattle.std.specs.Option.{option_copied}
use Rattle.mk_model.specs.Tables.{Grid}
use Rattle.mk_desk.specs.Folders.{WhereTold}
use Rattle.mk_desk.proofs.Telling.{where_told_then, where_told_weaker}
use Rattle.mk_grading.specs.Choices.{IsGradeFault}
use Rattle.mk_grading.specs.declared.fault.GradeFault.TheVariants.{Memory}
use Rattle.mk_project.specs.declared.file.InputFile.TheVariants.{Lat, Mat, Grade}
use Rattle.mk_input.specs.Readings.{ReadsFile, ReadsProject}
use Rattle.mk_input.proofs.FilesRead.{ReadsTwo, ReadsThree, two_read, three_read, none_chosen}
use Rattle.mk_input.proofs.reading.read_project.Goals as goal

pub returns-in_err-grading-clause-told : goal.returns-in_err-grading-clause-told
returns-in_err-grading-clause-told g c =
    let told = g.F.Folder.told in
    let project = c.args.project.now in
    let lat = c.in-Some.lat in
    let mat = c.in_ok-mat.mat in
    let grade = c.in_ok-grade.grade in
    let fault = c.in_err-grading.field-0.0 in
    let start = told c.args.folder.now in
    let end = told c.read_file-3.new.folder in
    let first = subst (λ (file : Option Grid). WhereTold start (told c.read_file.new.folder) (ReadsFile Lat project (Ok file))) c.in-Some.is c.in_ok-lat.ensures.told in
    let two = where_told_then start (told c.read_file.new.folder) (told c.read_file-2.new.folder) (ReadsFile Lat project (Ok (Some lat))) (ReadsFile Mat project (Ok mat)) (ReadsTwo project lat mat) first c.in_ok-mat.ensures.told (two_read project lat mat) in
    let three = where_told_then start (told c.read_file-2.new.folder) end (ReadsTwo project lat mat) (ReadsFile Grade project (Ok grade)) (ReadsThree project lat mat grade) two c.in_ok-grade.ensures.told (three_read project lat mat grade) in
    let cause = subst (λ (m : Option Grid). (fault ≡ Memory) ⊎ IsGradeFault lat m grade fault) c.as_ref.ensures.value
    (subst (λ (k : Option Grid). (fault ≡ Memory) ⊎ IsGradeFault lat (option_copied c.as_ref.result) k fault) c.as_ref-2.ensures.value c.in_err-grading.ensures.caused) in
    where_told_weaker start end (ReadsThree project lat mat grade) (ReadsProject project c.from_residual-in_err-grading.result) three
    (none_chosen project lat mat grade fault c.from_residual-in_err-grading.result c.from_residual-in_err-grading.ensures.1 cause)
