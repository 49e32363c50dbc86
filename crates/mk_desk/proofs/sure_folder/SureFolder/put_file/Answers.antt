use Rattle.std.proofs.Common.{rules, ◌≡◌, ◌∙◌, ap}
use Rattle.std.specs.FinMap.{insert}
use Rattle.mk_desk.specs.SureFolders.{files_of}
use Rattle.mk_desk.proofs.FilesInMemory.{same_files, insert_file}
use Rattle.mk_desk.proofs.sure_folder.SureFolder.put_file.Goals as goal

pub returns-in_err-insert-clause-err : goal.returns-in_err-insert-clause-err
returns-in_err-insert-clause-err c =
    let same : files_of c.insert.new.self ≡ files_of c.args.files.now = same_files c.args.files.now c.insert.new.self c.in_err-insert.ensures.err in
    search rules

pub returns-clause-ok : goal.returns-clause-ok
returns-clause-ok c =
    let old = files_of c.args.files.now in
    insert_file c.args.files.now c.insert.new.self c.in_ok-name.name c.in_ok-bytes.bytes c.in_ok-insert.ensures.updates
    ∙ ap (λ name. insert old name c.in_ok-bytes.bytes.items) c.in_ok-name.ensures.ok
    ∙ ap (insert old c.args.name.now) c.in_ok-bytes.ensures.items
