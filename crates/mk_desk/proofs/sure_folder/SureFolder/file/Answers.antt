use Rattle.std.proofs.Common.{Some, ◌∙◌, ap, sym}
use Rattle.std.specs.Option.{option_map}
use Rattle.mk_desk.proofs.FilesInMemory.{get_file}
use Rattle.mk_desk.proofs.sure_folder.SureFolder.file.Goals as goal

pub returns-in-Some : goal.returns-in-Some
returns-in-Some c =
    ap Some c.as_slice.ensures.value ∙ ap (option_map (λ v. v.items)) c.in-Some.ensures.value
    ∙ sym (get_file c.args.self.now.files c.args.name.now)

pub returns-in-None : goal.returns-in-None
returns-in-None c = ap (option_map (λ v. v.items)) c.in-None.ensures.value ∙ sym (get_file c.args.self.now.files c.args.name.now)
