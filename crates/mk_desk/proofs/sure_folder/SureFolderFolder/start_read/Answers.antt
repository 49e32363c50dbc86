use Rattle.std.proofs.Common.{Some, ◌∙◌, ap, sym, refl}
use Rattle.std.specs.Option.{option_map}
use Rattle.mk_desk.proofs.FilesInMemory.{get_file}
use Rattle.mk_desk.proofs.sure_folder.SureFolderFolder.start_read.Goals as goal

pub returns-in_default-clause-told : goal.returns-in_default-clause-told
returns-in_default-clause-told c =
    (get_file c.args.self.now.files c.args.name.now ∙ sym (ap (option_map (λ v. v.items)) c.in_default.ensures.value), refl)

pub returns-clause-told : goal.returns-clause-told
returns-clause-told c = (
  get_file c.args.self.now.files c.args.name.now ∙ sym (ap (option_map (λ v. v.items)) c.in-Some.ensures.value)
      ∙ ap Some (sym (c.in_ok-copy.ensures.items ∙ c.deref.ensures.value)),
  refl,
)
