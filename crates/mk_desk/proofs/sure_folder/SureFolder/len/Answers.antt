use Rattle.std.proofs.Common.{◌∙◌, sym}
use Rattle.mk_desk.proofs.FilesInMemory.{len_files}
use Rattle.mk_desk.proofs.sure_folder.SureFolder.len.Goals as goal

pub returns : goal.returns
returns c = c.len.ensures.len ∙ sym (len_files c.args.self.now.files c.len.ensures.ordered)
