use Rattle.std.proofs.Common.{◌≡◌, List, ℕ, subst, inl, inr, refl, ap, ◌∙◌, Err, IsErrOf}
use Rattle.mk_desk.specs.Folders.{WhereTold}
use Rattle.mk_run.specs.Runs.{SaysLine}
use Rattle.mk_desk.specs.Transfers.{SaysAll}
use Rattle.mk_desk.specs.declared.folder.DeskFault.{DeskFault}
use Rattle.mk_desk.specs.declared.folder.DeskFault.TheVariants.{Failed}
use Rattle.mk_desk.specs.declared.folder.Channel.TheVariants.{Err as OnErrors}
use Rattle.mk_desk.proofs.Telling.{where_told_weaker}
use Rattle.mk_run.proofs.Endings.{line_said}
use Rattle.mk_run.proofs.run.say.Goals as goal
use Rattle.mk_run.proofs.run.say.Goals.{After-say_all}
use Rattle.mk_run.proofs.run.say.Given.{Over}

-- the line, or a front of it where there is a reason
told : (g : Over) (c : After-say_all g) (reason : Type 0) → ((fault : DeskFault) → c.say_all.result ≡ Err fault → reason) → WhereTold (g.F.Folder.told c.args.folder.now) (g.F.Folder.told c.say_all.new.folder) (SaysLine c.args.line.now reason)
told g c reason why =
    let said = subst (λ (piece : List ℕ). WhereTold (g.F.Folder.told c.args.folder.now) (g.F.Folder.told c.say_all.new.folder) (SaysAll OnErrors piece c.say_all.result)) c.as_bytes.ensures.value c.say_all.ensures.told in
    where_told_weaker _ _ (SaysAll OnErrors c.args.line.now c.say_all.result) (SaysLine c.args.line.now reason) said (line_said c.args.line.now reason c.say_all.result why)

pub returns-in-Ok-clause-told : goal.returns-in-Ok-clause-told
returns-in-Ok-clause-told g c = told g (goal.at.returns-in-Ok-clause-told g c).After-say_all _ (λ fault e. absurd (cc))

pub returns-in-Err-Failed-clause-told : goal.returns-in-Err-Failed-clause-told
returns-in-Err-Failed-clause-told g c =
    let failed : IsErrOf c.say_all.result Failed = c.in-Err-Failed.is ∙ ap Err c.in-Err-Failed.field-0-is in
    told g (goal.at.returns-in-Err-Failed-clause-told g c).After-say_all _ (λ fault e. inl (c.say_all.ensures.cause.failed failed))

pub returns-in-Err-Memory-clause-told : goal.returns-in-Err-Memory-clause-told
returns-in-Err-Memory-clause-told g c = told g (goal.at.returns-in-Err-Memory-clause-told g c).After-say_all _ (λ fault e. inr refl)
