use Rattle.std.proofs.Common.{◌≡◌, List, [], ℕ, ◌++◌, ◌∙◌}
use Rattle.mk_move.specs.MoveLists.{MoveListView}
use Rattle.mk_desk.specs.Folders.{Desk, WhereTold}
use Rattle.mk_desk.proofs.Telling.{where_told_then}
use Rattle.mk_writer.specs.Writing.{text_of}
use Rattle.mk_run.specs.Runs.{mar_name}
use Rattle.mk_run.specs.Stages.{WritesAnswer}
use Rattle.mk_run.proofs.Endings.{whole_made}
use Rattle.mk_run.proofs.giving.write_answer.Goals as goal
use Rattle.mk_run.proofs.giving.write_answer.Goals.{After-as_str, In_ok-write_moves}
use Rattle.mk_run.proofs.giving.write_answer.Given.{Over}

named : (g : Over) (c : After-as_str g) → c.as_str.result.now ≡ mar_name c.args.project.now
named g c = c.as_str.ensures.value ∙ c.in_ok-name.ensures

-- the file was begun and its text put whole
abbrev IsMade : List ℕ → MoveListView → Desk → Desk → Type 0
IsMade name list x z = (y : Desk) × (y ≡ record x { made_name = name; made = [] }) × (z ≡ record y { made = y.made ++ text_of list })

made : (g : Over) (c : In_ok-write_moves g) → WhereTold (g.F.Folder.told c.args.folder.now) (g.F.Folder.told c.write_moves.new.folder) (IsMade c.as_str.result.now c.args.list.now)
made g c =
    where_told_then _ _ _ _ _ (IsMade c.as_str.result.now c.args.list.now) c.in_ok-start_write.ensures.told c.in_ok-write_moves.ensures.told (λ x y z p q. (y, p, q))

pub returns-in_err-end_write-clause-told : goal.returns-in_err-end_write-clause-told
returns-in_err-end_write-clause-told g c =
    let at = goal.at.returns-in_err-end_write-clause-told g c in
    let same = named g at.After-as_str in
    let result = c.from_residual-in_err-end_write.result in
    where_told_then _ _ _ _ _ (WritesAnswer c.args.project.now c.args.list.now result) (made g at.In_ok-write_moves) c.in_err-end_write.ensures.told
    (λ x z w p r. whole_made c.args.project.now c.args.list.now result c.from_residual-in_err-end_write.ensures.0 c.as_str.result.now same x p.0 z w p.1 p.2 r)
