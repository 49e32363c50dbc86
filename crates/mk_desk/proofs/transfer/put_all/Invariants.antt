use Rattle.std.proofs.Common.{◌≡◌, ◌-◌, ◌≤◌, ◌++◌, length, take}
use Rattle.mk_desk.specs.Folders.{WhereTold}
use Rattle.mk_desk.proofs.transfer.put_all.Given as goal

abbrev pub invariant-loop-done : goal.invariant-loop-done
invariant-loop-done g l =
    let state = g.F.Folder.state in
    let told = g.F.Folder.told in
    record {
      within : l.done ≤ length l.piece;
      same : state l.folder ≡ state l.initial.folder;
      untouched : l.done ≡ 0 → l.folder ≡ l.initial.folder;
      told : WhereTold (told l.initial.folder) (told l.folder) (λ before after. after ≡ record before { made = before.made ++ take l.done l.piece });
    }

abbrev pub decreases-loop-done : goal.decreases-loop-done
decreases-loop-done g l = length l.piece - l.done
