use Rattle.std.proofs.Common.{◌≡◌, ◌+◌, ◌-◌, ◌≤◌, vec_len}
use Rattle.mk_desk.specs.Folders.{WhereTold}
use Rattle.mk_desk.proofs.Loading.{HasRead}
use Rattle.mk_desk.proofs.transfer.read_rest.Given as goal

-- what was read is no longer than the limit
abbrev pub invariant-loop-buffer : goal.invariant-loop-buffer
invariant-loop-buffer g l =
    let state = g.F.Folder.state in
    let told = g.F.Folder.told in
    record {
      within : vec_len l.bytes ≤ l.limit;
      same : state l.folder ≡ record (state l.fn.folder) { given = vec_len l.bytes };
      room : vec_len l.buffer ≡ 65536;
      told : WhereTold (told l.fn.folder) (told l.folder) (HasRead l.bytes.items);
    }

-- how many bytes may still come
abbrev pub decreases-loop-buffer : goal.decreases-loop-buffer
decreases-loop-buffer g l = l.limit + 1 - vec_len l.bytes
