use Rattle.std.proofs.Common.{◌≡◌, ℕ, ◌+◌, ◌-◌, List, ◌++◌, length, take, drop, ◌∙◌, ap, sym, refl, arith}
use Rattle.std.proofs.lemmas.List.{take_at, take_rest, take-append-drop, drop-drop, drop_all, length-take, length-drop}
use Rattle.mk_desk.proofs.sure_folder.SureFolderFolder.read.Goals as goal

-- what was copied, and then what is left, is what was left before
one_read : (at n : ℕ) (bytes copied tail : List ℕ) → copied ≡ take n (drop at bytes) → length copied ≡ n
    → take n (copied ++ tail) ++ drop (at + n) bytes ≡ drop at bytes
one_read at n bytes copied tail is long =
    ap (λ front. front ++ drop (at + n) bytes) (take_at copied tail n long ∙ is)
    ∙ ap (λ rest. take n (drop at bytes) ++ rest) (sym (drop-drop n at bytes))
    ∙ take-append-drop n (drop at bytes)

pub returns-clause-told : goal.returns-clause-told
returns-clause-told c = (
  one_read c.args.self.now.position c.min-count.result c.args.self.now.reading.items c.copy_from_slice.new.self _
      (c.copy_from_slice.ensures.after
      ∙ ap (take c.min-count.result) (take_rest c.deref.result.now c.args.self.now.position ∙ ap (drop c.args.self.now.position) c.deref.ensures.value))
      (c.copy_from_slice.ensures.len ∙ omega (arith, length-take c.min-count.result c.args.into.now, c.min-count.ensures)),
  λ none. drop_all c.args.self.now.position c.args.self.now.reading.items
      (omega (
        arith,
        none,
        c.min-count.ensures,
        c.requires.room,
        ap length c.deref.ensures.value,
        length-take (length c.deref.result.now - c.args.self.now.position) (drop c.args.self.now.position c.deref.result.now),
        length-drop c.args.self.now.position c.deref.result.now,
      )),
  refl,
)
