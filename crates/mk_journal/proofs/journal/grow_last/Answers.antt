use Rattle.std.proofs.Common.{◌≡◌, ◌+◌, ◌-◌, ◌<◌, ◌++◌, [], ◌∷◌, length, set, get_or, arith, sym, subst}
use Rattle.mk_journal.specs.declared.journal.Run.{Run}
use Rattle.mk_journal.specs.JournalRuns.{entries_of, IsContinuedBy}
use Rattle.mk_journal.proofs.JournalRuns.{with_number, same_read, entries_grown}
use Rattle.mk_journal.proofs.journal.grow_last.Goals as goal

pub returns-clause-grown : goal.returns-clause-grown
returns-clause-grown c _ =
    let runs = c.args.runs.now.items in
    let last = c.index_mut.result.now in
    let e : c.len-count.result - 1 ≡ length runs - 1 = omega arith in
    let some : 0 < length runs = omega arith in
    let read : last ≡ get_or runs (length runs - 1) last = subst (λ n. last ≡ get_or runs n last) e c.index_mut.ensures.value in
    let looked : c.index.result.now ≡ get_or runs (length runs - 1) c.index.result.now =
    subst (λ n. c.index.result.now ≡ get_or runs n c.index.result.now) e c.index.ensures in
    let same : c.index.result.now ≡ last = same_read runs (length runs - 1) c.index.result.now last (omega (arith, some)) looked read in
    let continued : IsContinuedBy last c.args.entry =
    subst (λ (r : Run). IsContinuedBy r c.args.entry) same (c.is_continued_by.ensures c.if-not-is_continued_by.false) in
    subst (λ n. entries_of (set runs n (with_number last (last.number + 1))) ≡ entries_of runs ++ c.args.entry ∷ []) (sym e)
    (entries_grown runs last c.args.entry some read c.requires.third continued)
