use Rattle.std.proofs.Common.{◌≡◌, ◌-◌, ◌<◌, length, set, take, get_or, arith, ap, sym, ◌∙◌, subst}
use Rattle.mk_journal.specs.declared.journal.Run.{Run}
use Rattle.mk_journal.specs.JournalRuns.{more_of, entries_of}
use Rattle.mk_journal.proofs.JournalRuns.{with_number, same_read, entries_shrunk, entries_popped}
use Rattle.mk_journal.proofs.journal.take_last.Goals as goal

pub returns-then-more-gt0-clause-value : goal.returns-then-more-gt0-clause-value
returns-then-more-gt0-clause-value c =
    let runs = c.args.runs.now.items in
    let last = c.index_mut.result.now in
    let e : c.len-count.result - 1 ≡ length runs - 1 = omega arith in
    let read : last ≡ get_or runs (length runs - 1) last = subst (λ n. last ≡ get_or runs n last) e c.index_mut.ensures.value in
    let looked : c.index.result.now ≡ get_or runs (length runs - 1) c.index.result.now =
    subst (λ n. c.index.result.now ≡ get_or runs n c.index.result.now) e c.index.ensures in
    let same : c.index.result.now ≡ last =
    same_read runs (length runs - 1) c.index.result.now last (omega (arith, c.requires.some)) looked read in
    let more : 0 < more_of last.kind last.number = subst (λ (r : Run). 0 < more_of r.kind r.number) same (omega (arith, c.more.ensures)) in
    subst (λ n. entries_of (set runs n (with_number last (last.number - 1))) ≡ take (length (entries_of runs) - 1) (entries_of runs))
    (sym e)
    (entries_shrunk runs last c.requires.some read more)

pub returns-else-more-gt0-clause-value : goal.returns-else-more-gt0-clause-value
returns-else-more-gt0-clause-value c =
    let runs = c.args.runs.now.items in
    let last = c.index.result.now in
    let e : c.len-count.result - 1 ≡ length runs - 1 = omega arith in
    let read : last ≡ get_or runs (length runs - 1) last = subst (λ n. last ≡ get_or runs n last) e c.index.ensures in
    let none : more_of last.kind last.number ≡ 0 = omega (arith, c.more.ensures) in
    ap (λ rs. entries_of rs) (c.pop.ensures.rest ∙ ap (λ n. take n runs) (omega arith))
    ∙ entries_popped runs last c.requires.some read none
