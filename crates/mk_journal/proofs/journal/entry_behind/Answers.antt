use Rattle.std.proofs.Common.{◌<◌, ◌≤◌, get_or, arith, ap, sym, ◌∙◌}
use Rattle.std.specs.Prelude.{Some}
use Rattle.mk_journal.specs.JournalRuns.{more_of}
use Rattle.mk_journal.proofs.JournalRuns.{no_run, read_at, entries_to, not_last, entry_found}
use Rattle.mk_journal.proofs.journal.entry_behind.Goals as goal

pub loop-left-preserved : goal.loop-left-preserved
loop-left-preserved c =
    let runs = c.args.runs.now in
    let place = c.loop-left.place in
    let run = get_or runs place no_run in
    let kept = c.loop-left.invariant in
    let read = read_at runs place kept.0 in
    let more : more_of run.kind run.number < c.loop-left.left = omega (arith, c.more.ensures, c.from.ensures) in
    let long = entries_to runs place run kept.0 read in (
      not_last runs place c.args.n c.loop-left.left run kept.0 read kept.1 c.requires.within more,
      omega (arith, kept.1, long, c.more-in-loop-left.ensures, c.from-in-loop-left.ensures, more),
    )

pub returns : goal.returns
returns c =
    let runs = c.args.runs.now in
    let place = c.loop-left.place in
    let run = get_or runs place no_run in
    let kept = c.loop-left.invariant in
    let most : c.loop-left.left ≤ more_of run.kind run.number = omega (arith, c.more.ensures, c.from.ensures) in
    entry_found runs place c.args.n c.loop-left.left run kept.0 (read_at runs place kept.0) kept.1 c.requires.within most
    ∙ ap (λ e. Some e) (sym c.entry.ensures)
