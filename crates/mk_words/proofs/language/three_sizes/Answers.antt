use Rattle.mk_words.proofs.SizesRead.{sizes_too_large}
use Rattle.mk_words.proofs.language.three_sizes.Goals as goal

pub returns-then-a-b-gt-MOST_CELLS : goal.returns-then-a-b-gt-MOST_CELLS
returns-then-a-b-gt-MOST_CELLS c =
    sizes_too_large c.args.first.now c.args.second.now c.args.third.now c.in-Some.a c.in-Some-size_in.b c.in-Some-size_in-2.c c.in-Some.ensures.some c.in-Some-size_in.ensures.some c.in-Some-size_in-2.ensures.some c.if-a-b-gt-MOST_CELLS.true
