use Rattle.mk_move.proofs.Takings.{difference_read}
use Rattle.mk_move.proofs.in_place.wide_less.Goals as goal

pub returns : goal.returns
returns c = difference_read c.args.left c.args.times c.args.right c.requires.left c.requires.times c.requires.right
