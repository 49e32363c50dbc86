use Rattle.mk_model.proofs.ForbiddingEnds.{vector_combined, vector_nonnegative, weighed_sides, vector_positive, no_grading_at}
use Rattle.mk_model.proofs.tableau_laws.forbidding_end_forbids.Goals as goal

pub returns-clause-combined : goal.returns-clause-combined
returns-clause-combined _ n made sides rows t factors vector a p end = vector_combined n sides rows a made t p factors vector end

pub returns-clause-nonnegative : goal.returns-clause-nonnegative
returns-clause-nonnegative _ n made sides rows t factors vector a p end =
    record { columns = end.columns; nonnegative = vector_nonnegative n sides rows a made t p factors vector end }

pub returns-clause-sides : goal.returns-clause-sides
returns-clause-sides _ n made sides rows t factors vector a p end = weighed_sides n sides rows a made t p factors vector end

pub returns-clause-positive : goal.returns-clause-positive
returns-clause-positive _ n made rows t factors vector a p end = vector_positive n rows a made t p factors vector end

pub returns-clause-no_grading : goal.returns-clause-no_grading
returns-clause-no_grading _ n made rows t factors vector w a p end = no_grading_at n rows a made t p factors vector end w
