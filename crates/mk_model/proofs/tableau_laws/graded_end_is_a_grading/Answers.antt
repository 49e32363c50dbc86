use Rattle.std.proofs.Common.{◌⊎◌, inl, inr, ◌<◌, ◌≤◌, pos, ◌≤ℤ◌, arith}
use Rattle.std.proofs.lemmas.Int.{ints}
use Rattle.std.proofs.lemmas.Bool.{cases_lt}
use Rattle.std.proofs.lemmas.List.{get_or_past}
use Rattle.mk_model.specs.Vectors.{entry}
use Rattle.mk_model.specs.Tableaux.{basic_solution}
use Rattle.mk_model.proofs.GradedEnds.{solves_sides, solution_entry, solution_columns, value_nonnegative, graded_grading}
use Rattle.mk_model.proofs.tableau_laws.graded_end_is_a_grading.Goals as goal

pub returns-clause-solution : goal.returns-clause-solution
returns-clause-solution _ n made sides rows t a p f i q = solves_sides n sides rows a made t p f i q

pub returns-clause-nonnegative : goal.returns-clause-nonnegative
returns-clause-nonnegative _ n made sides rows t a p c = go (cases_lt c n)
  where
    go : (c < n) ⊎ (n ≤ c) → pos 0 ≤ℤ entry (basic_solution n t) c
    go (inl l) = rw (solution_entry n sides rows a made t p c l) (value_nonnegative n sides rows a made t p c)
    go (inr l) =
        let w = solution_columns n sides rows a made t p in
        rw (get_or_past (basic_solution n t) c (pos 0) (omega arith)) (omega (arith, ints))

pub returns-clause-grading : goal.returns-clause-grading
returns-clause-grading _ n made rows t w a p end = graded_grading n rows a made t w p end
