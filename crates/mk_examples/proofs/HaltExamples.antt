-- A worker that claims a pair and halts.
use Rattle.std.proofs.Common.{◌≡◌, ◌⊎◌, inl, inr, ℕ, List, [], ◌∷◌, Option, None, Some, ℤ, pos, arith, ap, refl, sym, ◌∙◌}
use Rattle.std.proofs.lemmas.Int.{ints}
use Rattle.std.proofs.lemmas.Option.{none-some}
use Rattle.mk_model.specs.Vectors.{positive_part}
use Rattle.mk_model.specs.Orders.{standard}
use Rattle.mk_model.specs.CoreStates.{pair_of, new_state, Halt, CoreState}
use Rattle.mk_model.specs.CoreStates.Halt.{Overflow, Full, Memory}
use Rattle.mk_model.specs.Events.{HaveCommonColumn, with_claim, with_halt, first_of, HappenInTurn}
use Rattle.mk_model.specs.Events.Event.{Claims, Halts}
use Rattle.mk_examples.specs.Worked.{cubic_top, cubic_second, column_one, begun_state, narrow_state, far_moves, far_state, difference_stop, IsHalted}
use Rattle.mk_examples.proofs.EventExamples.{first_claim}
use Rattle.mk_examples.proofs.JournalExamples.{difference_is_normal}
use Rattle.mk_examples.proofs.OverflowExamples.{in_difference}

abbrev claimed : List ℤ → List ℤ → ℕ → CoreState
claimed m v limit = with_claim (new_state (m ∷ v ∷ []) 3 limit 2) 0 (pair_of 0 1)

halted : (m v : List ℤ) (limit : ℕ) (halt : Halt) → IsHalted (with_halt (claimed m v limit) 0 halt) halt
halted m v limit halt = record { none_claimed = refl; given_up = refl; kept = refl; first = refl }

pub memory : (after : CoreState) × HappenInTurn 4 column_one begun_state (Claims 0 ∷ Halts 0 Memory ∷ []) after × IsHalted after Memory
memory = (
  with_halt (claimed cubic_top cubic_second 3) 0 Memory,
  (
    claimed cubic_top cubic_second 3,
    first_claim cubic_top cubic_second 3,
    (
      with_halt (claimed cubic_top cubic_second 3) 0 Memory,
      record {
        worker_within = omega arith;
        no_halt = refl;
        cause = tt;
        changed = refl;
      },
      refl,
    ),
  ),
  halted cubic_top cubic_second 3 Memory,
)

pub full : (after : CoreState) × HappenInTurn 4 column_one narrow_state (Claims 0 ∷ Halts 0 (Full (pair_of 0 1)) ∷ []) after
    × IsHalted after (Full (pair_of 0 1))
full = (
  with_halt (claimed cubic_top cubic_second 2) 0 (Full (pair_of 0 1)),
  (
    claimed cubic_top cubic_second 2,
    first_claim cubic_top cubic_second 2,
    (
      with_halt (claimed cubic_top cubic_second 2) 0 (Full (pair_of 0 1)),
      record { worker_within = omega arith; no_halt = refl; cause = (refl, (refl, difference_is_normal)); changed = refl },
      refl,
    ),
  ),
  halted cubic_top cubic_second 2 (Full (pair_of 0 1)),
)

in_common : HaveCommonColumn far_moves (pair_of 0 1)
unfolding positive_part
in_common disjoint = go (disjoint 1)
  where
    go : (pos 3 ≡ pos 0) ⊎ (pos 1 ≡ pos 0) → ⊥
    go (inl e) = omega (arith, ints, e)
    go (inr e) = omega (arith, ints, e)

pub overflow : (after : CoreState) × HappenInTurn 3 (standard 3) far_state (Claims 0 ∷ Halts 0 (Overflow difference_stop) ∷ []) after
    × IsHalted after (Overflow difference_stop)
overflow = (
  with_halt (with_claim far_state 0 (pair_of 0 1)) 0 (Overflow difference_stop),
  (
    with_claim far_state 0 (pair_of 0 1),
    first_claim _ _ 3,
    (
      with_halt (with_claim far_state 0 (pair_of 0 1)) 0 (Overflow difference_stop),
      record { worker_within = omega arith; no_halt = refl; cause = (refl, (in_difference, in_common)); changed = refl },
      refl,
    ),
  ),
  halted _ _ 3 (Overflow difference_stop),
)

some_first : (earlier : Option ℕ) → first_of earlier 0 ≡ None → ⊥
some_first None e = none-some 0 (sym e)
some_first (Some worker) e = none-some worker (sym e)

pub no_claim : (worker : ℕ) (after : CoreState) → ¬ (HappenInTurn 4 column_one begun_state
    (Claims 0 ∷ Halts 0 Memory ∷ Claims worker ∷ []) after)
no_claim worker after (s, claim, (t, halting, (u, again, e))) = some_first s.first_halted
    (sym (ap (λ (state : CoreState). state.first_halted) halting.changed) ∙ again.no_halt)
