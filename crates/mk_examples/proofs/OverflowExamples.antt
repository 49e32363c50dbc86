-- A difference, a step of reduction and a step on a tail with an entry out of range.
use Rattle.std.proofs.Common.{inl, inr, ℕ, zero, suc, ◌<◌, pos, neg_ℤ, ◌-ℤ◌, ◌*ℤ◌, arith, refl}
use Rattle.mk_model.specs.Vectors.{entry, combine, subtract, negate, scale, positive_part, negative_part, IsEntry}
use Rattle.mk_model.specs.Orders.{lead}
use Rattle.mk_model.specs.Reductions.{Divides, Reduct}
use Rattle.mk_model.specs.Reductions.Reaches.{here}
use Rattle.mk_model.specs.Saturation.{divides}
use Rattle.mk_model.specs.CoreStates.{pair_of, difference}
use Rattle.mk_model.specs.Overflows.{IsGenuineOverflow, IsTailOverflow}
use Rattle.mk_examples.specs.Worked.{far_moves, difference_stop, step_moves, step_from, step_taken, step_stop, like_first, tail_heavy, tail_moves, tail_stop}
use Rattle.mk_model.proofs.Divisors.{divides_true}

pub in_difference : IsGenuineOverflow far_moves difference_stop
in_difference = inl (
  refl,
  record {
    operand = refl;
    once = refl;
    beyond = record { left = refl; right = refl; beyond = inr (record { lt = tt }); lesser = λ c l. absurd (omega arith) };
  },
)

from_difference : Reduct step_moves (difference step_moves (pair_of 0 1)) step_from
unfolding combine subtract
from_difference = here

lead_divides_once : Divides (scale (pos 1) (lead step_taken)) (positive_part step_from)
unfolding combine subtract scale positive_part divides
lead_divides_once = divides_true (scale (pos 1) (lead step_taken)) (positive_part step_from) refl

lesser_column : (c : ℕ) → c < 1 → IsEntry (entry step_from c -ℤ (pos 1 *ℤ entry step_taken c))
lesser_column zero l = (record { le = tt }, record { le = tt })
lesser_column (suc c) l = absurd (omega arith)

pub in_step : IsGenuineOverflow step_moves step_stop
in_step = inr (
  2,
  refl,
  record {
    within = omega arith;
    from = step_from;
    operand = refl;
    reduct = from_difference;
    step = record { count = 1; some = omega arith; divides = inl (refl, lead_divides_once) };
    beyond = record { left = refl; right = refl; beyond = inr (record { lt = tt }); lesser = lesser_column };
  },
)

-- ---- on a tail
like_divides : Divides (scale (pos 1) (lead like_first)) (negative_part tail_heavy)
unfolding combine subtract scale positive_part negative_part negate divides
like_divides = divides_true (scale (pos 1) (lead like_first)) (negative_part tail_heavy) refl

lesser_columns : (c : ℕ) → c < 2 → IsEntry (entry tail_heavy c -ℤ (neg_ℤ (pos 1) *ℤ entry like_first c))
lesser_columns zero l = (record { le = tt }, record { le = tt })
lesser_columns (suc zero) l = (record { le = tt }, record { le = tt })
lesser_columns (suc (suc c)) l = absurd (omega arith)

pub in_tail_step : IsTailOverflow tail_moves 0 tail_stop
in_tail_step = record {
  of_list = omega arith;
  pair = refl;
  place = 1;
  by = refl;
  within = omega arith;
  from = tail_heavy;
  operand = refl;
  reached = here;
  count = 1;
  some = omega arith;
  times = refl;
  divides = like_divides;
  beyond = record { left = refl; right = refl; beyond = inl (record { lt = tt }); lesser = lesser_columns };
}
