-- The first seat gathers the others, one after another.
use Rattle.std.proofs.Common.{◌≡◌, false, ⊎_elim, ℕ, ◌≤◌, List, [], ◌∷◌, length, Some, Err, arith, ap, refl, sym, ◌∙◌, subst}
use Rattle.std.proofs.lemmas.Bool.{cases_eq}
use lib.ListN.{get_elem?}
use Rattle.atomic_table.specs.Seated.{TableId}
use Rattle.atomic_table.proofs.Lists.{at_longer, at_last}
use Rattle.mk_model.specs.CoreStates.{Settle}
use Rattle.mk_turn.specs.Turns.{IsJoined, kept_of, joining, one_more, newcomer}
use Rattle.mk_core.specs.Jobs.{JobView}
use Rattle.mk_shared.specs.SharedSeats.{SeatView, Sight}
use Rattle.mk_shared.specs.SharedAnswers.{AnswersSplit, IsFirstSeat}
use Rattle.mk_shared.specs.declared.answers.SplitFault.{SplitFault}
use Rattle.mk_shared.specs.declared.answers.SplitFault.TheVariants as split
use Rattle.mk_workers.specs.Stages.{HasWorked}
use Rattle.mk_workers.specs.Gatherings.{HasGathered}

-- who was joined stays so, and another one is joined
still_joined : (v w : Sight) (number : ℕ) → IsJoined v number → IsJoined (joining v w) number
still_joined v w number j = record { place = j.place; kept = j.kept; at = at_longer v.joined (kept_of w ∷ []) j.place j.kept j.at; number = j.number }

now_joined : (v w : Sight) → IsJoined (joining v w) w.number
now_joined v w = record { place = length v.joined; kept = kept_of w; at = at_last v.joined (kept_of w) (length v.joined) refl; number = refl }

-- the first seat is as before where none was made
pub not_split : (before : SeatView) (fault : SplitFault) (after : SeatView) → AnswersSplit before (Err fault) after → after ≡ before
not_split before split.Memory after h = h.1
not_split before (split.Seats made) after h = h.2

-- no other seat was made
pub gathers_none : (before after : SeatView) → HasWorked before after → HasGathered before after
gathers_none before after h = record {
  table = h.same.table;
  number = h.same.number;
  fixed = h.same.fixed;
  idle = h.done.idle;
  made = omega (arith, h.same.made);
  kept = λ number j. record { place = j.place; kept = j.kept; at = ap (λ joined. get_elem? joined j.place) h.same.joined ∙ j.at; number = j.number };
  joined = λ number l m. absurd (omega (arith, l, m, h.same.made));
}

-- One seat was made; those made after it are gathered, its worker is done, and it is joined.
pub gathers_one : (before split gathered other worked after : SeatView) →
    split ≡ record before { sight = one_more before.sight } → other ≡ record before { sight = newcomer before.sight; nothing_left = false; halted = false } →
    HasGathered split gathered → HasWorked other worked → after ≡ record gathered { sight = joining gathered.sight worked.sight } → HasGathered before after
gathers_one before split gathered other worked after e f g h k = subst (HasGathered before) (sym k) (record {
  table = g.table ∙ ap (λ (s : SeatView). s.table) e;
  number = g.number ∙ ap (λ (s : SeatView). s.sight.number) e;
  fixed = g.fixed ∙ ap (λ (s : SeatView). s.sight.fixed) e;
  idle = g.idle;
  made = omega (arith, g.made, ap (λ (s : SeatView). s.sight.made) e);
  kept = λ number j. still_joined gathered.sight worked.sight number (g.kept number (subst (λ (s : SeatView). IsJoined s.sight number) (sym e) (record { place = j.place; kept = j.kept; at = j.at; number = j.number })));
  joined = λ number l m. ⊎_elim
      (λ same. subst (IsJoined (joining gathered.sight worked.sight)) (h.same.number ∙ ap (λ (s : SeatView). s.sight.number) f ∙ sym same) (now_joined gathered.sight worked.sight))
      (λ apart. still_joined gathered.sight worked.sight number (g.joined number (later number l apart) m))
      (cases_eq number before.sight.made);
})
  where
    later : (number : ℕ) → before.sight.made ≤ number → (number ≡ before.sight.made → ⊥) → split.sight.made ≤ number
    later number l apart = omega (arith, l, apart, ap (λ (s : SeatView). s.sight.made) e)

-- the first seat still knows the job and the number of workers
pub same_outset : (job : JobView) (workers : ℕ) (table : TableId) (first after : SeatView) → IsFirstSeat job workers table first → HasGathered first after → after.sight.fixed ≡ Some (record { job = job; workers = workers })
same_outset job workers table first after f g = g.fixed ∙ f.outset
