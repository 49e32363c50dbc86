-- Journals that replay: one more entry at the end, and what holds by longer lists of moves.
use Rattle.std.proofs.Common.{◌≡◌, ◌⊎◌, inl, inr, ℕ, ◌≤◌, ◌<◌, List, [], ◌∷◌, ◌++◌, length, ℤ, arith, ap, refl, sym, ◌∙◌, subst, ⊎_elim}
use Rattle.std.proofs.Common.{append_assoc, length-append}
use Rattle.std.proofs.lemmas.List.{append-nil, get_or_append_left}
use Rattle.std.proofs.lemmas.List.Elements.{Contains-append_left, Contains-push_cases}
use Rattle.mk_model.specs.CoreStates.{Pair, Way, Settle, OverflowStop, move_at, difference, IsPairOf, IsSettled}
use Rattle.mk_model.specs.CoreStates.Way.{Coprime, Chain, Zero, Place}
use Rattle.mk_model.specs.Overflows.{IsGenuineOverflow}
use Rattle.mk_model.specs.Events.{IsSettledBy, IsPairOverflow}
use Rattle.mk_model.specs.Legal.{IsNext, Replays}
use Rattle.mk_model.proofs.Reducts.{Reduct-append}

pub settled_more : (journal more : List Settle) (pair : Pair) → IsSettled journal pair → IsSettled (journal ++ more) pair
settled_more journal more pair (entry, h, e) = (entry, Contains-append_left journal more entry h, e)

pub settled_cases : (journal : List Settle) (entry : Settle) (pair : Pair) → IsSettled (journal ++ entry ∷ []) pair → IsSettled journal pair
    ⊎ (entry.pair ≡ pair)
settled_cases journal entry pair (other, h, e) =
    ⊎_elim (λ k. inl (other, k, e)) (λ f. inr (ap (λ (s : Settle). s.pair) f ∙ e)) (Contains-push_cases journal entry other h)

-- a replay goes on by one entry
pub replay_push : (n : ℕ) (priority : List ℕ) (limit : ℕ) (earlier : List Settle) (moves : List (List ℤ)) (journal : List Settle)
    (basis : List (List ℤ)) (entry : Settle) (after : List (List ℤ)) →
    Replays n priority limit earlier moves journal basis → IsNext n priority limit (earlier ++ journal) basis entry after →
    Replays n priority limit earlier moves (journal ++ entry ∷ []) after
replay_push n priority limit earlier moves [] basis entry after e h = (
  after,
  subst (λ m. IsNext n priority limit earlier m entry after) e
      (subst (λ l. IsNext n priority limit l basis entry after) (append-nil earlier) h),
  refl,
)
replay_push n priority limit earlier moves (first ∷ journal) basis entry after (middle, g, r) h =
    (middle, g, replay_push n priority limit (earlier ++ first ∷ []) middle journal basis entry after r (rw append_assoc h))

-- ---- longer lists of moves
pub IsPairOf-append : (moves more : List (List ℤ)) (pair : Pair) → IsPairOf moves pair → IsPairOf (moves ++ more) pair
IsPairOf-append moves more pair h = record { ordered = h.ordered; within = omega (arith, h.within, length-append moves more) }

pub move_at-append : (moves more : List (List ℤ)) (i : ℕ) → i < length moves → move_at (moves ++ more) i ≡ move_at moves i
move_at-append moves more i l = get_or_append_left moves more [] i l

pub first_at-append : (moves more : List (List ℤ)) (pair : Pair) → IsPairOf moves pair →
    move_at (moves ++ more) pair.first ≡ move_at moves pair.first
first_at-append moves more pair h = move_at-append moves more pair.first (omega (arith, h.ordered, h.within))

pub second_at-append : (moves more : List (List ℤ)) (pair : Pair) → IsPairOf moves pair →
    move_at (moves ++ more) pair.second ≡ move_at moves pair.second
second_at-append moves more pair h = move_at-append moves more pair.second h.within

pub difference-append : (moves more : List (List ℤ)) (pair : Pair) → IsPairOf moves pair →
    difference (moves ++ more) pair ≡ difference moves pair
difference-append moves more pair h = rw (first_at-append moves more pair h, second_at-append moves more pair h) refl

pub IsGenuineOverflow-append : (moves more : List (List ℤ)) (stop : OverflowStop) → IsPairOf moves stop.pair →
    IsGenuineOverflow moves stop → IsGenuineOverflow (moves ++ more) stop
IsGenuineOverflow-append moves more stop h (inl (e, d)) =
    inl (
      e,
      record {
        operand = d.operand;
        once = d.once;
        beyond = rw
            (first_at-append moves more stop.pair h, second_at-append moves more stop.pair h) d.beyond;
      },
    )
IsGenuineOverflow-append moves more stop h (inr (place, e, d)) =
    inr (
      place,
      e,
      record {
        within = omega (arith, d.within, length-append moves more);
        from = d.from;
        operand = d.operand;
        reduct = rw (difference-append moves more stop.pair h) (Reduct-append moves more (difference moves stop.pair) d.from d.reduct);
        step = rw (move_at-append moves more place d.within) d.step;
        beyond = rw (move_at-append moves more place d.within) d.beyond;
      },
    )

pub IsPairOverflow-append : (moves more : List (List ℤ)) (stop : OverflowStop) → IsPairOf moves stop.pair → IsPairOverflow moves stop →
    IsPairOverflow (moves ++ more) stop
IsPairOverflow-append moves more stop h (genuine, common) = (
  IsGenuineOverflow-append moves more stop h genuine,
  rw (
    first_at-append moves more stop.pair h,
    second_at-append moves more stop.pair h,
  ) common,
)

-- ---- what settling a pair makes of the moves
pub record Grows (limit : ℕ) (moves after : List (List ℤ)) : Type 0 where
  pub more : List (List ℤ)
  pub longer : after ≡ moves ++ more
  pub within : length moves ≤ limit → length after ≤ limit
  pub stays : length moves ≡ limit → after ≡ moves

pub moves_grow : (n : ℕ) (priority : List ℕ) (limit : ℕ) (moves : List (List ℤ)) (journal : List Settle) (pair : Pair) (way : Way)
    (after : List (List ℤ)) →
    IsSettledBy n priority limit moves journal pair way after → Grows limit moves after
moves_grow n priority limit moves journal pair way after h = go way h
  where
    same : after ≡ moves → Grows limit moves after
    same e = record { more = []; longer = e ∙ sym (append-nil moves); within = λ l. omega (arith, ap length e); stays = λ f. e }

    go : (way : Way) → IsSettledBy n priority limit moves journal pair way after → Grows limit moves after
    go Coprime (d, e) = same e
    go (Chain third) (d, e) = same e
    go Zero (d, e) = same e
    go (Place place) (move, d, e) = record {
      more = move ∷ [];
      longer = e;
      within = λ l. omega (arith, d.room, ap length e, length-append moves (move ∷ []));
      stays = λ f. absurd (omega (arith, d.room));
    }
