use Rattle.std.proofs.Common.{rules, ◌≡◌, ◌≤◌, ◌^◌, ◌+◌, ◌-◌, min, ap, sym, ◌∙◌, subst, Some, ◌∷◌, ◌<◌}
use Rattle.atomic_table.specs.Table.{rest}
use Rattle.mk_turn.specs.Meanings.{Follows}
use Rattle.mk_turn.specs.Turns.{in_hand, one_if, Gave}
use Rattle.mk_turn.proofs.Turning.{gives_back, gave_same}
use Rattle.mk_turn.proofs.table.TurnTable.give.Goals as goal

pub store-requires : goal.store-requires
store-requires g c = let t = c.requires.turn in let swapped = c.exchange-vacant.ensures.3 in let view = ap (λ z. z.0) swapped in
    let hand = c.args.seat.now.hand ∙ ap in_hand t.taken in let carried = ap (λ z. z.1) swapped
    ∙ ap (λ cs. (0, Some c.args.value) ∷ rest cs) hand in (
      search rules,
      search rules,
      gives_back g.S.TurnState.meaning g.S.TurnState.laws _ _ _ _ t.value c.args.value (ap (λ v. v.spent) view ∙ c.args.seat.now.awake)
          (ap (λ v. v.taken) view ∙ t.taken) carried
          (subst (λ n. Follows g.S.TurnState.meaning n t.value c.args.value) (ap (λ v. v.number) (sym view)) t.follows)
          (subst (λ b. g.S.TurnState.meaning.len c.args.value ≡ g.S.TurnState.meaning.len t.value + one_if b)
          (ap (λ v. v.raised) (sym view)) t.published),
    )

pub invariant_of-seat : goal.invariant_of-seat
invariant_of-seat g c = let t = c.requires.turn in let swapped = c.exchange-vacant.ensures.3 in let view = ap (λ z. z.0) swapped in
    let hand = c.args.seat.now.hand ∙ ap in_hand t.taken in let carried = ap (λ z. z.1) swapped
    ∙ ap (λ cs. (0, Some c.args.value) ∷ rest cs) hand in
    let gave = c.store.ensures.2 t.value c.args.value (ap (λ v. v.taken) view ∙ t.taken) carried in
    let same = gave_same g.S.TurnState.meaning g.S.TurnState.laws 0 _ _ _ _ gave.0 in let old = c.args.seat.now in record {
      numbered = old.numbered ∙ sym (same.number ∙ ap (λ v. v.number) view);
      counted = old.counted ∙ sym (same.made ∙ ap (λ v. v.made) view);
      awake = same.awake ∙ (ap (λ v. v.spent) view ∙ old.awake);
      hand = gave.1 ∙ ap in_hand (sym gave.0.taken);
      missed = old.missed ∙ ap (λ n. min n (2 ^ 64 - 1)) (sym (same.misses ∙ ap (λ v. v.misses) view));
      room = subst (λ n. n < 2 ^ 32) (sym (same.seats ∙ ap (λ v. v.seats) view)) old.room;
      word = old.word ∙ sym (same.word ∙ ap (λ v. v.last_word) view);
      of_a_seat = subst (λ n. old.last_word ≤ n) (sym (same.seats ∙ ap (λ v. v.seats) view)) old.of_a_seat;
      of_another = old.of_another;
    }

pub returns-clause-view : goal.returns-clause-view
returns-clause-view g c x taken = let t = c.requires.turn in let swapped = c.exchange-vacant.ensures.3 in
    let view = ap (λ z. z.0) swapped in
    let hand = c.args.seat.now.hand ∙ ap in_hand t.taken in let carried = ap (λ z. z.1) swapped
    ∙ ap (λ cs. (0, Some c.args.value) ∷ rest cs) hand in
    subst (λ v. Gave g.S.TurnState.meaning v x c.args.value c.store.new.seat.me.0) view
    (c.store.ensures.2 x c.args.value (ap (λ v. v.taken) view ∙ taken) carried).0
