use Rattle.std.proofs.Common.{rules, ◌+◌, ◌∷◌, ap, sym, ◌∙◌, Some}
use Rattle.atomic_table.specs.Table.{rest}
use Rattle.mk_turn.proofs.Turning.{tries}
use Rattle.mk_turn.proofs.table.TurnTable.try_take.Goals as goal

pub compare_exchange-found-requires : goal.compare_exchange-found-requires
compare_exchange-found-requires g c = (
  search rules,
  search rules,
  tries g.S.TurnState.meaning g.S.TurnState.laws _ _ _ _ _ c.args.seat.now.awake c.requires.free (ap (λ n. n + 1) c.args.seat.now.numbered),
)

pub exchange-requires : goal.exchange-requires
exchange-requires g c = let t = c.compare_exchange-found.ensures.2.hits (search rules) in
    (search rules, (Some t.value, ap (λ z. z.1) t.taken ∙ ap (λ cs. (0, Some t.value) ∷ rest cs) (sym (ap (λ z. z.1) t.taken))))
