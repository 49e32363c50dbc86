use Rattle.std.proofs.Common.{◌≡◌, sym, ◌∙◌, subst, Some}
use Rattle.std.proofs.lemmas.Option.{same_Some}
use mathlib.Core.Option.{some-injective}
use Rattle.mk_turn.specs.Turns.{Closes}
use Rattle.mk_turn.proofs.Turning.{closes}
use Rattle.mk_turn.proofs.table.TurnTable.close.Goals as goal

pub unreachable-requires : goal.unreachable-requires
unreachable-requires g c = let t =
    closes g.S.TurnState.meaning g.S.TurnState.laws _ _ _ _ _ c.args.seat.awake c.requires.first c.requires.away c.requires.joined c.close_with-closed.ensures.values.2 in
    c.in_default.not-Some t.0 (some-injective c.take-last.result (Some t.0) (sym c.take-last.ensures.value ∙ t.1))

pub returns : goal.returns
returns g c = let t = closes g.S.TurnState.meaning g.S.TurnState.laws _ _ _ _ _ c.args.seat.awake c.requires.first c.requires.away c.requires.joined c.close_with-closed.ensures.values.2 in
    let is : c.take-last.result ≡ Some t.0 = some-injective c.take-last.result (Some t.0) (sym c.take-last.ensures.value ∙ t.1) in
    subst (λ x. Closes g.S.TurnState.meaning x c.args.seat.seat.me.0) (same_Some t.0 c.in-Some.value (sym is ∙ c.in-Some.is)) t.2
