use Rattle.std.proofs.Common.{rules, ◌≡◌, ◌∷◌, [], sym, subst, Some}
use Rattle.atomic_table.specs.Table.{opening}
use Rattle.mk_turn.specs.Turns.{Standing, beginning}
use Rattle.mk_turn.proofs.Turning.{starts}
use Rattle.mk_turn.proofs.table.TurnTable.new.Goals as goal

pub new-requires : goal.new-requires
new-requires g c = let items : c.push.new.self.items ≡ Some c.args.value ∷ [] = search rules in
    let value : c.of.result.value ≡ c.args.value = search rules in let m = g.S.TurnState.meaning in
    subst (λ xs. Standing m c.args.seats (opening (0 ∷ c.args.length ∷ []) xs (beginning m c.of.result.value c.args.seats))) (sym items)
    (subst (λ x. Standing m c.args.seats (opening (0 ∷ c.args.length ∷ []) (Some c.args.value ∷ []) (beginning m x c.args.seats)))
    (sym value)
    (starts m g.S.TurnState.laws c.args.value c.args.length c.args.seats c.requires.seats c.requires.length c.requires.short c.requires.fresh))
