use Rattle.std.proofs.Common.{◌≡◌, ◌⊎◌, inl, inr, min, max, ◌<◌, ◌≤◌, ◌↔◌, IsTrue, false, get_or, length, arith, rules, ap, sym, ◌∙◌, subst}
use Rattle.std.proofs.lemmas.Bool.{false≢true}
use Rattle.std.proofs.lemmas.List.{length-map}
use Rattle.mk_model.specs.Events.{AreSettled}
use Rattle.mk_move.specs.Moves.{Weighed}
use Rattle.mk_ledger.specs.PairFlags.{pair_number}
use Rattle.mk_ledger.specs.Ledgers.{LedgerView}
use Rattle.mk_ledger.specs.LedgerFields.{ledger_of}
use Rattle.mk_ledger.proofs.SettledPairs.{either_tells, none_beyond}
use Rattle.mk_ledger.proofs.ledger.Ledger.is_settled.Goals as goal
use Rattle.mk_ledger.proofs.ledger.Ledger.is_settled.Goals.{then-low-high-via-then-low-high, then-low-high-via-else-low-high+then-high-len}

pub returns-then-low-high : goal.returns-then-low-high
returns-then-low-high c =
    let state = (ledger_of c.self.inside).state in
    let low : c.min-low.result ≡ min c.args.i c.args.j = search rules in
    let high : c.max-high.result ≡ max c.args.i c.args.j = search rules in
    let beyond : (min c.args.i c.args.j ≡ max c.args.i c.args.j) ⊎ (length state.basis ≤ max c.args.i c.args.j) =
    elim c.then-low-high.branch [
      | then-low-high-via-then-low-high w ↦ inl (sym low ∙ w.if-low-high.true ∙ high)
      | then-low-high-via-else-low-high+then-high-len w ↦
          inr (omega (
            arith,
            w.if-high-len.true,
            high,
            w.len.ensures.value,
            length-map c.self.inside.basis.moves
                (λ (m : Weighed). m.entries),
          ))
    ] in (
      (λ e. absurd (false≢true e)),
      (λ s. absurd (none_beyond c.self.invariant.ledger.legal c.args.i c.args.j beyond
          (subst (λ (l : LedgerView). AreSettled l.state.journal c.args.i c.args.j) (sym c.self.view_is) s))),
    )

pub returns : goal.returns
returns c =
    let state = (ledger_of c.self.inside).state in
    let low : c.min-low.result ≡ min c.args.i c.args.j = search rules in
    let high : c.max-high.result ≡ max c.args.i c.args.j = search rules in
    let within : max c.args.i c.args.j < length state.basis =
    omega (arith, c.if-high-len.false, high, c.len.ensures.value, length-map c.self.inside.basis.moves (λ (m : Weighed). m.entries)) in
    let tells = either_tells c.self.invariant.ledger.legal c.self.invariant.flagged c.args.i c.args.j (λ e. c.if-low-high.false (low ∙ e
    ∙ sym high)) within in
    let number = ap (λ k. pair_number k c.max-high.result) low ∙ ap (pair_number (min c.args.i c.args.j)) high in
    subst (λ (l : LedgerView). IsTrue c.is_settled.result ↔ AreSettled l.state.journal c.args.i c.args.j) c.self.view_is
    (subst (λ b. IsTrue b ↔ AreSettled state.journal c.args.i c.args.j) (sym (c.is_settled.ensures
    ∙ ap (λ n. get_or c.self.inside.settled.flags n false) number)) tells)
