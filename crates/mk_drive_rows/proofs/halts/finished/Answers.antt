use Rattle.std.proofs.Common.{◌≡◌, ℕ, zero, suc, length, is_some, false, None, rules, arith, sym, ◌∙◌}
use Rattle.std.proofs.lemmas.List.{get_or_past}
use Rattle.mk_model.specs.CoreStates.{CoreState, claim_of}
use Rattle.mk_drive.proofs.Lines.{match_none}
use Rattle.mk_drive_rows.proofs.halts.finished.Goals as goal

-- of two workers the first has no claim, nor has the second
unclaimed_by_two : (state : CoreState) → length state.claims ≡ 2 → claim_of state 0 ≡ None → claim_of state 1 ≡ None → (worker : ℕ) → claim_of state worker ≡ None
unclaimed_by_two state two first second zero = first
unclaimed_by_two state two first second (suc zero) = second
unclaimed_by_two state two first second (suc (suc k)) = get_or_past state.claims (suc (suc k)) None (omega (arith, two))

pub finish_alone-requires : goal.finish_alone-requires
finish_alone-requires g c =
    let state = c.args.ledger.state in
    let two : c.workers.result ≡ 2 = search rules in
    let no_first : is_some c.claim_of.result ≡ false = grind (arith, rules) in
    let no_second : is_some c.claim_of-2.result ≡ false = grind (arith, rules) in
    record {
      unclaimed = unclaimed_by_two state (c.basis.ensures.kept.legal.claims_by_workers ∙ sym c.workers.ensures.value ∙ two)
          (match_none c.claim_of.result _ _ c.claim_of.ensures no_first) (match_none c.claim_of-2.result _ _ c.claim_of-2.ensures no_second);
    }
