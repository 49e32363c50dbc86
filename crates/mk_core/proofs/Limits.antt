-- A legal state stays legal with a greater limit of moves.
use Rattle.std.proofs.Common.{ℕ, ◌≤◌, List, [], ◌∷◌, ◌++◌, ℤ, arith}
use Rattle.std.proofs.lemmas.Option.{none-some}
use Rattle.mk_model.specs.CoreStates.{Pair, Way, Settle, phase_state}
use Rattle.mk_model.specs.CoreStates.Way.{Coprime, Chain, Zero, Place}
use Rattle.mk_model.specs.Events.{IsSettledBy}
use Rattle.mk_model.specs.Legal.{IsNext, Replays, IsLegal}

settled_by_raised : (n : ℕ) (p : List ℕ) (limit more : ℕ) → limit ≤ more → (moves : List (List ℤ)) (journal : List Settle) (pair : Pair) (way : Way) (after : List (List ℤ)) →
    IsSettledBy n p limit moves journal pair way after → IsSettledBy n p more moves journal pair way after
settled_by_raised n p limit more l moves journal pair Coprime after h = h
settled_by_raised n p limit more l moves journal pair (Chain third) after h = h
settled_by_raised n p limit more l moves journal pair Zero after h = h
settled_by_raised n p limit more l moves journal pair (Place place) after (move, h, e) =
    (move, record { at_end = h.at_end; room = omega (arith, h.room); oriented = h.oriented; normal_reduct = h.normal_reduct; sign = h.sign }, e)

next_raised : (n : ℕ) (p : List ℕ) (limit more : ℕ) → limit ≤ more → (earlier : List Settle) (moves : List (List ℤ)) (entry : Settle) (after : List (List ℤ)) →
    IsNext n p limit earlier moves entry after → IsNext n p more earlier moves entry after
next_raised n p limit more l earlier moves entry after h = record {
  of_moves = h.of_moves;
  unsettled = h.unsettled;
  settled = settled_by_raised n p limit more l moves earlier entry.pair entry.way after h.settled;
}

pub replays_raised : (n : ℕ) (p : List ℕ) (limit more : ℕ) → limit ≤ more → (earlier : List Settle) (moves : List (List ℤ)) (journal : List Settle) (basis : List (List ℤ)) →
    Replays n p limit earlier moves journal basis → Replays n p more earlier moves journal basis
replays_raised n p limit more l earlier moves [] basis h = h
replays_raised n p limit more l earlier moves (entry ∷ journal) basis (after, h, rest) =
    (after, next_raised n p limit more l earlier moves entry after h, replays_raised n p limit more l (earlier ++ entry ∷ []) after journal basis rest)

pub legal_raised : (n : ℕ) (p : List ℕ) (start_length : ℕ) (basis : List (List ℤ)) (journal : List Settle) (budget limit more : ℕ) → limit ≤ more →
    IsLegal n p (phase_state start_length basis journal budget limit) → IsLegal n p (phase_state start_length basis journal budget more)
legal_raised n p start_length basis journal budget limit more l legal = record {
  start_within = legal.start_within;
  replays = replays_raised n p limit more l [] _ journal basis legal.replays;
  basis_within = omega (arith, legal.basis_within);
  claims_by_workers = legal.claims_by_workers;
  claims_unsettled = legal.claims_unsettled;
  claims_differ = legal.claims_differ;
  claims_counted = legal.claims_counted;
  claims_within = legal.claims_within;
  halts_by_workers = legal.halts_by_workers;
  halted_without_claim = legal.halted_without_claim;
  halts_kept = λ worker halt e. absurd (none-some halt e);
  first_halted = legal.first_halted;
}
