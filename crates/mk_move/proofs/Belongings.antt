-- Moves that belong to a priority list and a grading: those that are read from rows, and what their leads are.
use Rattle.std.proofs.Common.{◌≡◌, ◌≢◌, inl, inr, ℕ, ◌<◌, List, length, Ok, Some, arith, ◌∙◌, ap, ℤ, pos, neg_ℤ}
use Rattle.std.proofs.lemmas.Int.{ints}
use Rattle.mk_model.specs.Vectors.{zeros, weight}
use Rattle.mk_model.specs.Orders.{lead, tail}
use Rattle.mk_model.proofs.VectorAlgebra.{columns, weight-negate, weight-zeros, weight-parts, entry_within_weight}
use Rattle.mk_model.proofs.OrderLaws.{IsBelow-decided}
use Rattle.mk_move.specs.Gradings.{AreWeights}
use Rattle.mk_move.specs.Priorities.{IsPriority}
use Rattle.mk_move.specs.Moves.{Weighed, IsRowOriented, ReadsRow}
use Rattle.mk_move.specs.MoveLists.{BelongsTo}
use Rattle.mk_move.proofs.Parts.{length-oriented}

-- a row and its negative have product 0 together
product_of_oriented : (row w : List ℤ) (p : List ℕ) (entries : List ℤ) → weight w row ≡ pos 0 → IsRowOriented row p entries → weight w entries ≡ pos 0
product_of_oriented row w p entries z h =
    elim h.turned.either [
      | inl e ↦ ap (weight w) e ∙ z
      | inr e ↦ ap (weight w) e ∙ weight-negate w row ∙ ap neg_ℤ z
    ]

-- a move that is read from a row belongs to the list and the grading that it is read with
pub BelongsTo-of_row : (row w : List ℤ) (p : List ℕ) (m : Weighed) → length row ≡ length p → ReadsRow row w p (Ok (Some m)) → BelongsTo p w m
BelongsTo-of_row row w p m same (z, h) = record {
  columns = length-oriented row p m.entries h.entries ∙ same;
  graded = record { product = product_of_oriented row w p m.entries z h.entries; weight = h.weight };
  oriented = h.entries.turned.oriented;
}

-- the lead of a move that belongs to a list and a grading isn't zero
pub BelongsTo-lead : (p : List ℕ) (w : List ℤ) (m : Weighed) → IsPriority p → AreWeights w → length p ≡ length w → BelongsTo p w m → lead m.entries ≢ zeros (length m.entries)
BelongsTo-lead p w m list weights same h z =
    let (c, l, decides) = IsBelow-decided (λ c. c < length p) p (tail m.entries) (lead m.entries) list.within h.oriented in
    let of_lead : weight w (lead m.entries) ≡ pos 0 = ap (weight w) z ∙ weight-zeros w (length m.entries) in
    let within = entry_within_weight w (tail m.entries) c (λ c k. (weights.each c (pos 0) k).0) (λ c. omega (arith, ints, columns)) (omega arith) in
    omega (arith, ints, columns, within, of_lead, weight-parts w m.entries, h.graded.product, decides)
