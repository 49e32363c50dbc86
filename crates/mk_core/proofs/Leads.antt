-- The leads of the moves of a basis, one after another.
use Rattle.std.proofs.Common.{◌≡◌, ℕ, ◌+◌, List, [], ◌∷◌, ◌++◌, length, take, slice_get, Some, All, ap, sym, ◌∙◌, ℤ}
use Rattle.std.proofs.lemmas.List.{map_more, map_push}
use Rattle.std.proofs.lemmas.List.Elements.{All-map, All-take, All-weaker}
use Rattle.std.proofs.lemmas.Option.{get_or_from_slice_get, slice_get_within}
use Rattle.mk_model.specs.Orders.{lead}
use Rattle.mk_model.proofs.VectorAlgebra.{length-positive_part}
use Rattle.mk_move.specs.Moves.{Weighed}
use Rattle.mk_move.specs.MoveLists.{BasisView, BelongsTo, IsBasis}
use Rattle.mk_reduce.specs.Leads.{leads_of}

-- one move more
pub leads_more : (moves : List Weighed) (place : ℕ) (m : Weighed) → slice_get moves place ≡ Some m → leads_of (take (place + 1) moves) ≡ leads_of (take place moves) ++ lead m.entries ∷ []
leads_more moves place m e =
    map_more (λ (m : Weighed). lead m.entries) moves place m (slice_get_within moves place m e)
    ∙ ap (λ x. leads_of (take place moves) ++ lead x.entries ∷ []) (get_or_from_slice_get moves place m m e)

pub leads_push : (moves : List Weighed) (m : Weighed) → leads_of (moves ++ m ∷ []) ≡ leads_of moves ++ lead m.entries ∷ []
leads_push moves m = map_push (λ (m : Weighed). lead m.entries) moves m

-- the leads have as many columns as another move of the same list
pub leads_columns : (p : List ℕ) (w : List ℤ) (moves : List Weighed) (m : Weighed) → All (BelongsTo p w) moves → BelongsTo p w m → All (λ lead. length lead ≡ length m.entries) (leads_of moves)
leads_columns p w moves m all h =
    All-map (λ (lead : List ℤ). length lead ≡ length m.entries) (λ (m : Weighed). lead m.entries) moves
    (All-weaker (BelongsTo p w) (λ (x : Weighed). length (lead x.entries) ≡ length m.entries) (λ x b. length-positive_part x.entries ∙ b.columns ∙ sym h.columns) moves all)

pub first_leads_columns : (basis : BasisView) (place : ℕ) (m : Weighed) → IsBasis basis → BelongsTo basis.priority basis.grading m →
    All (λ lead. length lead ≡ length m.entries) (leads_of (take place basis.moves))
first_leads_columns basis place m kept h =
    leads_columns basis.priority basis.grading (take place basis.moves) m (All-take (BelongsTo basis.priority basis.grading) place basis.moves kept.moves) h
