-- The lead at a place of a list of moves.
use Rattle.std.proofs.Common.{◌≡◌, ℕ, List, length, Some, slice_get, All, ap, ◌∙◌, ℤ, subst}
use Rattle.std.proofs.lemmas.Option.{slice_get-map, get_or_from_slice_get, slice_get_within}
use Rattle.std.proofs.lemmas.List.{length-map}
use Rattle.std.specs.Option.{option_map}
use Rattle.mk_model.specs.Orders.{lead}
use Rattle.mk_move.specs.Moves.{Weighed}
use Rattle.mk_reduce.specs.Leads.{leads_of}

pub lead_at : (moves : List Weighed) (k : ℕ) (m : Weighed) → slice_get moves k ≡ Some m → slice_get (leads_of moves) k ≡ Some (lead m.entries)
lead_at moves k m h = slice_get-map (λ (m : Weighed). lead m.entries) moves k ∙ ap (option_map (λ (m : Weighed). lead m.entries)) h

pub length-leads_of : (moves : List Weighed) → length (leads_of moves) ≡ length moves
length-leads_of moves = length-map moves (λ m. lead m.entries)

-- what holds of each lead
pub all_leads : (P : List ℤ → Type 0) (moves : List Weighed) (k : ℕ) (m : Weighed) → All P (leads_of moves) → slice_get moves k ≡ Some m → P (lead m.entries)
all_leads P moves k m h e =
    let at = get_or_from_slice_get (leads_of moves) k (lead m.entries) (lead m.entries) (lead_at moves k m e) in
    subst P at (h k (lead m.entries) (slice_get_within (leads_of moves) k (lead m.entries) (lead_at moves k m e)))
