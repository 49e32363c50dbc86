-- The first moves of a reduced basis, up to a place at which the weight rises: they are the lower moves of that weight.
use Rattle.std.proofs.Common.{◌≡◌, ◌⊎◌, inl, inr, ℕ, ◌+◌, ◌≤◌, ◌<◌, ◌^◌, List, [], ◌∷◌, ◌++◌, length, take, get_or, slice_get, Some, ℤ, ◌<ℤ◌, All, Contains, arith, ap, sym, ◌∙◌, subst}
use Rattle.std.proofs.lemmas.Bool.{cases_lt}
use Rattle.std.proofs.lemmas.Int.{ints}
use Rattle.std.proofs.lemmas.List.{get_or_default, get_or-take, length-take, take-map, take_more, map-append}
use Rattle.std.proofs.lemmas.List.Elements.{All-take, Contains-get_or}
use Rattle.std.proofs.lemmas.Option.{get_or_from_slice_get, slice_get_within}
use Rattle.mk_model.specs.CoreStates.{move_at}
use Rattle.mk_model.specs.Lattices.{HasGrading}
use Rattle.mk_model.specs.Orders.{lead}
use Rattle.mk_model.specs.Pairs.{AreDisjoint}
use Rattle.mk_model.specs.Reductions.{lcm}
use Rattle.mk_model.specs.Vectors.{weight}
use Rattle.mk_move.specs.Moves.{Weighed}
use Rattle.mk_move.specs.MoveLists.{lattice_spanned, BasisView, BelongsTo, IsBasis, vectors_of}
use Rattle.mk_move.proofs.MoveVectors.{length-vectors_of}
use Rattle.mk_reduce.specs.Leads.{leads_of}
use Rattle.mk_reduce.proofs.LeadLists.{length-leads_of}
use Rattle.mk_inter.specs.Tails.{IsReducedList}
use Rattle.mk_inter.proofs.Bases.{grading_of}
use Rattle.mk_inter.proofs.FoundLeads.{leads_columns}
use Rattle.mk_minimise.specs.declared.overlaps.Overlap.{Overlap}
use Rattle.mk_minimise.specs.Links.{AreLower}
use Rattle.mk_minimise.specs.Overlaps.{IsOverlap}
use Rattle.mk_minimise.specs.Stages.{weight_at, IsWeightCut, IsFront}
use Rattle.mk_minimise.proofs.RunsOfWeight.{weights_rise}

-- ---- the moves put one after another
pub record IsRaising (basis : BasisView) (place : ℕ) (moves : BasisView) (leads : List (List ℤ)) : Type 0 where
  pub moves_are : moves.moves ≡ take place basis.moves
  pub priority : moves.priority ≡ basis.priority
  pub grading : moves.grading ≡ basis.grading
  pub leads_are : leads ≡ leads_of moves.moves

pub raising_begins : (basis lower : BasisView) (leads : List (List ℤ)) → IsFront basis lower → leads ≡ leads_of lower.moves → IsRaising basis (length lower.moves) lower leads
raising_begins basis lower leads front e = record { moves_are = front.moves; priority = front.priority; grading = front.grading; leads_are = e }

module _ (basis : BasisView) (place : ℕ) (moves : BasisView) (leads : List (List ℤ)) (raising : IsRaising basis place moves leads) where
  pub raising_more : (m : Weighed) (after : BasisView) (leads_after : List (List ℤ)) → slice_get basis.moves place ≡ Some m → after ≡ record moves { moves = moves.moves ++ m ∷ [] } → leads_after ≡ leads ++ lead m.entries ∷ [] →
      IsRaising basis (place + 1) after leads_after
  raising_more m after leads_after at e f = record {
    moves_are = now ∙ ap (λ xs. xs ++ m ∷ []) raising.moves_are ∙ sym more;
    priority = ap (λ (b : BasisView). b.priority) e ∙ raising.priority;
    grading = ap (λ (b : BasisView). b.grading) e ∙ raising.grading;
    leads_are = f ∙ ap (λ xs. xs ++ lead m.entries ∷ []) raising.leads_are ∙ sym (map-append (λ (m : Weighed). lead m.entries) moves.moves (m ∷ [])) ∙ ap leads_of (sym now);
  }
    where
      now : after.moves ≡ moves.moves ++ m ∷ []
      now = ap (λ (b : BasisView). b.moves) e

      more : take (place + 1) basis.moves ≡ take place basis.moves ++ m ∷ []
      more = take_more basis.moves place m (slice_get_within basis.moves place m at) ∙ ap (λ x. take place basis.moves ++ x ∷ []) (get_or_from_slice_get basis.moves place m m at)

  pub raising_columns : IsBasis basis → (m : Weighed) → BelongsTo basis.priority basis.grading m → All (λ x. length x ≡ length m.entries) leads
  raising_columns h m b =
      subst (All (λ x. length x ≡ length m.entries)) (sym (raising.leads_are ∙ ap leads_of raising.moves_are))
      (leads_columns basis.priority basis.grading (take place basis.moves) m (All-take (BelongsTo basis.priority basis.grading) place basis.moves h.moves) b.columns)

  pub raising_room : IsBasis basis → place < length basis.moves → length leads + 1 < 2 ^ 32
  raising_room h l =
      omega (arith, h.few, l, ap length raising.leads_are, length-leads_of moves.moves, ap length raising.moves_are, length-take place basis.moves)

  pub raising_count : place ≤ length basis.moves → length moves.moves ≡ place
  raising_count l = omega (arith, l, ap length raising.moves_are, length-take place basis.moves)

  pub raising_ends : place ≤ length basis.moves → IsWeightCut basis place → IsFront basis moves
  raising_ends l cut =
      let count = raising_count l in
      record {
        moves = raising.moves_are ∙ ap (λ k. take k basis.moves) (sym count);
        priority = raising.priority;
        grading = raising.grading;
        cut = subst (IsWeightCut basis) (sym count) cut;
      }

-- ---- the lower moves
module _ (basis : BasisView) (h : IsReducedList basis) where
  pub list_grading : HasGrading (lattice_spanned basis)
  list_grading = grading_of basis.priority basis.grading basis.moves h.kept.grading h.kept.columns h.kept.moves

  pub member_at : (k : ℕ) → k < length basis.moves → Contains (vectors_of basis.moves) (move_at (vectors_of basis.moves) k)
  member_at k l = Contains-get_or (vectors_of basis.moves) k [] (omega (arith, l, length-vectors_of basis.moves))

  module _ (lower : BasisView) (front : IsFront basis lower) (more : length lower.moves < length basis.moves) where
    abbrev count : ℕ
    count = length lower.moves

    abbrev rows : List (List ℤ)
    rows = vectors_of basis.moves

    pub vectors_are : vectors_of lower.moves ≡ take count rows
    vectors_are = ap vectors_of front.moves ∙ sym (take-map (λ (m : Weighed). m.entries) count basis.moves)

    lower_at : (k : ℕ) → k < count → move_at (vectors_of lower.moves) k ≡ move_at rows k
    lower_at k l = ap (λ xs. get_or xs k []) vectors_are ∙ get_or-take count rows k [] l

    lower_has : (k : ℕ) → k < count → Contains (vectors_of lower.moves) (move_at rows k)
    lower_has k l = subst (Contains (vectors_of lower.moves)) (lower_at k l) (Contains-get_or (vectors_of lower.moves) k [] (omega (arith, l, length-vectors_of lower.moves)))

    -- the place of a lower move
    lower_place : (m : List ℤ) → Contains (vectors_of lower.moves) m → (k : ℕ) × (k < count) × (move_at rows k ≡ m)
    lower_place m (k, l, e) =
        let within : k < count = omega (arith, l, length-vectors_of lower.moves) in
        (k, within, sym (lower_at k within) ∙ get_or_default (vectors_of lower.moves) k [] m l ∙ e)

    pub lower_part : AreLower basis.grading rows (weight_at basis count) (vectors_of lower.moves)
    lower_part = record {
      member = λ m c. let (k, l, e) = lower_place m c in subst (Contains rows) e (member_at k (omega (arith, l, more)));
      lighter = λ m c. let (k, l, e) = lower_place m c in omega (arith, ints, front.cut k count l (omega arith) more, ap (λ x. weight basis.grading (lead x)) e);
      every = every;
    }
      where
        every : (m : List ℤ) → Contains rows m → weight basis.grading (lead m) <ℤ weight_at basis count → Contains (vectors_of lower.moves) m
        every m (k, l, e) light = go (cases_lt k count)
          where
            same : move_at rows k ≡ m
            same = get_or_default rows k [] m l ∙ e

            go : (k < count) ⊎ (count ≤ k) → Contains (vectors_of lower.moves) m
            go (inl s) = subst (Contains (vectors_of lower.moves)) same (lower_has k s)
            go (inr s) = absurd (omega (arith, ints, light, weights_rise basis h count k s (omega (arith, l, length-vectors_of basis.moves)), ap (λ x. weight basis.grading (lead x)) same))

    -- ---- a pair of the lower moves is one of the basis
    module _ (bound : ℤ) (pair : Overlap) (o : IsOverlap basis.grading (vectors_of lower.moves) bound pair) where
      second_lower : pair.second < count
      second_lower = omega (arith, o.within, length-vectors_of lower.moves)

      pub overlap_of_basis : IsOverlap basis.grading rows bound pair
      overlap_of_basis = record {
        ordered = o.ordered;
        within = omega (arith, second_lower, more, length-vectors_of basis.moves);
        overlap = λ d. o.overlap (subst (λ x. AreDisjoint (lead x) (lead (move_at (vectors_of lower.moves) pair.second))) (sym first_same)
            (subst (λ x. AreDisjoint (lead (move_at rows pair.first)) (lead x)) (sym second_same) d));
        weighs =
            ap (λ x. weight basis.grading (lcm (lead x) (lead (move_at rows pair.second)))) (sym first_same)
            ∙ ap (λ x. weight basis.grading (lcm (lead (move_at (vectors_of lower.moves) pair.first)) (lead x))) (sym second_same) ∙ o.weighs;
      }
        where
          first_same : move_at (vectors_of lower.moves) pair.first ≡ move_at rows pair.first
          first_same = lower_at pair.first (omega (arith, o.ordered, second_lower))

          second_same : move_at (vectors_of lower.moves) pair.second ≡ move_at rows pair.second
          second_same = lower_at pair.second second_lower
