-- The links of a weight, gathered from one pair after another.
use Rattle.std.proofs.Common.{◌≡◌, ◌⊎◌, inl, inr, ℕ, ◌<◌, List, [], ◌∷◌, ◌++◌, length, Option, None, Some, ℤ, pos, All, Contains, arith, ap, refl, sym, ◌∙◌, subst, ⊎_elim}
use Rattle.std.proofs.lemmas.Int.{ints}
use Rattle.std.proofs.lemmas.List.{map-append, get_or_default}
use Rattle.std.proofs.lemmas.List.Elements.{All-nil, All-push, All-weaker, All-contains, Contains-append_left, Contains-append_right, Contains-append_cases, Contains-push, Contains-get_or}
use Rattle.mk_model.specs.CoreStates.{move_at, pair_of, difference}
use Rattle.mk_model.specs.Lattices.{lattice_of, HasGrading}
use Rattle.mk_model.specs.Orders.{IsOriented, standard, lead}
use Rattle.mk_model.specs.Pairs.{AreOrientedMoves, JoinedBelow}
use Rattle.mk_model.specs.Reductions.{lcm, Reduct}
use Rattle.mk_model.specs.Reductions.Reaches.{here}
use Rattle.mk_model.specs.Vectors.{entry, zeros, subtract, negate, weight}
use Rattle.mk_model.proofs.Lists.{Contains-none}
use Rattle.mk_model.proofs.VectorAlgebra.{columns, positive_part-negate}
use Rattle.mk_model.proofs.OrderLaws.{IsOriented-not_zero}
use Rattle.mk_model.proofs.Divisors.{lcm-comm}
use Rattle.mk_model.proofs.Confluence.{JoinedBelow-same, JoinedBelow-swap}
use Rattle.mk_model.proofs.Reducts.{joined_below_weaker, joined_by_disjoint, reduct_weaker}
use Rattle.mk_move.specs.Moves.{Weighed}
use Rattle.mk_move.specs.MoveLists.{BasisView, BelongsTo, vectors_of}
use Rattle.mk_move.specs.declared.side.Side.TheVariants.{Plus, Minus}
use Rattle.mk_inter.specs.Tails.{IsReducedList}
use Rattle.mk_minimise.specs.declared.overlaps.Overlap.{Overlap}
use Rattle.mk_minimise.specs.Links.{AreLower, IsLink, AreLinks}
use Rattle.mk_minimise.specs.LinkSteps.{IsLeftOf, IsAddedLeft, IsAdded}
use Rattle.mk_minimise.specs.Overlaps.{overlap_at, IsOverlap, IsListed, AreOverlaps}
use Rattle.mk_reduce.specs.Remainders.{IsNormalRest, IsRemainder}
use Rattle.mk_minimise.specs.Stages.{weight_at, IsFront, TellsLeast}
use Rattle.mk_minimise.proofs.LinkLaws.{link_of_pair, link_negated}
use Rattle.mk_minimise.proofs.LeastLeads.{PairsJoined, both_oriented, lead_is_first, lead_steps_lighter}
use Rattle.mk_minimise.proofs.LinkChains.{something, steps_reduce, chain, links_more, pair_by_zero, pair_by_link}
use Rattle.mk_minimise.proofs.LowerFronts.{list_grading, lower_part}

-- the pair's moves are joined below, by lower moves and links
abbrev pub PairJoined : BasisView → BasisView → List Weighed → Overlap → Type 0
PairJoined basis lower links pair =
    JoinedBelow (length basis.grading) (standard (length basis.grading)) (vectors_of lower.moves ++ vectors_of links) (move_at (vectors_of lower.moves) pair.first) (move_at (vectors_of lower.moves) pair.second)

-- links of the weight that follows the lower moves, with these pairs joined below
pub record AreGathered (basis lower : BasisView) (pairs : List Overlap) (links : List Weighed) : Type 0 where
  pub belong : All (BelongsTo basis.priority basis.grading) links
  pub linked : AreLinks (length basis.grading) (vectors_of basis.moves) (vectors_of lower.moves) basis.grading (weight_at basis (length lower.moves)) (vectors_of links)
  pub joined : All (PairJoined basis lower links) pairs

module _ (basis : BasisView) (h : IsReducedList basis) (lower : BasisView) (front : IsFront basis lower) (more : length lower.moves < length basis.moves) where
  abbrev n : ℕ
  n = length basis.grading

  abbrev w : List ℤ
  w = basis.grading

  abbrev rows : List (List ℤ)
  rows = vectors_of basis.moves

  abbrev L : List (List ℤ)
  L = vectors_of lower.moves

  abbrev bound : ℤ
  bound = weight_at basis (length lower.moves)

  g : HasGrading (lattice_of n rows w)
  g = list_grading basis h

  part : AreLower w rows bound L
  part = lower_part basis h lower front more

  pub gather_begin : AreGathered basis lower [] []
  gather_begin = record {
    belong = All-nil (BelongsTo basis.priority basis.grading);
    linked = record { each = All-nil (IsLink n rows L w bound); oriented = All-nil (IsOriented (standard n)); apart = λ u v c. absurd (Contains-none u c) };
    joined = All-nil (PairJoined basis lower []);
  }

  -- by more links
  joined_more : (links after : List Weighed) → ((v : List ℤ) → Contains (vectors_of links) v → Contains (vectors_of after) v) → (pairs : List Overlap) → All (PairJoined basis lower links) pairs → All (PairJoined basis lower after) pairs
  joined_more links after f pairs each =
      All-weaker (PairJoined basis lower links) (PairJoined basis lower after)
      (λ pair j. joined_below_weaker n (standard n) (L ++ vectors_of links) (L ++ vectors_of after) (move_at L pair.first) (move_at L pair.second)
      (λ v c. ⊎_elim (Contains-append_left L (vectors_of after) v) (λ d. Contains-append_right L (vectors_of after) v (f v d)) (Contains-append_cases L (vectors_of links) v c)) j) pairs each

  module _ (pairs : List Overlap) (links : List Weighed) (gathered : AreGathered basis lower pairs links) (pair : Overlap) (o : IsOverlap w L bound pair) where
    abbrev a : List ℤ
    a = move_at L pair.first

    abbrev b : List ℤ
    b = move_at L pair.second

    of_a : Contains L a
    of_a = Contains-get_or L pair.first [] (omega (arith, o.ordered, o.within))

    of_b : Contains L b
    of_b = Contains-get_or L pair.second [] o.within

    -- a pair that leaves nothing
    pub gather_none : IsRemainder lower (pair_of pair.first pair.second) None → AreGathered basis lower (pairs ++ pair ∷ []) links
    gather_none reduct = record {
      belong = gathered.belong;
      linked = gathered.linked;
      joined = All-push (PairJoined basis lower links) pairs pair gathered.joined
          (pair_by_zero g h.reduced part gathered.linked a b (zeros n) (zeros n) of_a of_b
          (subst (λ (v : List ℤ). Reduct L (difference L (pair_of pair.first pair.second)) (zeros (length v))) front.grading reduct) here refl);
    }

    module _ (m : Weighed) (rest : IsNormalRest lower (pair_of pair.first pair.second) m) where
      reduct : Reduct L (subtract b a) m.entries
      reduct = rest.reduct

      link : IsLink n rows L w bound m.entries
      link =
          link_of_pair g h.reduced part a b m.entries of_a of_b o.weighs reduct
          (something m.entries rest.normal.not_zero) rest.normal.positive rest.normal.negative

      -- the links leave nothing of what it leaves
      gather_same : (after : List Weighed) → IsLeftOf (vectors_of links) w m.entries None → after ≡ links → AreGathered basis lower (pairs ++ pair ∷ []) after
      gather_same after leaves e =
          subst (AreGathered basis lower (pairs ++ pair ∷ [])) (sym e)
          (record {
            belong = gathered.belong;
            linked = gathered.linked;
            joined = All-push (PairJoined basis lower links) pairs pair gathered.joined
                (pair_by_zero g h.reduced part gathered.linked a b m.entries (zeros n) of_a of_b reduct (steps_reduce (vectors_of links) leaves.steps) refl);
          })

      -- what the links leave of it is a link more
      module _ (left new : Weighed) (leaves : IsLeftOf (vectors_of links) w m.entries (Some left)) (belongs : BelongsTo basis.priority basis.grading new) (sign : (new.entries ≡ left.entries) ⊎ (new.entries ≡ negate left.entries)) where
        oriented : IsOriented (standard n) new.entries
        oriented = subst (λ p. IsOriented p new.entries) h.standard_list belongs.oriented

        not_zero : left.entries ≡ zeros n → ⊥
        not_zero z = IsOriented-not_zero (standard n) new.entries (λ c. none c sign) oriented
          where
            none : (c : ℕ) → (new.entries ≡ left.entries) ⊎ (new.entries ≡ negate left.entries) → entry new.entries c ≡ pos 0
            none c (inl e) = ap (λ x. entry x c) (e ∙ z) ∙ omega (arith, ints, columns)
            none c (inr e) = ap (λ x. entry x c) (e ∙ ap negate z) ∙ omega (arith, ints, columns)

        left_link : IsLink n rows L w bound left.entries
        left_link = ⊎_elim (λ z. absurd (not_zero z)) (λ k. k) (chain g h.reduced part gathered.linked link leaves.steps)

        new_link : IsLink n rows L w bound new.entries
        new_link = ⊎_elim (λ e. subst (IsLink n rows L w bound) (sym e) left_link) (λ e. subst (IsLink n rows L w bound) (sym e) (link_negated g h.reduced part left.entries left_link)) sign

        new_lead : (u : List ℤ) → Contains (vectors_of links) u → lead u ≡ lead new.entries → ⊥
        new_lead u c e = go sign
          where
            go : (new.entries ≡ left.entries) ⊎ (new.entries ≡ negate left.entries) → ⊥
            go (inl f) = leaves.none_ends u c Plus (e ∙ ap lead f)
            go (inr f) = leaves.none_ends u c Minus (e ∙ ap lead f ∙ positive_part-negate left.entries)

        abbrev longer : List Weighed
        longer = links ++ new ∷ []

        vectors_longer : vectors_of longer ≡ vectors_of links ++ new.entries ∷ []
        vectors_longer = map-append (λ (m : Weighed). m.entries) links (new ∷ [])

        stays : (v : List ℤ) → Contains (vectors_of links) v → Contains (vectors_of longer) v
        stays v c = subst (λ xs. Contains xs v) (sym vectors_longer) (Contains-append_left (vectors_of links) (new.entries ∷ []) v c)

        linked_longer : AreLinks n rows L w bound (vectors_of longer)
        linked_longer = subst (AreLinks n rows L w bound) (sym vectors_longer) (links_more g h.reduced part gathered.linked new.entries new_link oriented new_lead)

        gather_new : AreGathered basis lower (pairs ++ pair ∷ []) longer
        gather_new = record {
          belong = All-push (BelongsTo basis.priority basis.grading) links new gathered.belong belongs;
          linked = linked_longer;
          joined = All-push (PairJoined basis lower longer) pairs pair (joined_more links longer stays pairs gathered.joined)
              (pair_by_link g h.reduced part linked_longer a b m.entries left.entries of_a of_b reduct new.entries (reduct_weaker stays (steps_reduce (vectors_of links) leaves.steps))
              (subst (λ xs. Contains xs new.entries) (sym vectors_longer) (Contains-push (vectors_of links) new.entries)) sign);
        }

      pub gather_some : (after : List Weighed) → IsAdded basis m links after → AreGathered basis lower (pairs ++ pair ∷ []) after
      gather_some after added = cases added.left added.leaves added.added
        where
          cases : (left : Option Weighed) → IsLeftOf (vectors_of links) w m.entries left → IsAddedLeft basis links left after → AreGathered basis lower (pairs ++ pair ∷ []) after
          cases None leaves e = gather_same after leaves e
          cases (Some left) leaves (new, e, belongs, sign) = subst (AreGathered basis lower (pairs ++ pair ∷ [])) (sym e) (gather_new left new leaves belongs sign)

  -- ---- all pairs of the weight
  module _ (pairs : List Overlap) (all : AreOverlaps w L bound pairs) (links : List Weighed) (gathered : AreGathered basis lower pairs links) where
    abbrev Below : List ℤ → List ℤ → Type 0
    Below = JoinedBelow n (standard n) (L ++ vectors_of links)

    abbrev at : ℕ → List ℤ
    at = move_at L

    both_has : (v : List ℤ) → Contains L v → Contains (L ++ vectors_of links) v
    both_has v c = Contains-append_left L (vectors_of links) v c

    at_has : (k : ℕ) → k < length L → Contains (L ++ vectors_of links) (at k)
    at_has k l = both_has (at k) (Contains-get_or L k [] l)

    in_order : (i j : ℕ) → i < j → j < length L → weight w (lcm (lead (at i)) (lead (at j))) ≡ bound → Below (at i) (at j)
    in_order i j l k e = go (all.every i j l k)
      where
        go : IsListed w L bound pairs i j → Below (at i) (at j)
        go (inl d) = joined_by_disjoint (both_oriented g h.reduced part gathered.linked) (at i) (at j) (at_has i (omega (arith, l, k))) (at_has j k) d
        go (inr (inl other)) = absurd (other e)
        go (inr (inr c)) = All-contains (PairJoined basis lower links) pairs (overlap_at i j) gathered.joined c

    pairs_joined : PairsJoined n L w bound (vectors_of links)
    pairs_joined u v c d e = go (place u c) (place v d)
      where
        o : AreOrientedMoves (lattice_of n rows w) (standard n) (L ++ vectors_of links)
        o = both_oriented g h.reduced part gathered.linked

        place : (m : List ℤ) → Contains L m → (k : ℕ) × (k < length L) × (at k ≡ m)
        place m (k, l, e) = (k, l, get_or_default L k [] m l ∙ e)

        cases : (i j : ℕ) → (i < j) ⊎ (j < i) ⊎ (i ≡ j)
        cases i j = grind arith

        places : (i j : ℕ) → i < length L → j < length L → at i ≡ u → at j ≡ v → (i < j) ⊎ (j < i) ⊎ (i ≡ j) → Below u v
        places i j k l f t (inl s) = rw (f, t) at (in_order i j s l (ap (λ x. weight w (lcm (lead x) (lead (at j)))) f ∙ ap (λ x. weight w (lcm (lead u) (lead x))) t ∙ e))
        places i j k l f t (inr (inl s)) =
            let back = ap (λ x. weight w (lcm (lead x) (lead (at i)))) t ∙ ap (λ x. weight w (lcm (lead v) (lead x))) f ∙ ap (weight w) (lcm-comm (lead v) (lead u)) ∙ e in
            JoinedBelow-swap o v u (rw (t, f) at (in_order j i s k back))
        places i j k l f t (inr (inr s)) = subst (Below u) (sym f ∙ ap at s ∙ t) (JoinedBelow-same o u (both_has u c))

        go : (i : ℕ) × (i < length L) × (at i ≡ u) → (j : ℕ) × (j < length L) × (at j ≡ v) → Below u v
        go (i, k, f) (j, l, t) = places i j k l f t (cases i j)

    pub links_tell : TellsLeast n w rows bound (vectors_of links)
    links_tell = record {
      least = λ m c e none. lead_is_first g h.reduced part gathered.linked pairs_joined m c e (λ u d same. none (record { move = u; member = d; same = same }));
      others = λ m c e has. lead_steps_lighter g h.reduced part gathered.linked m has.move e has.member has.same;
    }
