-- The lower moves and the links together: which leads of the weight are the least of their component.
use Rattle.std.proofs.Common.{◌≡◌, ◌⊎◌, inl, inr, ℕ, List, ◌++◌, ℤ, Contains, arith, ap, sym, ◌∙◌, subst, ⊎_elim}
use Rattle.std.proofs.lemmas.Int.{ints}
use Rattle.std.proofs.lemmas.List.Elements.{All-contains, Contains-append_left, Contains-append_cases}
use Rattle.mk_model.specs.Vectors.{subtract, weight, IsPoint}
use Rattle.mk_model.specs.Lattices.{lattice_of, InLattice, HasGrading}
use Rattle.mk_model.specs.Orders.{IsBelow, IsOriented, standard, lead, tail}
use Rattle.mk_model.specs.Walks.{Walk, Members, Joined}
use Rattle.mk_model.specs.Walks.Walk.{stay}
use Rattle.mk_model.specs.Bases.{IsMove}
use Rattle.mk_model.specs.Reductions.{lcm, Divides, Reaches, IsDescent, Meet, IsIrreducible}
use Rattle.mk_model.specs.Pairs.{AreOrientedMoves, IsPointBelow, JoinedBelow}
use Rattle.mk_model.specs.ReducedBases.{IsReducedBasis, LighterMoves, IsLeastOfComponent}
use Rattle.mk_model.proofs.OrderLaws.{IsBelow-asymmetric, IsBelow-not_same}
use Rattle.mk_model.proofs.WalkLaws.{walk_weaker, walk_to}
use Rattle.mk_model.proofs.MoveLaws.{IsMove-lead}
use Rattle.mk_model.proofs.Divisors.{lcm_divides}
use Rattle.mk_model.proofs.DivisorWeights.{divisor_cases}
use Rattle.mk_model.proofs.Confluence.{lcm_point, joined_under, point_below_from_descent}
use Rattle.mk_model.proofs.NormalForms.{irreducible_stays, reach_below, All-from_contains}
use Rattle.mk_model.proofs.Reducts.{joined_below_weaker}
use Rattle.mk_model.proofs.ReducedLaws.{reduced_ends, member_reduced, member_move}
use Rattle.mk_minimise.specs.Stages.{StepsLighter}
use Rattle.mk_minimise.specs.Links.{AreLower, IsLink, AreLinks}
use Rattle.mk_minimise.proofs.Peaks.{PeaksJoined, confluence_at}
use Rattle.mk_minimise.proofs.LowerMoves.{lower_move, lower_oriented, lead_not_least, joined_by_lower, lower_are_lighter, lighter_pair}

-- every two of the lower moves whose least common multiple has the weight are joined below it, by lower moves and links
abbrev pub PairsJoined : ℕ → List (List ℤ) → List ℤ → ℤ → List (List ℤ) → Type 0
PairsJoined n lower w bound links =
    (a b : List ℤ) → Contains lower a → Contains lower b → weight w (lcm (lead a) (lead b)) ≡ bound → JoinedBelow n (standard n) (lower ++ links) a b

module _ {n : ℕ} {rows : List (List ℤ)} {w : List ℤ} {moves : List (List ℤ)} (g : HasGrading (lattice_of n rows w)) (basis : IsReducedBasis (lattice_of n rows w) moves) {bound : ℤ} {lower links : List (List ℤ)} (part : AreLower w moves bound lower) (linked : AreLinks n rows lower w bound links) where
  pub link_of : (u : List ℤ) → Contains links u → IsLink n rows lower w bound u
  link_of u c = All-contains (IsLink n rows lower w bound) links u linked.each c

  pub link_move : (u : List ℤ) → Contains links u → IsMove n rows u
  link_move u c = record { in_lattice = (link_of u c).in_lattice; oriented = All-contains (IsOriented (standard n)) links u linked.oriented c }

  both_move : (u : List ℤ) → Contains (lower ++ links) u → IsMove n rows u
  both_move u c = ⊎_elim (lower_move g basis part u) (link_move u) (Contains-append_cases lower links u c)

  pub both_oriented : AreOrientedMoves (lattice_of n rows w) (standard n) (lower ++ links)
  both_oriented = record {
    grading = g;
    in_lattice = All-from_contains (InLattice n rows) (lower ++ links) (λ m c. (both_move m c).in_lattice);
    oriented = All-from_contains (IsOriented (standard n)) (lower ++ links) (λ m c. (both_move m c).oriented);
  }

  -- a link whose lead divides a point of the weight has it as its lead
  link_whole : (x u : List ℤ) → IsPoint n x → weight w x ≡ bound → Contains links u → Divides (lead u) x → lead u ≡ x
  link_whole x u q e c d =
      ⊎_elim (λ l. absurd (omega (arith, ints, l, e, (link_of u c).weighs))) (λ f. f) (divisor_cases g x (lead u) q (IsMove-lead g (link_move u c)) d)

  -- where a link's lead divides a point of the weight, no lower lead does
  link_alone : (x u : List ℤ) → IsPoint n x → weight w x ≡ bound → Contains links u → Divides (lead u) x → IsIrreducible lower x
  link_alone x u q e c d = subst (IsIrreducible lower) (link_whole x u q e c d) (link_of u c).positive

  module _ (pairs : PairsJoined n lower w bound links) where
    lower_pair : (x a b : List ℤ) → IsPoint n x → weight w x ≡ bound → Contains lower a → Contains lower b → Divides (lcm (lead a) (lead b)) x → JoinedBelow n (standard n) (lower ++ links) a b
    lower_pair x a b q e h k d =
        ⊎_elim (λ l. joined_below_weaker n (standard n) lower (lower ++ links) a b (Contains-append_left lower links) (lighter_pair g basis part a b h k (omega (arith, ints, l, e))))
        (λ f. pairs a b h k (ap (weight w) f ∙ e))
        (divisor_cases g x (lcm (lead a) (lead b)) q (lcm_point (lower_oriented g basis part) a b h k) d)

    peaks : PeaksJoined n w (standard n) (lower ++ links) bound
    peaks x a b q e d f = rw (d.below, f.below) (cases (Contains-append_cases lower links d.move d.member) (Contains-append_cases lower links f.move f.member))
      where
        cases : Contains lower d.move ⊎ Contains links d.move → Contains lower f.move ⊎ Contains links f.move → Walk (Members (lower ++ links)) (IsPointBelow n (standard n) x) (subtract x d.move) (subtract x f.move)
        cases (inl h) (inl k) =
            let both = lcm_divides d.divides f.divides in
            joined_under both_oriented d.move f.move x d.member f.member q both (lower_pair x d.move f.move q e h k both)
        cases (inl h) (inr k) = absurd (link_alone x f.move q e k f.divides d.move h d.divides)
        cases (inr h) (inl k) = absurd (link_alone x d.move q e h d.divides f.move k f.divides)
        cases (inr h) (inr k) =
            let same : d.move ≡ f.move = linked.apart d.move f.move h k (link_whole x d.move q e h d.divides ∙ sym (link_whole x f.move q e k f.divides)) in
            subst (λ v. Walk (Members (lower ++ links)) (IsPointBelow n (standard n) x) (subtract x d.move) (subtract x v)) same
            (stay (rw d.below at (point_below_from_descent both_oriented q d)))

    -- a point of the weight that no lead divides is the least of its component
    pub irreducible_is_first : (x : List ℤ) → IsPoint n x → weight w x ≡ bound → IsIrreducible (lower ++ links) x → IsLeastOfComponent (lattice_of n rows w) x
    irreducible_is_first x q e none = record { point = q; none_below = λ y j b. refuse y (subst (λ z. Joined n (LighterMoves (lattice_of n rows w) z) x y) e j) b }
      where
        refuse : (y : List ℤ) → Joined n (LighterMoves (lattice_of n rows w) bound) x y → IsBelow (standard n) y x → ⊥
        refuse y j b =
            let walk : Joined n (Members (lower ++ links)) x y = walk_weaker (Contains-append_left lower links) (λ z h. h) (joined_by_lower g basis part j) in
            let met : Meet (lower ++ links) x y = confluence_at both_oriented bound peaks x y e walk in
            let down : Reaches (IsDescent (lower ++ links)) y x = subst (Reaches (IsDescent (lower ++ links)) y) (sym (irreducible_stays none met.from_first)) met.from_second in
            ⊎_elim (λ s. IsBelow-not_same (standard n) y x (sym s) b) (λ c. IsBelow-asymmetric (standard n) x y c b) (reach_below both_oriented (walk_to walk) down)

    -- the lead of a member of the weight that is no link's lead is the least of its component
    pub lead_is_first : (m : List ℤ) → Contains moves m → weight w (lead m) ≡ bound → ((u : List ℤ) → Contains links u → lead u ≡ lead m → ⊥) → IsLeastOfComponent (lattice_of n rows w) (lead m)
    lead_is_first m c e none = irreducible_is_first (lead m) point e (λ v h d. ⊎_elim (λ k. below v k d) (λ k. none v k (link_whole (lead m) v point e k d)) (Contains-append_cases lower links v h))
      where
        point : IsPoint n (lead m)
        point = IsMove-lead g (member_move g basis m c)

        below : (v : List ℤ) → Contains lower v → Divides (lead v) (lead m) → ⊥
        below v k d =
            let reduced = member_reduced g basis m c in
            let apart : ¬ (lead v ≡ lead m) = λ s. omega (arith, ints, part.lighter v k, e, ap (weight w) s) in
            let same : reduced.from ≡ lead m = (reduced_ends g reduced).0 in
            lead_not_least g basis part v (part.member v k)
            (reduced.divisors (lead v) (IsMove-lead g (lower_move g basis part v k)) (rw same d) (λ s. apart (s ∙ same)))

  -- from a link's lead lighter moves lead below it
  pub lead_steps_lighter : (m u : List ℤ) → weight w (lead m) ≡ bound → Contains links u → lead u ≡ lead m → StepsLighter n rows w m
  lead_steps_lighter m u e c same = record {
    lower = tail u;
    below = subst (IsBelow (standard n) (tail u)) same (link_move u c).oriented;
    joined = subst (λ z. Joined n (LighterMoves (lattice_of n rows w) z) (lead m) (tail u)) (sym e)
        (subst (λ x. Joined n (LighterMoves (lattice_of n rows w) bound) x (tail u)) same (lower_are_lighter g basis part (link_of u c).joined));
  }
