-- What links leave of a link: nothing, or a link; and the links with that one more.
use Rattle.std.proofs.Common.{◌≡◌, ◌≢◌, ◌⊎◌, inl, inr, ℕ, List, [], ◌∷◌, ◌++◌, length, ℤ, pos, false, Contains, arith, ap, sym, ◌∙◌, subst, ⊎_elim}
use Rattle.std.proofs.lemmas.Bool.{both_ways, cases_Bool}
use Rattle.std.proofs.lemmas.Int.{ints}
use Rattle.std.proofs.lemmas.List.Elements.{All-push, Contains-append_left, Contains-append_right, Contains-push_cases}
use Rattle.mk_model.specs.Vectors.{zeros, add, subtract, negate, scale, positive_part, negative_part, weight}
use Rattle.mk_model.specs.Lattices.{lattice_of, HasGrading, is_zero}
use Rattle.mk_model.specs.Orders.{IsOriented, standard, lead}
use Rattle.mk_model.specs.Pairs.{AreOrientedMoves, JoinedBelow}
use Rattle.mk_model.specs.Reductions.{Divides, Reaches, IsReduction, Reduct}
use Rattle.mk_model.specs.Reductions.Reaches.{here, go}
use Rattle.mk_model.specs.ReducedBases.{IsReducedBasis}
use Rattle.mk_model.proofs.VectorAlgebra.{lengths, columns, same_vectors, only_zeros, scale-one, scale-minus_one, positive_part-negate, weight-zeros}
use Rattle.mk_model.proofs.LatticeLaws.{is_zero-entries, InLattice-columns, is_zero-true}
use Rattle.mk_model.proofs.MoveLaws.{IsMove-lead_weight}
use Rattle.mk_model.proofs.Divisors.{Divides-itself}
use Rattle.mk_model.proofs.Confluence.{reaches_append}
use Rattle.mk_model.proofs.Reducts.{reduct_weaker, joined_by_zero, joined_by_member}
use Rattle.mk_move.specs.Sides.{part_of}
use Rattle.mk_move.specs.Steps.{minus_times}
use Rattle.mk_move.specs.declared.side.Side.{Side}
use Rattle.mk_move.specs.declared.side.Side.TheVariants.{Plus, Minus}
use Rattle.mk_minimise.specs.Links.{AreLower, IsLink, AreLinks}
use Rattle.mk_minimise.specs.LinkSteps.{times_at, IsLinkStep}
use Rattle.mk_minimise.proofs.LinkLaws.{link_negated, link_less}
use Rattle.mk_minimise.proofs.LeastLeads.{link_of, link_move, both_oriented}

pub something : (r : List ℤ) → is_zero r ≡ false → r ≢ zeros (length r)
something r f e = both_ways (is_zero r) f (is_zero-true r e)

zero_or_not : (r : List ℤ) → (r ≡ zeros (length r)) ⊎ (r ≢ zeros (length r))
zero_or_not r = ⊎_elim (λ e. inl (only_zeros r (is_zero-entries r e))) (λ f. inr (something r f)) (cases_Bool (is_zero r))

-- ---- one step
off : (r v : List ℤ) → minus_times r (times_at Plus) v ≡ subtract r v
off r v = ap (subtract r) (scale-one v)

added : (r v : List ℤ) → minus_times r (times_at Minus) v ≡ add r v
added r v = ap (subtract r) (scale-minus_one v) ∙ same_vectors _ _ (omega (arith, lengths)) (λ c. omega (arith, ints, columns))

turned : (r v : List ℤ) → negate (subtract (negate r) v) ≡ add r v
turned r v = same_vectors _ _ (omega (arith, lengths)) (λ c. omega (arith, ints, columns))

step_reduces : (links : List (List ℤ)) (r s : List ℤ) → IsLinkStep links r s → IsReduction links r s
step_reduces links r s d = record { move = d.link; member = d.member; times = 1; some = omega arith; taken_off = cases d.side d.at_end d.less }
  where
    once : (x : List ℤ) → lead d.link ≡ x → Divides (scale (pos 1) (lead d.link)) x
    once x e = subst (λ y. Divides y x) (sym e ∙ sym (scale-one (lead d.link))) (Divides-itself x)

    cases : (side : Side) → lead d.link ≡ part_of side r → s ≡ minus_times r (times_at side) d.link →
        (Divides (scale (pos 1) (lead d.link)) (positive_part r) × (s ≡ subtract r (scale (pos 1) d.link))) ⊎ (Divides (scale (pos 1) (lead d.link)) (negative_part r) × (s ≡ add r (scale (pos 1) d.link)))
    cases Plus e f = inl (once (positive_part r) e, f)
    cases Minus e f = inr (once (negative_part r) e, f ∙ added r d.link ∙ ap (add r) (sym (scale-one d.link)))

pub steps_reduce : (links : List (List ℤ)) {r s : List ℤ} → Reaches (IsLinkStep links) r s → Reduct links r s
steps_reduce links here = here
steps_reduce links (go {x = x} {y = y} d rest) = go (step_reduces links x y d) (steps_reduce links rest)

module _ {n : ℕ} {rows : List (List ℤ)} {w : List ℤ} {moves : List (List ℤ)} (g : HasGrading (lattice_of n rows w)) (basis : IsReducedBasis (lattice_of n rows w) moves) {bound : ℤ} {lower : List (List ℤ)} (part : AreLower w moves bound lower) where
  link_columns : (r : List ℤ) → IsLink n rows lower w bound r → length r ≡ n
  link_columns r link = InLattice-columns n rows r g.rows_columns link.in_lattice

  less_or_nothing : (r v : List ℤ) → IsLink n rows lower w bound r → IsLink n rows lower w bound v → lead v ≡ positive_part r → (subtract r v ≡ zeros n) ⊎ IsLink n rows lower w bound (subtract r v)
  less_or_nothing r v link other e =
      ⊎_elim (λ z. inl (z ∙ ap zeros (omega (arith, lengths, link_columns r link, link_columns v other)))) (λ f. inr (link_less g basis part r v link other e f)) (zero_or_not (subtract r v))

  stepped : (r v s : List ℤ) (side : Side) → IsLink n rows lower w bound r → IsLink n rows lower w bound v → lead v ≡ part_of side r → s ≡ minus_times r (times_at side) v → (s ≡ zeros n) ⊎ IsLink n rows lower w bound s
  stepped r v s Plus link other e f =
      let same : subtract r v ≡ s = sym (f ∙ off r v) in
      ⊎_elim (λ z. inl (sym same ∙ z)) (λ k. inr (subst (IsLink n rows lower w bound) same k)) (less_or_nothing r v link other e)
  stepped r v s Minus link other e f =
      let same : negate (subtract (negate r) v) ≡ s = turned r v ∙ sym (f ∙ added r v) in
      ⊎_elim (λ z. inl (sym same ∙ ap negate z ∙ none)) (λ k. inr (subst (IsLink n rows lower w bound) same (link_negated g basis part (subtract (negate r) v) k)))
      (less_or_nothing (negate r) v (link_negated g basis part r link) other (e ∙ sym (positive_part-negate r)))
    where
      none : negate (zeros n) ≡ zeros n
      none = same_vectors _ _ (omega (arith, lengths)) (λ c. omega (arith, ints, columns))

  module _ {links : List (List ℤ)} (linked : AreLinks n rows lower w bound links) where
    -- no part of zero is the lead of a link
    no_step_from_zero : (s : List ℤ) → IsLinkStep links (zeros n) s → ⊥
    no_step_from_zero s d =
        omega (arith, ints, IsMove-lead_weight g (link_move g basis part linked d.link d.member), ap (weight w) d.at_end, none d.side)
      where
        no_parts : (side : Side) → part_of side (zeros n) ≡ zeros n
        no_parts Plus = same_vectors _ _ (omega (arith, lengths)) (λ c. omega (arith, ints, columns))
        no_parts Minus = same_vectors _ _ (omega (arith, lengths)) (λ c. omega (arith, ints, columns))

        none : (side : Side) → weight w (part_of side (zeros n)) ≡ pos 0
        none side = ap (weight w) (no_parts side) ∙ weight-zeros w n

    stays_zero : {r s : List ℤ} → r ≡ zeros n → Reaches (IsLinkStep links) r s → s ≡ zeros n
    stays_zero e here = e
    stays_zero e (go {y = y} d rest) = absurd (no_step_from_zero y (subst (λ x. IsLinkStep links x y) e d))

    -- what links leave of a link
    pub chain : {r s : List ℤ} → IsLink n rows lower w bound r → Reaches (IsLinkStep links) r s → (s ≡ zeros n) ⊎ IsLink n rows lower w bound s
    chain link here = inr link
    chain link (go {x = x} {y = y} d rest) =
        ⊎_elim (λ z. inl (stays_zero z rest)) (λ k. chain k rest) (stepped x d.link y d.side link (link_of g basis part linked d.link d.member) d.at_end d.less)

    -- a link more, whose lead no other has
    pub links_more : (v : List ℤ) → IsLink n rows lower w bound v → IsOriented (standard n) v → ((u : List ℤ) → Contains links u → lead u ≡ lead v → ⊥) → AreLinks n rows lower w bound (links ++ v ∷ [])
    links_more v link oriented none = record {
      each = All-push (IsLink n rows lower w bound) links v linked.each link;
      oriented = All-push (IsOriented (standard n)) links v linked.oriented oriented;
      apart = λ a b h k e. cases a b e (Contains-push_cases links v a h) (Contains-push_cases links v b k);
    }
      where
        cases : (a b : List ℤ) → lead a ≡ lead b → Contains links a ⊎ (v ≡ a) → Contains links b ⊎ (v ≡ b) → a ≡ b
        cases a b e (inl h) (inl k) = linked.apart a b h k e
        cases a b e (inl h) (inr f) = absurd (none a h (e ∙ ap lead (sym f)))
        cases a b e (inr f) (inl k) = absurd (none b k (sym e ∙ ap lead (sym f)))
        cases a b e (inr f) (inr d) = sym f ∙ d

  -- ---- the pair whose difference left a link
  module _ {links : List (List ℤ)} (linked : AreLinks n rows lower w bound links) (a b r s : List ℤ) (h : Contains lower a) (k : Contains lower b) (d : Reduct lower (subtract b a) r) where
    o : AreOrientedMoves (lattice_of n rows w) (standard n) (lower ++ links)
    o = both_oriented g basis part linked

    whole : Reduct links r s → Reduct (lower ++ links) (subtract b a) s
    whole e = reaches_append (reduct_weaker (Contains-append_left lower links) d) (reduct_weaker (Contains-append_right lower links) e)

    pub pair_by_zero : Reduct links r s → s ≡ zeros n → JoinedBelow n (standard n) (lower ++ links) a b
    pair_by_zero e z = joined_by_zero o a b (Contains-append_left lower links a h) (Contains-append_left lower links b k) (subst (Reduct (lower ++ links) (subtract b a)) z (whole e))

    pub pair_by_link : (v : List ℤ) → Reduct links r s → Contains links v → (v ≡ s) ⊎ (v ≡ negate s) → JoinedBelow n (standard n) (lower ++ links) a b
    pair_by_link v e c sign =
        joined_by_member o a b s (Contains-append_left lower links a h) (Contains-append_left lower links b k) (whole e)
        (⊎_elim (λ f. inl (subst (Contains (lower ++ links)) f (Contains-append_right lower links v c))) (λ f. inr (subst (Contains (lower ++ links)) f (Contains-append_right lower links v c))) sign)
