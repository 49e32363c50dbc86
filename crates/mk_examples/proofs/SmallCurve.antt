-- The reduced basis and the answer of the curve of weights 1, 2, 3: one move of the reduced basis isn't essential.
use Rattle.std.proofs.Common.{◌≡◌, ◌⊎◌, inl, inr, ℕ, zero, suc, ◌<◌, List, [], ◌∷◌, length, None, Some, ℤ, pos, negsuc, ◌+ℤ◌, ◌-ℤ◌, ◌*ℤ◌, ◌≤ℤ◌, ◌<ℤ◌, All, AllPairs, Contains, arith, ap, refl, sym, ◌∙◌, subst, ⊎_elim}
use Rattle.std.proofs.lemmas.Int.{ints}
use Rattle.std.proofs.lemmas.List.Elements.{All-contains, All-nil, All-cons}
use Rattle.mk_model.specs.Vectors.{entry, combine, add, subtract, negate, scale, positive_part, negative_part, weight, IsPoint}
use Rattle.mk_model.specs.Lattices.{combination, InLattice, HasGrading}
use Rattle.mk_model.specs.Walks.{Joined}
use Rattle.mk_model.specs.Walks.Walk.{stay, step}
use Rattle.mk_model.specs.Orders.{IsBelow, standard, lead, ComesBefore}
use Rattle.mk_model.specs.Bases.{IsMove, IsEssential, IsUpTo, IsMinimalMarkovBasis}
use Rattle.mk_model.specs.Reductions.{IsIrreducible}
use Rattle.mk_model.specs.ReducedBases.{IsReducedMove, IsReducedBasis, IsLeastOfComponent, LighterMoves}
use Rattle.mk_model.specs.Saturation.{divides}
use Rattle.mk_examples.specs.Worked.{curve_first, curve_second, curve_third, curve_rows, curve_weights, curve_lattice}
use Rattle.mk_model.proofs.LatticeLaws.{InLattice-weight}
use Rattle.mk_model.proofs.VectorAlgebra.{add_at, subtract_at}
use Rattle.mk_model.proofs.MoveLaws.{IsMove-lead}
use Rattle.mk_model.proofs.Lists.{Contains-none, Contains-cases}
use Rattle.mk_model.proofs.WalkLaws.{walk_to}
use Rattle.mk_model.proofs.Fibres.{same_fibre_of_walk, same_fibre_weight}
use Rattle.mk_model.proofs.OrderTests.{Decides-is_below}
use Rattle.mk_examples.proofs.Ascending.{ascends-true}
use Rattle.mk_examples.proofs.SmallVectors.{three_entries, same_three, Divides-nil, Divides-cons, less, less_either, oriented_by_test, two_factors, all_two, all_three}
use Rattle.mk_examples.proofs.UndividedBases.{reduced_from_undivided}
use Rattle.mk_model.proofs.Components.{LighterMembers, lighter_by_members, lightest_is_least, answer_from_components}
use Rattle.mk_model.proofs.StarLaws.{joined_from_lighter}
use Rattle.mk_model.proofs.ReducedLaws.{member_reduced}
use Rattle.mk_model.proofs.TheAnswer.{the_answer}

-- the three moves in their order
abbrev pub curve_basis_moves : List (List ℤ)
curve_basis_moves = curve_first ∷ curve_second ∷ curve_third ∷ []

products : All (λ row. weight curve_weights row ≡ pos 0) curve_rows
unfolding weight
products = all_two (λ row. weight curve_weights row ≡ pos 0) curve_first curve_second refl refl

positive : (c : ℕ) → c < 3 → pos 1 ≤ℤ entry curve_weights c
positive zero l = omega (arith, ints)
positive (suc zero) l = omega (arith, ints)
positive (suc (suc zero)) l = omega (arith, ints)
positive (suc (suc (suc c))) l = absurd (omega arith)

pub curve_graded : HasGrading curve_lattice
curve_graded = record {
  columns = refl;
  positive = positive;
  rows_columns = all_two (λ row. length row ≡ 3) curve_first curve_second refl refl;
  rows_weight = products;
}

member : (m : List ℤ) → Contains curve_basis_moves m → IsMove 3 curve_rows m
unfolding combination add combine scale positive_part negative_part negate
member m h =
    All-contains (IsMove 3 curve_rows) curve_basis_moves m
    (all_three (IsMove 3 curve_rows) curve_first curve_second curve_third
    (record { in_lattice = (two_factors (pos 1) (pos 0), refl); oriented = oriented_by_test (standard 3) curve_first refl })
    (record { in_lattice = (two_factors (pos 0) (pos 1), refl); oriented = oriented_by_test (standard 3) curve_second refl })
    (record { in_lattice = (two_factors (negsuc 0) (pos 1), refl); oriented = oriented_by_test (standard 3) curve_third refl })) h

-- what no lead divides
abbrev IsSmall : ℤ → ℤ → Type 0
IsSmall a b = (a <ℤ pos 2) × (b <ℤ pos 2) × ((a <ℤ pos 1) ⊎ (b <ℤ pos 1))

undivided : (a b c : ℤ) → IsPoint 3 (a ∷ b ∷ c ∷ []) → IsIrreducible curve_basis_moves (a ∷ b ∷ c ∷ []) → IsSmall a b
unfolding positive_part
undivided a b c p none = (
  less a (pos 2) (λ l. none curve_first (0, omega arith, refl) (Divides-cons l
      (Divides-cons (p.nonnegative 1) (Divides-cons (p.nonnegative 2) Divides-nil)))),
  less b (pos 2) (λ l. none curve_third (2, omega arith, refl) (Divides-cons (p.nonnegative 0)
      (Divides-cons l (Divides-cons (p.nonnegative 2) Divides-nil)))),
  less_either a b (pos 1) (λ k l. none curve_second (1, omega arith, refl)
      (Divides-cons k (Divides-cons l (Divides-cons (p.nonnegative 2) Divides-nil)))),
)

-- two such pairs that differ by a multiple of 3 in the weight are the same
same_pair : (a b d e k : ℤ) → IsSmall a b → IsSmall d e → pos 0 ≤ℤ a → pos 0 ≤ℤ b → pos 0 ≤ℤ d → pos 0 ≤ℤ e →
    ((a -ℤ d) +ℤ (pos 2 *ℤ (b -ℤ e))) +ℤ (pos 3 *ℤ k) ≡ pos 0 → (a ≡ d) × (b ≡ e)
same_pair a b d e k (i, j, inl l) (m, n, inl o) p q r s f = (omega (arith, ints), omega (arith, ints))
same_pair a b d e k (i, j, inl l) (m, n, inr o) p q r s f = (omega (arith, ints), omega (arith, ints))
same_pair a b d e k (i, j, inr l) (m, n, inl o) p q r s f = (omega (arith, ints), omega (arith, ints))
same_pair a b d e k (i, j, inr l) (m, n, inr o) p q r s f = (omega (arith, ints), omega (arith, ints))

one_undivided : (a b c d e f : ℤ) → IsPoint 3 (a ∷ b ∷ c ∷ []) → IsPoint 3 (d ∷ e ∷ f ∷ []) →
    InLattice 3 curve_rows (subtract (a ∷ b ∷ c ∷ []) (d ∷ e ∷ f ∷ [])) →
    IsIrreducible curve_basis_moves (a ∷ b ∷ c ∷ []) → IsIrreducible curve_basis_moves (d ∷ e ∷ f ∷ []) → (a ∷ b ∷ c ∷ []) ≡ d ∷ e ∷ f ∷ []
unfolding weight subtract combine
one_undivided a b c d e f p q h none other =
    let product = InLattice-weight curve_weights 3 curve_rows (subtract (a ∷ b ∷ c ∷ []) (d ∷ e ∷ f ∷ [])) products h in
    let (i, j) = same_pair a b d e (c -ℤ f) (undivided a b c p none) (undivided d e f q other) (p.nonnegative 0) (p.nonnegative 1)
    (q.nonnegative 0) (q.nonnegative 1) (omega (arith, ints, product)) in
    same_three a b c d e f i j (omega (arith, ints, product, i, j))

one : (x y : List ℤ) → IsPoint 3 x → IsPoint 3 y → InLattice 3 curve_rows (subtract x y) → IsIrreducible curve_basis_moves x →
    IsIrreducible curve_basis_moves y → x ≡ y
one x y p q h none other =
    let e = three_entries x p.columns in
    let f = three_entries y q.columns in
    rw (e, f) (one_undivided _ _ _ _ _ _ (rw e at p) (rw f at q) (rw (e, f) at h) (rw e at none) (rw f at other))

pub curve_basis : IsReducedBasis curve_lattice curve_basis_moves
unfolding divides subtract combine positive_part negative_part negate weight
curve_basis = reduced_from_undivided curve_graded curve_basis_moves member one refl refl
    (ascends-true 3 curve_weights curve_basis_moves refl)

-- ---- the second move: only the first is lighter, and it leaves the last column as it is
lighter_is_first : (m : List ℤ) → LighterMembers curve_weights curve_basis_moves (pos 3) m → curve_first ≡ m
unfolding weight positive_part
lighter_is_first m (h, l) =
    ⊎_elim (λ e. e) (λ k. ⊎_elim (λ e. absurd (heavy curve_second e (omega (arith, ints))))
    (λ i. ⊎_elim (λ e. absurd (heavy curve_third e (omega (arith, ints)))) (λ j. absurd (Contains-none m j))
    (Contains-cases curve_third [] m i)) (Contains-cases curve_second (curve_third ∷ []) m k))
    (Contains-cases curve_first (curve_second ∷ curve_third ∷ []) m h)
  where
    heavy : (v : List ℤ) → v ≡ m → pos 3 ≤ℤ weight curve_weights (lead v) → ⊥
    heavy v e k = omega (arith, ints, l, k, ap (λ u. weight curve_weights (lead u)) e)

last_stays : (x y m : List ℤ) → curve_first ≡ m → (y ≡ add x m) ⊎ (y ≡ subtract x m) → entry y 2 ≡ entry x 2
last_stays x y m e (inl d) = omega (arith, ints, ap (λ u. entry u 2) d, ap (λ u. entry u 2) e, add_at x m 2)
last_stays x y m e (inr d) = omega (arith, ints, ap (λ u. entry u 2) d, ap (λ u. entry u 2) e, subtract_at x m 2)

last_of_walk : {x y : List ℤ} → Joined 3 (LighterMembers curve_weights curve_basis_moves (pos 3)) x y → entry y 2 ≡ entry x 2
last_of_walk (stay p) = refl
last_of_walk (step {x = x} {y = y} p (m, a, s) r) = last_of_walk r ∙ last_stays x y m (lighter_is_first m a) s

-- no vector of its weight with 0 in the last column is below its lead
none_below_second : (a b c : ℤ) → pos 0 ≤ℤ a → c ≡ pos 0 → weight curve_weights (a ∷ b ∷ c ∷ []) ≡ pos 3 →
    IsBelow (standard 3) (a ∷ b ∷ c ∷ []) (lead curve_second) → ⊥
unfolding weight positive_part
none_below_second a b c l e f (inl h) = omega (arith, ints)
none_below_second a b c l e f (inr (d, inl h)) = omega (arith, ints)
none_below_second a b c l e f (inr (d, inr (i, inl h))) = omega (arith, ints)
none_below_second a b c l e f (inr (d, inr (i, inr (j, h)))) = h

second_least : IsLeastOfComponent curve_lattice (lead curve_second)
unfolding weight positive_part
second_least = record {
  point = lead_point;
  none_below = λ y j b. refuse y (walk_to j)
      (same_fibre_of_walk curve_graded (λ v (a, l). a.in_lattice) j)
      (last_of_walk (lighter_by_members curve_graded curve_basis (pos 3) j)) b;
}
  where
    lead_point : IsPoint 3 (lead curve_second)
    lead_point = IsMove-lead curve_graded (member curve_second (1, omega arith, refl))

    refuse : (y : List ℤ) → IsPoint 3 y → InLattice 3 curve_rows (subtract (lead curve_second) y) → entry y 2 ≡ pos 0 →
        IsBelow (standard 3) y (lead curve_second) → ⊥
    refuse y p inside e b =
        let same : weight curve_weights y ≡ pos 3 = sym (same_fibre_weight curve_graded (lead curve_second) y lead_point p inside) in
        let d = three_entries y p.columns in
        none_below_second (entry y 0) (entry y 1) (entry y 2) (p.nonnegative 0) e (subst (λ u. weight curve_weights u ≡ pos 3) d same)
        (subst (λ u. IsBelow (standard 3) u (lead curve_second)) d b)

-- ---- the third move: lighter moves lead from its lead (0 2 0) through (2 1 0) to (1 0 1), which is below
abbrev below_third : List ℤ
below_third = pos 1 ∷ pos 0 ∷ pos 1 ∷ []

natural : (a b c : ℕ) → IsPoint 3 (pos a ∷ pos b ∷ pos c ∷ [])
natural a b c = record { columns = refl; nonnegative = go }
  where
    go : (i : ℕ) → pos 0 ≤ℤ entry (pos a ∷ pos b ∷ pos c ∷ []) i
    go zero = omega (arith, ints)
    go (suc zero) = omega (arith, ints)
    go (suc (suc zero)) = omega (arith, ints)
    go (suc (suc (suc i))) = omega (arith, ints)

pub third_leads_down : Joined 3 (LighterMoves curve_lattice (weight curve_weights (lead curve_third))) (lead curve_third) below_third
unfolding weight positive_part add subtract combine
third_leads_down =
    step (natural 0 2 0) (curve_first, (member curve_first (0, omega arith, refl), omega (arith, ints)), inl refl)
    (step (natural 2 1 0) (curve_second, (member curve_second (1, omega arith, refl), omega (arith, ints)), inr refl)
    (stay (natural 1 0 1)))

third_below : IsBelow (standard 3) below_third (lead curve_third)
unfolding positive_part
third_below = (Decides-is_below (standard 3) below_third (lead curve_third)).0 refl

pub third_is_reduced : IsReducedMove 3 curve_rows curve_third
third_is_reduced = member_reduced curve_graded curve_basis curve_third (2, omega arith, refl)

pub third_not_essential : ¬ (IsEssential curve_lattice curve_third)
third_not_essential e = e.not_joined (joined_from_lighter curve_graded
    (member curve_third (2, omega arith, refl)) below_third third_leads_down third_below)

-- ---- the answer
abbrev IsAtLeastTwo : List ℤ → Type 0
IsAtLeastTwo v = weight curve_weights (lead curve_first) ≤ℤ weight curve_weights (lead v)

heavy : All IsAtLeastTwo curve_basis_moves
unfolding weight positive_part
heavy = all_three IsAtLeastTwo curve_first curve_second curve_third (omega (arith, ints)) (omega (arith, ints)) (omega (arith, ints))

first_least : IsLeastOfComponent curve_lattice (lead curve_first)
first_least = lightest_is_least curve_graded curve_basis curve_first (0, omega arith, refl)
    (λ v h. All-contains IsAtLeastTwo curve_basis_moves v heavy h)

ascending : AllPairs (ComesBefore 3 curve_weights) curve_rows
unfolding positive_part negative_part negate weight
ascending = ascends-true 3 curve_weights curve_rows refl

abbrev StepsDown : List ℤ → Type 0
StepsDown m = (x : List ℤ) × IsBelow (standard 3) x (lead m) × Joined 3 (LighterMoves curve_lattice (weight curve_weights (lead m)))
    (lead m) x

each : (m : List ℤ) → Contains curve_basis_moves m → IsUpTo None (weight curve_weights (lead m)) → Contains curve_rows m ⊎ StepsDown m
each m h light =
    ⊎_elim (λ e. inl (subst (Contains curve_rows) e (0, omega arith, refl)))
    (λ k. ⊎_elim (λ e. inl (subst (Contains curve_rows) e (1, omega arith, refl)))
    (λ i. ⊎_elim (λ e. inr (subst StepsDown e (below_third, third_below, third_leads_down))) (λ j. absurd (Contains-none m j))
    (Contains-cases curve_third [] m i))
    (Contains-cases curve_second (curve_third ∷ []) m k)) (Contains-cases curve_first (curve_second ∷ curve_third ∷ []) m h)

pub of_small_curve : IsMinimalMarkovBasis curve_lattice None curve_rows
of_small_curve =
    the_answer curve_graded (answer_from_components curve_graded curve_basis ascending
    (all_two (λ m. Contains curve_basis_moves m × IsUpTo None (weight curve_weights (lead m)) × IsLeastOfComponent curve_lattice (lead m))
    curve_first curve_second
    ((0, omega arith, refl), tt, first_least) ((1, omega arith, refl), tt, second_least)) each)

-- ---- the answers up to a weight
-- each move but the first weighs at least 3
first_or_heavy : (m : List ℤ) → Contains curve_basis_moves m → (curve_first ≡ m) ⊎ (pos 3 ≤ℤ weight curve_weights (lead m))
unfolding weight positive_part
first_or_heavy m h =
    ⊎_elim inl (λ k. inr (⊎_elim (weighs curve_second (omega (arith, ints)))
    (λ i. ⊎_elim (weighs curve_third (omega (arith, ints))) (λ j. absurd (Contains-none m j)) (Contains-cases curve_third [] m i))
    (Contains-cases curve_second (curve_third ∷ []) m k))) (Contains-cases curve_first (curve_second ∷ curve_third ∷ []) m h)
  where
    weighs : (v : List ℤ) → pos 3 ≤ℤ weight curve_weights (lead v) → v ≡ m → pos 3 ≤ℤ weight curve_weights (lead m)
    weighs v k e = omega (arith, ints, k, ap (λ u. weight curve_weights (lead u)) e)

up_to_two_or_down : (m : List ℤ) → Contains curve_basis_moves m → IsUpTo (Some 2) (weight curve_weights (lead m)) →
    Contains (curve_first ∷ []) m ⊎ StepsDown m
up_to_two_or_down m h light = ⊎_elim (λ e. inl (subst (Contains (curve_first ∷ [])) e (0, omega arith, refl)))
    (λ k. absurd (omega (arith, ints, k, light))) (first_or_heavy m h)

pub up_to_two : IsMinimalMarkovBasis curve_lattice (Some 2) (curve_first ∷ [])
unfolding weight positive_part
up_to_two =
    the_answer curve_graded (answer_from_components curve_graded curve_basis (λ i j d h l. absurd (omega arith))
    (All-cons (λ m. Contains curve_basis_moves m × IsUpTo (Some 2) (weight curve_weights (lead m))
    × IsLeastOfComponent curve_lattice (lead m)) curve_first []
    ((0, omega arith, refl), omega (arith, ints), first_least)
    (All-nil (λ m. Contains curve_basis_moves m × IsUpTo (Some 2) (weight curve_weights (lead m))
    × IsLeastOfComponent curve_lattice (lead m)))) up_to_two_or_down)

first_weighs : weight curve_weights (lead curve_first) ≡ pos 2
unfolding weight positive_part
first_weighs = refl

pub up_to_one : IsMinimalMarkovBasis curve_lattice (Some 1) []
up_to_one =
    the_answer curve_graded (answer_from_components curve_graded curve_basis (λ i j d h l. absurd (omega arith))
    (All-nil (λ m. Contains curve_basis_moves m × IsUpTo (Some 1) (weight curve_weights (lead m))
    × IsLeastOfComponent curve_lattice (lead m)))
    (λ m h light. absurd (omega (arith, ints, light, All-contains IsAtLeastTwo curve_basis_moves m heavy h, first_weighs))))
