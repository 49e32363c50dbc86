-- A lattice with its costs in one column more: its grading, its fibres, and their least vectors.
use Rattle.std.proofs.Common.{◌≡◌, ◌⊎◌, inl, inr, ℕ, zero, suc, ◌≤◌, ◌<◌, List, [], ◌∷◌, ◌++◌, length, ℤ, pos, ◌+ℤ◌, ◌-ℤ◌, ◌*ℤ◌, ◌≤ℤ◌, All, arith, ap, refl, sym, ◌∙◌, subst, take, length-append}
use Rattle.std.proofs.lemmas.Int.{ints, by_lt_z}
use Rattle.std.proofs.lemmas.Bool.{cases_lt}
use Rattle.std.proofs.lemmas.List.{map-append}
use Rattle.std.proofs.lemmas.List.Elements.{All-nil, All-cons, All-head, All-tail}
use lib.IntN.{*ℤ_comm, *ℤ-zero}
use Rattle.mk_model.specs.Vectors.{entry, zeros, combine, add, subtract, negate, scale, weight, IsPoint}
use Rattle.mk_model.specs.Lattices.{Lattice, combination, InLattice, HasGrading}
use Rattle.mk_model.specs.Orders.{standard, IsBelow}
use Rattle.mk_model.specs.Cheapest.{IsOfFibre, IsNormalForm, IsLeastCheapest, TimesRow, WalksDown}
use Rattle.mk_model.specs.Lifting.{lifted, lifted_rows, gains_of, lifted_lattice, CanLift, lowered}
use Rattle.mk_model.proofs.Integers.{product_nonnegative, one-*ℤ}
use Rattle.mk_model.proofs.LatticeLaws.{AllColumns, length-combination, InLattice-columns, InLattice-weight, InLattice-subtract}
use Rattle.mk_model.proofs.OrderLaws.{standard_within}
use Rattle.mk_model.proofs.VectorAlgebra.{lengths, columns, same_vectors, weight-add, weight-scale, weight-negate, weight-zeros, weight-subtract, subtract-add, add_difference, add_comm, length-scale, length-add}

-- ---- one entry more
combine-last : (f : ℤ → ℤ → ℤ) (x y : List ℤ) (a b : ℤ) → length x ≡ length y → combine f (x ++ a ∷ []) (y ++ b ∷ []) ≡ combine f x y ++ f a b ∷ []
unfolding combine
combine-last f [] [] a b l = refl
combine-last f [] (v ∷ y) a b l = absurd (omega (arith, l))
combine-last f (u ∷ x) [] a b l = absurd (omega (arith, l))
combine-last f (u ∷ x) (v ∷ y) a b l = ap (λ z. f u v ∷ z) (combine-last f x y a b (omega (arith, l)))

add-last : (x y : List ℤ) (a b : ℤ) → length x ≡ length y → add (x ++ a ∷ []) (y ++ b ∷ []) ≡ add x y ++ (a +ℤ b) ∷ []
unfolding add
add-last x y a b l = combine-last ◌+ℤ◌ x y a b l

subtract-last : (x y : List ℤ) (a b : ℤ) → length x ≡ length y → subtract (x ++ a ∷ []) (y ++ b ∷ []) ≡ subtract x y ++ (a -ℤ b) ∷ []
unfolding subtract
subtract-last x y a b l = combine-last ◌-ℤ◌ x y a b l

scale-last : (k : ℤ) (x : List ℤ) (a : ℤ) → scale k (x ++ a ∷ []) ≡ scale k x ++ (k *ℤ a) ∷ []
unfolding scale
scale-last k x a = map-append (λ b. k *ℤ b) x (a ∷ [])

zeros-last : (n : ℕ) → zeros (suc n) ≡ zeros n ++ pos 0 ∷ []
zeros-last zero = refl
zeros-last (suc n) = ap (λ z. pos 0 ∷ z) (zeros-last n)

weight-last : (w x : List ℤ) (k a : ℤ) → length w ≡ length x → weight (w ++ k ∷ []) (x ++ a ∷ []) ≡ weight w x +ℤ (k *ℤ a)
unfolding weight
weight-last [] [] k a l = omega (arith, ints)
weight-last [] (b ∷ x) k a l = absurd (omega (arith, l))
weight-last (v ∷ w) [] k a l = absurd (omega (arith, l))
weight-last (v ∷ w) (b ∷ x) k a l = omega (arith, ints, weight-last w x k a (omega (arith, l)))

entry-front : (x : List ℤ) (a : ℤ) (c : ℕ) → c < length x → entry (x ++ a ∷ []) c ≡ entry x c
entry-front [] a c l = absurd (omega (arith, l))
entry-front (b ∷ x) a zero l = refl
entry-front (b ∷ x) a (suc c) l = entry-front x a c (omega (arith, l))

entry-last : (x : List ℤ) (a : ℤ) → entry (x ++ a ∷ []) (length x) ≡ a
entry-last [] a = refl
entry-last (b ∷ x) a = entry-last x a

length-last : (x : List ℤ) (a : ℤ) → length (x ++ a ∷ []) ≡ suc (length x)
length-last x a = omega (arith, length-append x (a ∷ []))

nonnegative-last : (x : List ℤ) (a : ℤ) → ((c : ℕ) → pos 0 ≤ℤ entry x c) → pos 0 ≤ℤ a → (c : ℕ) → pos 0 ≤ℤ entry (x ++ a ∷ []) c
nonnegative-last [] a h k zero = k
nonnegative-last [] a h k (suc c) = omega (arith, ints)
nonnegative-last (b ∷ x) a h k zero = h zero
nonnegative-last (b ∷ x) a h k (suc c) = nonnegative-last x a (λ d. h (suc d)) k c

nonnegative-front : (x : List ℤ) (a : ℤ) → ((c : ℕ) → pos 0 ≤ℤ entry (x ++ a ∷ []) c) → (c : ℕ) → pos 0 ≤ℤ entry x c
nonnegative-front [] a h c = omega (arith, ints)
nonnegative-front (b ∷ x) a h zero = h zero
nonnegative-front (b ∷ x) a h (suc c) = nonnegative-front x a (λ d. h (suc d)) c

take-front : (x : List ℤ) (a : ℤ) → take (length x) (x ++ a ∷ []) ≡ x
take-front [] a = refl
take-front (b ∷ x) a = ap (λ z. b ∷ z) (take-front x a)

below-front : (n : ℕ) (p : List ℕ) (x y : List ℤ) (a b : ℤ) → length x ≡ n → length y ≡ n → All (λ c. c < n) p → IsBelow p x y → IsBelow p (x ++ a ∷ []) (y ++ b ∷ [])
below-front n [] x y a b l k h below = below
below-front n (c ∷ p) x y a b l k h below =
    let c_within = All-head (λ c. c < n) c p h in
    let first = entry-front x a c (omega (arith, l, c_within)) in
    let second = entry-front y b c (omega (arith, k, c_within)) in
    elim below [
      | inl less ↦ inl (omega (arith, ints, first, second, less))
      | inr later ↦ inr (first ∙ later.0 ∙ sym second, below-front n p x y a b l k (All-tail (λ c. c < n) c p h) later.1)
    ]

-- ---- products
weight-comm : (w x : List ℤ) → weight w x ≡ weight x w
unfolding weight
weight-comm [] [] = refl
weight-comm [] (b ∷ x) = refl
weight-comm (v ∷ w) [] = refl
weight-comm (v ∷ w) (b ∷ x) = omega (arith, ints, weight-comm w x, *ℤ_comm v b)

weight-at_least_0 : (w x : List ℤ) → ((c : ℕ) → pos 0 ≤ℤ entry w c) → ((c : ℕ) → pos 0 ≤ℤ entry x c) → pos 0 ≤ℤ weight w x
unfolding weight
weight-at_least_0 [] x h k = omega (arith, ints)
weight-at_least_0 (v ∷ w) [] h k = omega (arith, ints)
weight-at_least_0 (v ∷ w) (b ∷ x) h k =
    omega (arith, ints, product_nonnegative v b (h zero) (k zero), weight-at_least_0 w x (λ c. h (suc c)) (λ c. k (suc c)))

-- what gains are
gained : (gain : ℤ) (w prices x : List ℤ) → length prices ≡ length w → weight (gains_of gain w prices) x ≡ (gain *ℤ weight w x) -ℤ weight prices x
gained gain w prices x l =
    weight-comm (gains_of gain w prices) x
    ∙ weight-subtract x (scale gain w) prices (omega (arith, l, length-scale gain w))
    ∙ ap (λ a. a -ℤ weight x prices) (weight-scale x gain w)
    ∙ ap (λ a. (gain *ℤ a) -ℤ weight x prices) (weight-comm x w)
    ∙ ap (λ a. (gain *ℤ weight w x) -ℤ a) (weight-comm x prices)

raised : (raise : ℤ) (w prices x : List ℤ) → weight (add (scale raise w) prices) x ≡ (raise *ℤ weight w x) +ℤ weight prices x
raised raise w prices x =
    weight-comm (add (scale raise w) prices) x
    ∙ weight-add x (scale raise w) prices
    ∙ ap (λ a. a +ℤ weight x prices) (weight-scale x raise w)
    ∙ ap (λ a. (raise *ℤ a) +ℤ weight x prices) (weight-comm x w)
    ∙ ap (λ a. (raise *ℤ weight w x) +ℤ a) (weight-comm x prices)

-- ---- combinations of the lifted rows
abbrev LiftsEach : ℕ → List (List ℤ) → List ℤ → (ℕ → ℤ) → Type 0
LiftsEach n rows prices factors = combination (suc n) factors (lifted_rows prices rows) ≡ lifted (negate prices) (combination n factors rows)

combination-lifted : (n : ℕ) (rows : List (List ℤ)) (prices : List ℤ) (factors : ℕ → ℤ) → AllColumns n rows → LiftsEach n rows prices factors
unfolding combination
combination-lifted n [] prices factors a = zeros-last n ∙ ap (λ k. zeros n ++ k ∷ []) (sym (weight-zeros (negate prices) n))
combination-lifted n (row ∷ rows) prices factors a =
    ap (λ z. add (scale (factors 0) (lifted (negate prices) row)) z) (combination-lifted n rows prices (λ i. factors (suc i)) rest)
    ∙ ap (λ z. add z (lifted (negate prices) others)) (scale-last (factors 0) row (weight (negate prices) row))
    ∙ add-last (scale (factors 0) row) others (factors 0 *ℤ weight (negate prices) row) (weight (negate prices) others)
    (omega (arith, length-scale (factors 0) row, All-head (λ row. length row ≡ n) row rows a, length-combination n (λ i. factors (suc i)) rows rest))
    ∙ ap (λ k. add (scale (factors 0) row) others ++ k ∷ []) (sym total)
  where
    rest : AllColumns n rows
    rest = All-tail (λ row. length row ≡ n) row rows a

    others : List ℤ
    others = combination n (λ i. factors (suc i)) rows

    total : weight (negate prices) (add (scale (factors 0) row) others) ≡ (factors 0 *ℤ weight (negate prices) row) +ℤ weight (negate prices) others
    total = weight-add (negate prices) (scale (factors 0) row) others ∙ ap (λ a. a +ℤ weight (negate prices) others) (weight-scale (negate prices) (factors 0) row)

module _ (lattice : Lattice) (prices : List ℤ) (gain raise : ℤ) (graded : HasGrading lattice) (can : CanLift lattice prices gain raise) where
  abbrev n : ℕ
  n = lattice.columns

  abbrev rows : List (List ℤ)
  rows = lattice.rows

  abbrev w : List ℤ
  w = lattice.grading

  abbrev gains : List ℤ
  gains = gains_of gain w prices

  prices_columns : length prices ≡ length w
  prices_columns = can.columns ∙ sym graded.columns

  -- ---- the grading
  row_columns : (rest : List (List ℤ)) → AllColumns n rest → All (λ row. length row ≡ suc n) (lifted_rows prices rest)
  row_columns [] a = All-nil (λ row. length row ≡ suc n)
  row_columns (row ∷ rest) a =
      All-cons (λ row. length row ≡ suc n) (lifted (negate prices) row) (lifted_rows prices rest)
      (length-last row (weight (negate prices) row) ∙ ap suc (All-head (λ row. length row ≡ n) row rest a)) (row_columns rest (All-tail (λ row. length row ≡ n) row rest a))

  raised_columns : length (add (scale raise w) prices) ≡ n
  raised_columns = omega (arith, lengths, can.columns, graded.columns)

  row_weight : (row : List ℤ) → length row ≡ n → weight w row ≡ pos 0 → weight (add (scale raise w) prices ++ pos 1 ∷ []) (lifted (negate prices) row) ≡ pos 0
  row_weight row l h =
      weight-last (add (scale raise w) prices) row (pos 1) (weight (negate prices) row) (raised_columns ∙ sym l)
      ∙ omega (arith, ints, raised raise w prices row, ap (λ a. raise *ℤ a) h, *ℤ-zero raise, one-*ℤ (weight (negate prices) row), ap (λ a. a) (weight-comm (negate prices) row), weight-negate row prices, weight-comm row prices)

  row_weights : (rest : List (List ℤ)) → AllColumns n rest → All (λ row. weight w row ≡ pos 0) rest → All (λ row. weight (add (scale raise w) prices ++ pos 1 ∷ []) row ≡ pos 0) (lifted_rows prices rest)
  row_weights [] a b = All-nil (λ row. weight (add (scale raise w) prices ++ pos 1 ∷ []) row ≡ pos 0)
  row_weights (row ∷ rest) a b =
      All-cons (λ row. weight (add (scale raise w) prices ++ pos 1 ∷ []) row ≡ pos 0) (lifted (negate prices) row) (lifted_rows prices rest)
      (row_weight row (All-head (λ row. length row ≡ n) row rest a) (All-head (λ row. weight w row ≡ pos 0) row rest b))
      (row_weights rest (All-tail (λ row. length row ≡ n) row rest a) (All-tail (λ row. weight w row ≡ pos 0) row rest b))

  positive-last : (c : ℕ) → c < suc n → pos 1 ≤ℤ entry (add (scale raise w) prices ++ pos 1 ∷ []) c
  positive-last c l = go (by_cases c)
    where
      by_cases : (c : ℕ) → (c < n) ⊎ (n ≤ c)
      by_cases c = cases_lt c n

      go : (c < n) ⊎ (n ≤ c) → pos 1 ≤ℤ entry (add (scale raise w) prices ++ pos 1 ∷ []) c
      go (inl less) = subst (λ a. pos 1 ≤ℤ a) (sym (entry-front (add (scale raise w) prices) (pos 1) c (omega (arith, raised_columns, less)))) (can.raised c less)
      go (inr more) =
          let last : c ≡ length (add (scale raise w) prices) = omega (arith, raised_columns, l, more) in
          subst (λ k. pos 1 ≤ℤ entry (add (scale raise w) prices ++ pos 1 ∷ []) k) (sym last)
          (subst (λ a. pos 1 ≤ℤ a) (sym (entry-last (add (scale raise w) prices) (pos 1))) (omega (arith, ints)))

  pub lifted_graded : HasGrading (lifted_lattice raise prices lattice)
  lifted_graded = record {
    columns = length-last (add (scale raise w) prices) (pos 1) ∙ ap suc raised_columns;
    positive = positive-last;
    rows_columns = row_columns rows graded.rows_columns;
    rows_weight = row_weights rows graded.rows_columns graded.rows_weight;
  }

  -- ---- the fibres
  -- the further entry of a vector of the lattice is its cost, turned
  cost_turned : (v : List ℤ) → InLattice n rows v → weight gains v ≡ weight (negate prices) v
  cost_turned v h =
      omega (arith, ints, gained gain w prices v prices_columns, ap (λ a. gain *ℤ a) (InLattice-weight w n rows v graded.rows_weight h), *ℤ-zero gain, weight-comm (negate prices) v, weight-negate v prices, weight-comm v prices)

  pub lifted_there : (x y : List ℤ) → IsPoint n x → IsOfFibre n rows x y → IsOfFibre (suc n) (lifted_rows prices rows) (lifted gains x) (lifted gains y)
  lifted_there x y p h = record {
    point = record {
      columns = length-last y (weight gains y) ∙ ap suc h.point.columns;
      nonnegative = nonnegative-last y (weight gains y) h.point.nonnegative (weight-at_least_0 gains y can.gains h.point.nonnegative);
    };
    same_fibre = (
      h.same_fibre.0,
      subtract-last y x (weight gains y) (weight gains x) same
          ∙ ap (λ a. subtract y x ++ a ∷ []) (sym (weight-subtract gains y x (omega (arith, same))) ∙ cost_turned (subtract y x) h.same_fibre)
          ∙ ap (lifted (negate prices)) h.same_fibre.1
          ∙ sym (combination-lifted n rows prices h.same_fibre.0 graded.rows_columns),
    );
  }
    where
      same : length y ≡ length x
      same = h.point.columns ∙ sym p.columns

  -- a vector of the lifted fibre is one of the fibre, lifted
  pub record IsLifted (x z : List ℤ) : Type 0 where
    pub vector : List ℤ
    pub same : z ≡ lifted gains vector
    pub of_fibre : IsOfFibre n rows x vector

  pub lifted_back : (x z : List ℤ) → IsPoint n x → IsOfFibre (suc n) (lifted_rows prices rows) (lifted gains x) z → IsLifted x z
  lifted_back x z p h = record { vector = add x v; same = same; of_fibre = record { point = point; same_fibre = subst (InLattice n rows) (sym back) in_lattice } }
    where
      v : List ℤ
      v = combination n h.same_fibre.0 rows

      in_lattice : InLattice n rows v
      in_lattice = (h.same_fibre.0, refl)

      v_columns : length v ≡ n
      v_columns = length-combination n h.same_fibre.0 rows graded.rows_columns

      back : subtract (add x v) x ≡ v
      back = ap (λ z. subtract z x) (add_comm x v) ∙ subtract-add v x (omega (arith, v_columns, p.columns))

      rest : subtract z (lifted gains x) ≡ lifted (negate prices) v
      rest = h.same_fibre.1 ∙ combination-lifted n rows prices h.same_fibre.0 graded.rows_columns

      same : z ≡ lifted gains (add x v)
      same =
          sym (add_difference z (lifted gains x) (h.point.columns ∙ sym (length-last x (weight gains x) ∙ ap suc p.columns)))
          ∙ ap (λ y. add (lifted gains x) y) rest
          ∙ add-last x v (weight gains x) (weight (negate prices) v) (p.columns ∙ sym v_columns)
          ∙ ap (λ a. add x v ++ a ∷ []) (ap (λ a. weight gains x +ℤ a) (sym (cost_turned v in_lattice)) ∙ sym (weight-add gains x v))

      point : IsPoint n (add x v)
      point = record {
        columns = omega (arith, length-add x v, p.columns, v_columns);
        nonnegative = nonnegative-front (add x v) (weight gains (add x v)) (λ c. subst (λ y. pos 0 ≤ℤ entry y c) same (h.point.nonnegative c));
      }

  -- ---- the least vector
  module _ (x y : List ℤ) (p : IsPoint n x) (of_fibre : IsOfFibre n rows x y) (least : (z : List ℤ) → IsPoint (suc n) z → InLattice (suc n) (lifted_rows prices rows) (subtract z (lifted gains y)) → ¬ (IsBelow (standard (suc n)) z (lifted gains y))) where
    between : (z : List ℤ) → IsOfFibre n rows x z → IsOfFibre n rows y z
    between z h = record {
      point = h.point;
      same_fibre = subst (InLattice n rows) (same_vectors (subtract (subtract z x) (subtract y x)) (subtract z y) (omega (arith, lengths, h.point.columns, p.columns, of_fibre.point.columns)) (λ c. omega (arith, ints, columns)))
          (InLattice-subtract n rows (subtract z x) (subtract y x) h.same_fibre of_fibre.same_fibre);
    }

    not_below : (z : List ℤ) → IsOfFibre n rows x z → ¬ (IsBelow (standard (suc n)) (lifted gains z) (lifted gains y))
    not_below z h =
        let over = lifted_there y z of_fibre.point (between z h) in
        least (lifted gains z) over.point over.same_fibre

    -- all vectors of the fibre have one weight, so that more is gained where less is paid
    weighs : (z : List ℤ) → IsOfFibre n rows x z → weight w z ≡ weight w y
    weighs z h =
        let zero = InLattice-weight w n rows (subtract z y) graded.rows_weight (between z h).same_fibre in
        omega (arith, ints, zero, weight-subtract w z y (omega (arith, h.point.columns, of_fibre.point.columns)))

    gains_and_costs : (z : List ℤ) → IsOfFibre n rows x z → weight gains z +ℤ weight prices z ≡ weight gains y +ℤ weight prices y
    gains_and_costs z h = omega (arith, ints, gained gain w prices z prices_columns, gained gain w prices y prices_columns, ap (λ a. gain *ℤ a) (weighs z h))

    last_of : (z : List ℤ) → length z ≡ n → entry (lifted gains z) n ≡ weight gains z
    last_of z l = subst (λ k. entry (lifted gains z) k ≡ weight gains z) l (entry-last z (weight gains z))

    none_cheaper : (z : List ℤ) → IsOfFibre n rows x z → weight prices y ≤ℤ weight prices z
    none_cheaper z h = by_lt_z (weight gains y) (weight gains z)
        (λ more. absurd (not_below z h (inl (omega (arith, ints, last_of z h.point.columns, last_of y of_fibre.point.columns, more)))))
        (λ less. omega (arith, ints, gains_and_costs z h, less))

    pub least_cheapest : IsLeastCheapest n rows prices x y
    least_cheapest = record {
      cheapest = record { of_fibre = of_fibre; none_cheaper = none_cheaper };
      none_below = λ z h below.
          let less = h.none_cheaper y of_fibre in
          let more = none_cheaper z h.of_fibre in
          let same : weight gains z ≡ weight gains y = omega (arith, ints, gains_and_costs z h.of_fibre, less, more) in
          not_below z h.of_fibre (inr (
            last_of z h.of_fibre.point.columns ∙ same ∙ sym (last_of y of_fibre.point.columns),
            below-front n (standard n) z y (weight gains z) (weight gains y) h.of_fibre.point.columns of_fibre.point.columns (standard_within n) below,
          ));
    }

  pub normal_form_is_least_cheapest : (x z : List ℤ) → IsPoint n x → IsNormalForm (suc n) (lifted_rows prices rows) (lifted gains x) z → (y : List ℤ) × (z ≡ lifted gains y) × IsLeastCheapest n rows prices x y
  normal_form_is_least_cheapest x z p h =
      let back = lifted_back x z p (record { point = h.least.point; same_fibre = h.same_fibre }) in (
        back.vector,
        back.same,
        least_cheapest x back.vector p back.of_fibre
            (λ other q inside below. h.least.none_below other q (subst (λ v. InLattice (suc n) (lifted_rows prices rows) (subtract other v)) (sym back.same) inside)
            (subst (λ v. IsBelow (standard (suc n)) other v) (sym back.same) below)),
      )

  -- ---- walks
  point_lowered : (x : List ℤ) → length x ≡ n → IsPoint (suc n) (lifted gains x) → IsPoint n x
  point_lowered x l p = record { columns = l; nonnegative = nonnegative-front x (weight gains x) p.nonnegative }

  -- a vector that is taken off, lifted
  taken_off : (x v : List ℤ) (times : ℤ) → length x ≡ n → InLattice n rows v → subtract (lifted gains x) (scale times (lifted (negate prices) v)) ≡ lifted gains (subtract x (scale times v))
  taken_off x v times l h =
      ap (λ z. subtract (lifted gains x) z) (scale-last times v (weight (negate prices) v))
      ∙ subtract-last x (scale times v) (weight gains x) (times *ℤ weight (negate prices) v) (l ∙ sym (length-scale times v ∙ v_columns))
      ∙ ap (λ a. subtract x (scale times v) ++ a ∷ []) (
      ap (λ a. weight gains x -ℤ (times *ℤ a)) (sym (cost_turned v h))
      ∙ ap (λ a. weight gains x -ℤ a) (sym (weight-scale gains times v))
      ∙ sym (weight-subtract gains x (scale times v) (omega (arith, l, length-scale times v, v_columns)))
      )
    where
      v_columns : length v ≡ n
      v_columns = InLattice-columns n rows v graded.rows_columns h

  pub walk_lowered : (steps : List TimesRow) (x y : List ℤ) → length x ≡ n → length y ≡ n → WalksDown (suc n) (lifted_rows prices rows) (lifted gains x) steps (lifted gains y) → WalksDown n rows x (lowered n steps) y
  walk_lowered [] x y l k (p, e) = (point_lowered x l p, sym (lowered_is y k) ∙ ap (take n) e ∙ lowered_is x l)
    where
      lowered_is : (z : List ℤ) → length z ≡ n → take n (lifted gains z) ≡ z
      lowered_is z same = subst (λ m. take m (lifted gains z) ≡ z) same (take-front z (weight gains z))
  walk_lowered (step ∷ steps) x y l k (p, h, some, rest) = (
    point_lowered x l p,
    subst (InLattice n rows) (sym row_is) inside,
    some,
    walk_lowered steps (subtract x (scale step.times (take n step.row))) y (omega (arith, lengths, l, ap length row_is, v_columns)) k
        (subst (λ z. WalksDown (suc n) (lifted_rows prices rows) z steps (lifted gains y)) next rest),
  )
    where
      v : List ℤ
      v = combination n h.0 rows

      inside : InLattice n rows v
      inside = (h.0, refl)

      v_columns : length v ≡ n
      v_columns = length-combination n h.0 rows graded.rows_columns

      lifted_row : step.row ≡ lifted (negate prices) v
      lifted_row = h.1 ∙ combination-lifted n rows prices h.0 graded.rows_columns

      row_is : take n step.row ≡ v
      row_is = ap (take n) lifted_row ∙ subst (λ m. take m (lifted (negate prices) v) ≡ v) v_columns (take-front v (weight (negate prices) v))

      next : subtract (lifted gains x) (scale step.times step.row) ≡ lifted gains (subtract x (scale step.times (take n step.row)))
      next =
          ap (λ z. subtract (lifted gains x) (scale step.times z)) lifted_row
          ∙ taken_off x v step.times l inside
          ∙ ap (λ z. lifted gains (subtract x (scale step.times z))) (sym row_is)
