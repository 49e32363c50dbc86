-- The product of a grading and a row, one column after another.
use Rattle.std.proofs.Common.{◌≡◌, ℕ, zero, suc, ◌+◌, ◌*◌, ◌<◌, ◌≤◌, List, [], ◌∷◌, length, take, get_or, All, refl, ap, add-one, subst, ◌∙◌, sym, arith, ℤ, pos, neg_ℤ, ◌+ℤ◌, ◌*ℤ◌, ◌≤ℤ◌, unsigned_abs, ◌^◌}
use Rattle.std.proofs.Math.Nat.{mul-le-mul}
use mir.Syntax.{w64, w128}
use mir.Val.{SFits, to_z, of_z}
use Rattle.std.proofs.lemmas.List.Elements.{All-get_or, All-weaker}
use Rattle.std.proofs.lemmas.List.{take_all}
use Rattle.std.proofs.lemmas.Int.{ints, unsigned_abs-mul, to_z-of_z, fits_signed_from_abs}
use Rattle.mk_model.specs.Vectors.{weight, IsEntry}
use Rattle.mk_model.specs.ChosenGradings.{IsSmallEntry}
use Rattle.mk_move.specs.Gradings.{IsWeight, AreWeights}
use Rattle.mk_move.proofs.Entries.{as_entry, most_entry, abs_bounds, abs_from_bounds, IsEntry-abs}

-- the product of one column more
pub weight_more : (w x : List ℤ) (i : ℕ) → i < length w → i < length x → weight (take (suc i) w) (take (suc i) x) ≡ weight (take i w) (take i x) +ℤ (get_or w i (pos 0) *ℤ get_or x i (pos 0))
unfolding weight
weight_more [] x i h l = absurd (omega arith)
weight_more (k ∷ w) [] i h l = absurd (omega arith)
weight_more (k ∷ w) (a ∷ x) zero h l = omega (arith, ints)
weight_more (k ∷ w) (a ∷ x) (suc i) h l =
    let less = weight_more w x i (omega arith) (omega arith) in
    omega (arith, ints, less)

-- the most that one column adds
abbrev pub most_of_column : ℕ
most_of_column = 2147483647 * most_entry

-- a weight is a small entry
pub IsWeight-small : (k : ℤ) → IsWeight k → IsSmallEntry k
IsWeight-small k h = (omega (arith, ints, h.0), h.1)

pub weights_small : (w : List ℤ) → All IsWeight w → All IsSmallEntry w
weights_small w h = All-weaker IsWeight IsSmallEntry IsWeight-small w h

pub small_bounds : (k a : ℤ) → IsSmallEntry k → IsEntry a → (neg_ℤ (pos most_of_column) ≤ℤ (k *ℤ a)) × ((k *ℤ a) ≤ℤ pos most_of_column)
small_bounds k a h l =
    let of_k : unsigned_abs k ≤ 2147483647 = abs_from_bounds k 2147483647 h.0 h.1 in
    abs_bounds (k *ℤ a) most_of_column (omega (arith, unsigned_abs-mul k a, mul-le-mul of_k (IsEntry-abs a l)))

-- what the code has of a weight, as a wider number
pub weight_read : (k r : ℤ) → IsSmallEntry k → r ≡ to_z w64 (of_z w64 k) → to_z w128 (of_z w128 r) ≡ k
weight_read k r h e =
    let of_k : unsigned_abs k ≤ 2147483647 = abs_from_bounds k 2147483647 h.0 h.1 in
    ap (λ z. to_z w128 (of_z w128 z)) (e ∙ to_z-of_z w64 k (fits_signed_from_abs w64 k (omega arith))) ∙ to_z-of_z w128 k (fits_signed_from_abs w128 k (omega arith))

product_fits : (k a : ℤ) → IsSmallEntry k → IsEntry a → SFits w128 (k *ℤ a)
product_fits k a h l =
    let bounds = small_bounds k a h l in
    fits_signed_from_abs w128 (k *ℤ a) (omega (arith, abs_from_bounds (k *ℤ a) most_of_column bounds.0 bounds.1))

-- what the code's product of a small entry and an entry gives, and that it fits
pub product_read : (k a r s : ℤ) → IsSmallEntry k → IsEntry a → r ≡ to_z w64 (of_z w64 k) → as_entry s ≡ a → to_z w128 (of_z w128 (to_z w128 (of_z w128 r) *ℤ as_entry s)) ≡ k *ℤ a
product_read k a r s h l p q =
    ap (λ z. to_z w128 (of_z w128 z)) (ap (λ u. u *ℤ as_entry s) (weight_read k r h p) ∙ ap (λ v. k *ℤ v) q)
    ∙ to_z-of_z w128 (k *ℤ a) (product_fits k a h l)

pub product_read_fits : (k a r s : ℤ) → IsSmallEntry k → IsEntry a → r ≡ to_z w64 (of_z w64 k) → as_entry s ≡ a → SFits w128 (to_z w128 (of_z w128 r) *ℤ as_entry s)
product_read_fits k a r s h l p q =
    subst (SFits w128) (sym (ap (λ u. u *ℤ as_entry s) (weight_read k r h p) ∙ ap (λ v. k *ℤ v) q)) (product_fits k a h l)

-- one column more keeps the bounds on a product, and the sum fits
pub sum_fits : (total p : ℤ) (n : ℕ) → n < 512 → neg_ℤ (pos (n * most_of_column)) ≤ℤ total → total ≤ℤ pos (n * most_of_column) → neg_ℤ (pos most_of_column) ≤ℤ p → p ≤ℤ pos most_of_column → SFits w128 (total +ℤ p)
sum_fits total p n few h l k m =
    let bounded : n * most_of_column ≤ 511 * most_of_column = omega arith in
    fits_signed_from_abs w128 (total +ℤ p) (omega (arith, abs_from_bounds (total +ℤ p) (512 * most_of_column) (omega (arith, ints)) (omega (arith, ints))))

-- the total so far, and its bounds
pub record IsTotal (w x : List ℤ) (i : ℕ) (total : ℤ) : Type 0 where
  pub value : total ≡ weight (take i w) (take i x)
  pub least : neg_ℤ (pos (i * most_of_column)) ≤ℤ total
  pub most : total ≤ℤ pos (i * most_of_column)

-- a product that fits beside the total, and the total with it
pub record IsTurn (w x : List ℤ) (i : ℕ) (total product : ℤ) : Type 0 where
  pub fits : SFits w128 (total +ℤ product)
  pub next : IsTotal w x (i + 1) (to_z w128 (of_z w128 (total +ℤ product)))

-- one turn of the loop over the columns
pub turn_small : (w x : List ℤ) (i : ℕ) (total r s : ℤ) → length w ≤ 512 → All IsSmallEntry w → All IsEntry x → length x ≡ length w → i < length x → IsTotal w x i total → r ≡ to_z w64 (of_z w64 (get_or w i (pos 0))) → as_entry s ≡ get_or x i (pos 0) → IsTurn w x i total (to_z w128 (of_z w128 (to_z w128 (of_z w128 r) *ℤ as_entry s)))
turn_small w x i total r s few small entries same lt so_far p q =
    let k = get_or w i (pos 0) in
    let a = get_or x i (pos 0) in
    let in_w : i < length w = omega arith in
    let small_ok : IsSmallEntry k = All-get_or IsSmallEntry w i (pos 0) in_w small in
    let entry_ok : IsEntry a = All-get_or IsEntry x i (pos 0) lt entries in
    let bounds = small_bounds k a small_ok entry_ok in
    let fits : SFits w128 (total +ℤ (k *ℤ a)) =
    sum_fits total (k *ℤ a) i (omega arith) so_far.least so_far.most bounds.0 bounds.1 in
    let same_value : to_z w128 (of_z w128 (total +ℤ (k *ℤ a))) ≡ total +ℤ (k *ℤ a) = to_z-of_z w128 (total +ℤ (k *ℤ a)) fits in
    let least_now : neg_ℤ (pos ((i + 1) * most_of_column)) ≤ℤ (total +ℤ (k *ℤ a)) = omega (arith, ints, so_far.least, bounds.0) in
    let most_now : (total +ℤ (k *ℤ a)) ≤ℤ pos ((i + 1) * most_of_column) = omega (arith, ints, so_far.most, bounds.1) in
    let plain : IsTurn w x i total (k *ℤ a) = record {
      fits = fits;
      next = record {
        value = same_value ∙ ap (λ (t : ℤ). t +ℤ (k *ℤ a)) so_far.value ∙ sym (weight_more w x i in_w lt) ∙ ap (λ n. weight (take n w) (take n x)) (sym (add-one i));
        least = subst (λ (t : ℤ). neg_ℤ (pos ((i + 1) * most_of_column)) ≤ℤ t) (sym same_value) least_now;
        most = subst (λ (t : ℤ). t ≤ℤ pos ((i + 1) * most_of_column)) (sym same_value) most_now;
      };
    } in
    subst (IsTurn w x i total) (sym (product_read k a r s small_ok entry_ok p q)) plain

-- the same with the weights of a grading
pub turn : (w x : List ℤ) (i : ℕ) (total r s : ℤ) → AreWeights w → All IsEntry x → length x ≡ length w → i < length x → IsTotal w x i total → r ≡ to_z w64 (of_z w64 (get_or w i (pos 0))) → as_entry s ≡ get_or x i (pos 0) → IsTurn w x i total (to_z w128 (of_z w128 (to_z w128 (of_z w128 r) *ℤ as_entry s)))
turn w x i total r s weights entries same lt so_far p q =
    turn_small w x i total r s weights.columns (weights_small w weights.each) entries same lt so_far p q

pub no_total : (w x : List ℤ) → IsTotal w x 0 (pos 0)
unfolding weight
no_total w x = record { value = refl; least = omega (arith, ints); most = omega (arith, ints) }

pub whole_total : (w x : List ℤ) (i : ℕ) (total : ℤ) → length w ≤ i → length x ≤ i → IsTotal w x i total → total ≡ weight w x
whole_total w x i total h l so_far =
    so_far.value ∙ ap (λ y. weight (take i w) y) (take_all i x l) ∙ ap (λ v. weight v x) (take_all i w h)

-- ---- how large a product is
one_column : (k a t : ℤ) (n : ℕ) → IsSmallEntry k → IsEntry a → unsigned_abs t ≤ n → unsigned_abs ((k *ℤ a) +ℤ t) ≤ most_of_column + n
one_column k a t n h l m =
    let first = small_bounds k a h l in
    let others = abs_bounds t n m in
    abs_from_bounds ((k *ℤ a) +ℤ t) (most_of_column + n) (omega (arith, ints, first.0, others.0)) (omega (arith, ints, first.1, others.1))

product_within : (w x : List ℤ) → All IsSmallEntry w → All IsEntry x → unsigned_abs (weight w x) ≤ length w * most_of_column
unfolding weight
product_within [] x h l = omega arith
product_within (k ∷ w) [] h l = omega arith
product_within (k ∷ w) (a ∷ x) h l =
    let more = one_column k a (weight w x) (length w * most_of_column) (h 0 (pos 0) (omega arith)) (l 0 (pos 0) (omega arith)) (product_within w x (λ i d m. h (suc i) d (omega arith)) (λ i d m. l (suc i) d (omega arith))) in
    omega (arith, more)

-- the product of at most 512 small numbers and a row stays below 2^121
pub product_small : (w x : List ℤ) → length w ≤ 512 → All IsSmallEntry w → All IsEntry x → unsigned_abs (weight w x) < 2 ^ 121
product_small w x few h l =
    let columns : length w * most_of_column ≤ 512 * most_of_column = omega arith in
    omega (arith, product_within w x h l)
