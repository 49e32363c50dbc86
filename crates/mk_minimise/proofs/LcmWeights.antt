-- The least common multiple of leads, as the code has it at a column.
use Rattle.std.proofs.Common.{◌≡◌, ◌⊎◌, ℕ, ◌<◌, List, [], length, ℤ, pos, ◌+ℤ◌, ◌≤ℤ◌, ◌<ℤ◌, All, arith, ap, refl, sym, ◌∙◌, subst}
use Rattle.std.specs.Int.{int_max}
use Rattle.std.proofs.lemmas.Int.{ints, int_max_is}
use Rattle.std.proofs.lemmas.List.{get_or_default}
use Rattle.std.proofs.lemmas.List.Elements.{All-nil}
use Rattle.mk_model.specs.Vectors.{entry, add, weight, IsEntry, IsPoint}
use Rattle.mk_model.specs.Lattices.{lattice_of, HasGrading}
use Rattle.mk_model.specs.Orders.{lead}
use Rattle.mk_model.specs.Pairs.{AreDisjoint}
use Rattle.mk_model.specs.Reductions.{lcm, Divides}
use Rattle.mk_model.proofs.VectorAlgebra.{lengths, add_at, entry-add, entry-positive_part, weight-add, IsPoint-add, IsPoint-positive_part}
use Rattle.mk_model.proofs.Divisors.{length-lcm, entry-lcm, lcm_divides, IsPoint-lcm}
use Rattle.mk_model.proofs.DivisorWeights.{proper_divisor_lighter}
use Rattle.mk_move.specs.Gradings.{AreWeights}
use Rattle.mk_move.proofs.Entries.{as_entry, entry_read}

max_entry : (a b : ℤ) → IsEntry a → IsEntry b → IsEntry (int_max a b)
max_entry a b h k = (omega (arith, ints, int_max_is a b, h.0, k.0), omega (arith, ints, int_max_is a b, h.1, k.1))

zero_entry : IsEntry (pos 0)
zero_entry = (omega (arith, ints), omega (arith, ints))

nested : (a b : ℤ) → int_max (int_max a b) (pos 0) ≡ int_max (int_max a (pos 0)) (int_max b (pos 0))
nested a b =
    omega (arith, ints, int_max_is a b, int_max_is (int_max a b) (pos 0), int_max_is a (pos 0), int_max_is b (pos 0), int_max_is (int_max a (pos 0)) (int_max b (pos 0)))

lcm_entry : (x y : List ℤ) (c : ℕ) → entry (lcm (lead x) (lead y)) c ≡ int_max (int_max (entry x c) (pos 0)) (int_max (entry y c) (pos 0))
lcm_entry x y c = entry-lcm (lead x) (lead y) c ∙ ap (λ z. int_max z (entry (lead y) c)) (entry-positive_part x c) ∙ ap (int_max (int_max (entry x c) (pos 0))) (entry-positive_part y c)

pub lcm_entries : (x y : List ℤ) → length x ≡ length y → All IsEntry x → All IsEntry y → All IsEntry (lcm (lead x) (lead y))
lcm_entries x y e h k c d l =
    let within : c < length x = omega (arith, lengths, length-lcm (lead x) (lead y), l) in
    subst IsEntry (sym (get_or_default (lcm (lead x) (lead y)) c d (pos 0) l ∙ lcm_entry x y c))
    (max_entry (int_max (entry x c) (pos 0)) (int_max (entry y c) (pos 0)) (max_entry (entry x c) (pos 0) (h c (pos 0) within) zero_entry) (max_entry (entry y c) (pos 0) (k c (pos 0) (omega arith)) zero_entry))

pub length-lcm_leads : (x y : List ℤ) (n : ℕ) → length x ≡ n → length y ≡ n → length (lcm (lead x) (lead y)) ≡ n
length-lcm_leads x y n h k = omega (arith, lengths, length-lcm (lead x) (lead y))

-- the larger of two entries and 0, as the code has it
pub larger_read : (x y : List ℤ) (c : ℕ) (r s t u : ℤ) → IsEntry (entry x c) → IsEntry (entry y c) → r ≡ entry x c → s ≡ entry y c → t ≡ int_max (as_entry r) (as_entry s) → u ≡ int_max (as_entry t) (pos 0) →
    as_entry u ≡ entry (lcm (lead x) (lead y)) c
larger_read x y c r s t u h k of_r of_s of_t of_u =
    let a = entry x c in
    let b = entry y c in
    let larger : t ≡ int_max a b =
    of_t ∙ ap (λ z. int_max (as_entry z) (as_entry s)) of_r ∙ ap (λ z. int_max z (as_entry s)) (entry_read a h)
    ∙ ap (λ z. int_max a (as_entry z)) of_s ∙ ap (int_max a) (entry_read b k) in
    let value : u ≡ entry (lcm (lead x) (lead y)) c =
    of_u ∙ ap (λ z. int_max (as_entry z) (pos 0)) larger ∙ ap (λ z. int_max z (pos 0)) (entry_read (int_max a b) (max_entry a b h k)) ∙ nested a b ∙ sym (lcm_entry x y c) in
    let in_range : IsEntry (entry (lcm (lead x) (lead y)) c) = subst IsEntry (sym (lcm_entry x y c)) (max_entry (int_max a (pos 0)) (int_max b (pos 0)) (max_entry a (pos 0) h zero_entry) (max_entry b (pos 0) k zero_entry)) in
    ap (λ z. as_entry z) value ∙ entry_read (entry (lcm (lead x) (lead y)) c) in_range

-- ---- leads that overlap
one_is_zero : (a b : ℤ) → pos 0 ≤ℤ a → pos 0 ≤ℤ b → int_max a b ≡ a +ℤ b → (a ≡ pos 0) ⊎ (b ≡ pos 0)
one_is_zero a b h k e = grind (arith, ints, int_max_is a b)

-- where leads overlap, their least common multiple is lighter than both together
pub overlap_lighter : (w x y : List ℤ) → AreWeights w → length x ≡ length w → length y ≡ length w → ¬ (AreDisjoint (lead x) (lead y)) → weight w (lcm (lead x) (lead y)) <ℤ (weight w (lead x) +ℤ weight w (lead y))
overlap_lighter w x y weights of_x of_y overlap =
    subst (λ z. weight w (lcm (lead x) (lead y)) <ℤ z) (weight-add w (lead x) (lead y))
    (proper_divisor_lighter g (add (lead x) (lead y)) (lcm (lead x) (lead y)) (IsPoint-add p q) (IsPoint-lcm p q) (lcm_divides first second) (λ e. overlap (disjoint e)))
  where
    g : HasGrading (lattice_of (length w) [] w)
    g = record {
      columns = refl;
      positive = λ c l. (weights.each c (pos 0) l).0;
      rows_columns = All-nil (λ row. length row ≡ length w);
      rows_weight = All-nil (λ row. weight w row ≡ pos 0);
    }

    p : IsPoint (length w) (lead x)
    p = IsPoint-positive_part x of_x

    q : IsPoint (length w) (lead y)
    q = IsPoint-positive_part y of_y

    first : Divides (lead x) (add (lead x) (lead y))
    first = record { entries = λ c. omega (arith, ints, add_at (lead x) (lead y) c, q.nonnegative c) }

    second : Divides (lead y) (add (lead x) (lead y))
    second = record { entries = λ c. omega (arith, ints, add_at (lead x) (lead y) c, p.nonnegative c) }

    disjoint : lcm (lead x) (lead y) ≡ add (lead x) (lead y) → AreDisjoint (lead x) (lead y)
    disjoint e c =
        one_is_zero (entry (lead x) c) (entry (lead y) c) (p.nonnegative c) (q.nonnegative c)
        (sym (entry-lcm (lead x) (lead y) c) ∙ ap (λ v. entry v c) e ∙ entry-add (lead x) (lead y) c)
