-- Lists that are made piece by piece.
use Rattle.std.proofs.Common.{◌≡◌, ℕ, zero, suc, ◌+◌, ◌<◌, List, [], ◌∷◌, ◌++◌, length, take, get_or, slice_get, Some, ℤ, pos, ap, sym, ◌∙◌, arith, append_assoc, ◌*ℤ◌}
use Rattle.std.specs.List.{flat_map, range_with_len}
use Rattle.std.proofs.lemmas.List.{flat_map_more, take_more, map_more}
use Rattle.std.proofs.lemmas.Option.{slice_get_within, get_or_from_slice_get}
use Rattle.mk_model.specs.Vectors.{scale}

-- one number more
range_on : (a n j : ℕ) → a + n ≡ j → range_with_len a (suc n) ≡ range_with_len a n ++ j ∷ []
range_on a zero j e = let same : a ≡ j = omega arith in ap (λ k. k ∷ []) same
range_on a (suc n) j e = ap (λ l. a ∷ l) (range_on (a + 1) n j (omega arith))

pub range_more : (n : ℕ) → range_with_len 0 (n + 1) ≡ range_with_len 0 n ++ n ∷ []
range_more n = let on : n + 1 ≡ suc n = omega arith in ap (range_with_len 0) on ∙ range_on 0 n n (omega arith)

-- the piece of one number more
pub range_piece : {A : Type 0} (f : ℕ → List A) (front bs cs : List A) (n : ℕ) → bs ≡ front ++ flat_map f (range_with_len 0 n) → cs ≡ bs ++ f n
    → cs ≡ front ++ flat_map f (range_with_len 0 (n + 1))
range_piece f front bs cs n e d =
    d ∙ ap (λ bytes. bytes ++ f n) e ∙ flat_map_more f front (range_with_len 0 n) n ∙ ap (λ ns. front ++ flat_map f ns) (sym (range_more n))

-- the piece of one element more
pub element_piece : {X A : Type 0} (f : X → List A) (xs : List X) (front bs cs : List A) (i : ℕ) (x : X) → slice_get xs i ≡ Some x → bs ≡ front ++ flat_map f (take i xs) → cs ≡ bs ++ f x
    → cs ≡ front ++ flat_map f (take (i + 1) xs)
element_piece f xs front bs cs i x at e d =
    d ∙ ap (λ bytes. bytes ++ f x) e ∙ flat_map_more f front (take i xs) x
    ∙ ap (λ y. front ++ flat_map f (take i xs ++ y ∷ [])) (sym (get_or_from_slice_get xs i x x at))
    ∙ ap (λ ys. front ++ flat_map f ys) (sym (take_more xs i x (slice_get_within xs i x at)))

-- the piece of the element at a place
pub place_piece : {X A : Type 0} (f : X → List A) (xs : List X) (front bs cs : List A) (i : ℕ) (d : X) → i < length xs → bs ≡ front ++ flat_map f (take i xs) → cs ≡ bs ++ f (get_or xs i d)
    → cs ≡ front ++ flat_map f (take (i + 1) xs)
place_piece f xs front bs cs i d h e p =
    p ∙ ap (λ bytes. bytes ++ f (get_or xs i d)) e ∙ flat_map_more f front (take i xs) (get_or xs i d) ∙ ap (λ ys. front ++ flat_map f ys) (sym (take_more xs i d h))

-- one entry more
pub entry_piece : (k : ℤ) (row front bs cs : List ℤ) (i : ℕ) → i < length row → bs ≡ front ++ scale k (take i row) → cs ≡ bs ++ (k *ℤ get_or row i (pos 0)) ∷ []
    → cs ≡ front ++ scale k (take (i + 1) row)
unfolding scale
entry_piece k row front bs cs i h e d =
    d ∙ ap (λ es. es ++ (k *ℤ get_or row i (pos 0)) ∷ []) e ∙ append_assoc front (scale k (take i row)) _
    ∙ ap (λ (es : List ℤ). front ++ es) (sym (map_more (λ a. k *ℤ a) row i (pos 0) h))
