-- Texts put together from pieces, and said in equal words.
use Rattle.std.proofs.Common.{◌≡◌, ℕ, ◌<◌, List, [], ◌∷◌, ◌++◌, length, refl, ap, sym, ◌∙◌, arith, append_assoc, String, Result, IfOk}
use Rattle.std.proofs.Common.{string_bytes, Global}
use Rattle.std.specs.List.{join_with_byte}
use Rattle.std.specs.declared.alloc.AllocError.{AllocError}
use Rattle.std.proofs.lemmas.Result.{IfOk-weaker}

-- one piece more, behind others
pub join_more : (c : ℕ) (pieces : List (List ℕ)) (x : List ℕ) → 0 < length pieces →
    join_with_byte c (pieces ++ x ∷ []) ≡ join_with_byte c pieces ++ (c ∷ x)
join_more c [] x h = absurd (omega arith)
join_more c (y ∷ []) x h = refl
join_more c (y ∷ z ∷ pieces) x h =
    ap (λ t. y ++ (c ∷ t)) (join_more c (z ∷ pieces) x (omega arith)) ∙ sym (append_assoc y (c ∷ join_with_byte c (z ∷ pieces)) (c ∷ x))

-- where a text is said in equal words, it is said
pub in_other_words : (made : Result (String Global) AllocError) (said meant : List ℕ) → IfOk made (λ text. string_bytes text ≡ said) →
    said ≡ meant
    → IfOk made (λ text. string_bytes text ≡ meant)
in_other_words made said meant says same = IfOk-weaker made _ _ (λ text e. e ∙ same) says
