-- The phases of a book: one more at their end, and the last of them.
use Rattle.std.proofs.Common.{ℕ, List, [], ◌∷◌, ◌++◌, ℤ, refl, subst}
use Rattle.mk_model.specs.Books.{PlainPhase, PlainBook, IsPhaseAlong, IsPhaseEnded, Saturate, SaturateLattice, IsBudgetUsed}
use Rattle.mk_model.specs.Lattices.{Lattice}
use Rattle.mk_model.specs.Saturation.{drop_redundant}

-- a phase more, which is ended
pub saturate_push : (n : ℕ) (moves : List (List ℤ)) (lists : List (List ℕ)) (phases : List PlainPhase) (rest : List (List ℤ))
    (list : List ℕ) (left : List (List ℕ)) (phase : PlainPhase) →
    Saturate n moves lists phases rest (list ∷ left) → IsPhaseAlong n rest list phase → IsPhaseEnded phase →
    Saturate n moves lists (phases ++ phase ∷ []) (drop_redundant phase.basis) left
saturate_push n moves lists [] rest list left phase (e, f) along ended =
    subst (λ lists. Saturate n moves lists (phase ∷ []) (drop_redundant phase.basis) left) f
    (subst (λ moves. IsPhaseAlong n moves list phase) e along, ended, (refl, refl))
saturate_push n moves [] (first ∷ phases) rest list left phase h along ended = absurd h
saturate_push n moves (other ∷ lists) (first ∷ phases) rest list left phase (a, b, h) along ended =
    (a, b, saturate_push n (drop_redundant first.basis) lists phases rest list left phase h along ended)

-- the last of the phases that are ended
last_is_ended : (n : ℕ) (moves : List (List ℤ)) (lists : List (List ℕ)) (phases : List PlainPhase) (rest : List (List ℤ))
    (left : List (List ℕ)) (phase : PlainPhase) →
    Saturate n moves lists (phases ++ phase ∷ []) rest left → IsPhaseEnded phase
last_is_ended n moves [] [] rest left phase h = absurd h
last_is_ended n moves (list ∷ lists) [] rest left phase (a, b, h) = b
last_is_ended n moves [] (first ∷ phases) rest left phase h = absurd h
last_is_ended n moves (list ∷ lists) (first ∷ phases) rest left phase (a, b, h) = last_is_ended n
    (drop_redundant first.basis) lists phases rest left phase h

-- where every phase is ended, the last has no pair that isn't settled
pub ended_not_used : (lattice : Lattice) (budget : ℕ) (book : PlainBook) (rest : List (List ℤ)) (left : List (List ℕ)) →
    SaturateLattice lattice book.phases rest left → IsBudgetUsed budget book → ⊥
ended_not_used lattice budget book rest left h used =
    used.left.unsettled
    ((last_is_ended _ _ _ used.earlier rest left used.phase (subst
    (λ (phases : List PlainPhase). SaturateLattice lattice phases rest left) used.last h)).all_settled used.pair used.left.of_basis)
