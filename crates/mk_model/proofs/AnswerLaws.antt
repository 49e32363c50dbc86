-- The members of an answer are the essential moves up to its bound, and there is one answer.
use Rattle.std.proofs.Common.{◌≡◌, ⊎_elim, ℕ, List, Option, ℤ, Contains}
use Rattle.std.proofs.lemmas.List.Elements.{All-contains}
use Rattle.mk_model.specs.Bases.{IsEssentialUpTo, IsAnswer, ListsEssentialMoves}
use Rattle.mk_model.specs.Orders.{ComesBefore}
use Rattle.mk_model.proofs.Lists.{same_from_members}
use Rattle.mk_model.proofs.OrderLaws.{ComesBefore-asymmetric}
use Rattle.mk_model.specs.Lattices.{Lattice}

module _ {lattice : Lattice} {upto : Option ℕ} where
  -- an essential move up to the bound stands in each answer
  pub answer_has_essential : {moves : List (List ℤ)} → IsAnswer lattice upto moves → (m : List ℤ) → IsEssentialUpTo lattice upto m →
      Contains moves m
  answer_has_essential a m e = ⊎_elim (λ c. c) (λ j. absurd (e.essential.not_joined j)) (a.complete m e.essential.move e.light)

  pub answer_members_essential : {moves : List (List ℤ)} → IsAnswer lattice upto moves → (m : List ℤ) → Contains moves m →
      IsEssentialUpTo lattice upto m
  answer_members_essential {moves} a m c = All-contains (IsEssentialUpTo lattice upto) moves m a.essential c

  pub lists_essential : {moves : List (List ℤ)} → IsAnswer lattice upto moves → ListsEssentialMoves lattice upto moves
  lists_essential a = record {
    ascending = a.ascending;
    members = λ m. (answer_members_essential a m, answer_has_essential a m);
  }

  pub one_list : {moves others : List (List ℤ)} → ListsEssentialMoves lattice upto moves → ListsEssentialMoves lattice upto others →
      others ≡ moves
  one_list {moves} {others} a b =
      same_from_members (ComesBefore lattice.columns lattice.grading)
      (ComesBefore-asymmetric lattice.columns lattice.grading) others moves b.ascending a.ascending
      (λ z c. (a.members z).1 ((b.members z).0 c))
      (λ z c. (b.members z).1 ((a.members z).0 c))

  pub one_answer : {moves others : List (List ℤ)} → IsAnswer lattice upto moves → IsAnswer lattice upto others → others ≡ moves
  one_answer a b = one_list (lists_essential a) (lists_essential b)
