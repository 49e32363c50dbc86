-- An answer is the one answer there is.
use Rattle.std.proofs.Common.{ℕ, List, Option, ℤ}
use Rattle.mk_model.specs.Lattices.{lattice_of, HasGrading}
use Rattle.mk_model.specs.Bases.{IsAnswer, IsMinimalMarkovBasis}
use Rattle.mk_model.proofs.AnswerLaws.{lists_essential, one_list}
use Rattle.mk_model.proofs.MarkovLaws.{markov_from_answer}
use Rattle.mk_model.proofs.MinimalLaws.{minimal_from_answer}

pub the_answer : {n : ℕ} {rows : List (List ℤ)} {w : List ℤ} {upto : Option ℕ} {moves : List (List ℤ)} → HasGrading (lattice_of n rows w) →
    IsAnswer (lattice_of n rows w) upto moves → IsMinimalMarkovBasis (lattice_of n rows w) upto moves
the_answer g a = record {
  answer = a;
  only = λ others b. one_list (lists_essential a) b;
  markov = markov_from_answer g a;
  minimal = minimal_from_answer g a;
}
