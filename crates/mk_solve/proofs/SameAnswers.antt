-- Rows of the same lattice have the same answer.
use Rattle.std.proofs.Common.{ℕ, List, Option, ℤ, ◌⊎◌, inl, inr, Contains}
use Rattle.std.proofs.lemmas.List.Elements.{All-weaker}
use Rattle.mk_model.specs.Bases.{ListsEssentialMoves, IsMarkovUpTo, IsMinimal, IsMove, MovesBefore, IsPointUpTo, IsEssential, IsEssentialUpTo, IsAnswer, IsMinimalMarkovBasis}
use Rattle.mk_model.specs.Lattices.{lattice_of, InLattice, SameLattice}
use Rattle.mk_model.specs.Orders.{lead, tail}
use Rattle.mk_model.specs.Vectors.{subtract}
use Rattle.mk_model.specs.Walks.{Joined}
use Rattle.mk_model.proofs.WalkLaws.{walk_weaker}
use Rattle.mk_inter.proofs.SameLattices.{SameLattice-back}

module _ {n : ℕ} {rows others : List (List ℤ)} (w : List ℤ) (s : SameLattice n rows others) where
  move_of_others : (m : List ℤ) → IsMove n rows m → IsMove n others m
  move_of_others m h = record { in_lattice = s.there m h.in_lattice; oriented = h.oriented }

  joined_of_others : (m : List ℤ) → Joined n (MovesBefore (lattice_of n rows w) m) (lead m) (tail m) → Joined n (MovesBefore (lattice_of n others w) m) (lead m) (tail m)
  joined_of_others m = walk_weaker (λ v (h, c). (move_of_others v h, c)) (λ x p. p)

  point_of_others : {upto : Option ℕ} (x : List ℤ) → IsPointUpTo (lattice_of n rows w) upto x → IsPointUpTo (lattice_of n others w) upto x
  point_of_others x p = record { point = p.point; light = p.light }

module _ {n : ℕ} {rows others : List (List ℤ)} {w : List ℤ} {upto : Option ℕ} (s : SameLattice n rows others) where
  markov_of_others : (moves : List (List ℤ)) → IsMarkovUpTo (lattice_of n rows w) upto moves → IsMarkovUpTo (lattice_of n others w) upto moves
  markov_of_others moves k = record {
    in_lattice = All-weaker (InLattice n rows) (InLattice n others) s.there moves k.in_lattice;
    joins = λ x y p q h. k.joins x y (point_of_others w (SameLattice-back s) x p) (point_of_others w (SameLattice-back s) y q) (s.back (subtract x y) h);
  }

  minimal_of_others : (moves : List (List ℤ)) → IsMinimal (lattice_of n rows w) upto moves → IsMinimal (lattice_of n others w) upto moves
  minimal_of_others moves k place l = let (x, y, apart) = k place l in (
    x,
    y,
    record {
      from = point_of_others w s x apart.from;
      to = point_of_others w s y apart.to;
      same_fibre = s.there (subtract x y) apart.same_fibre;
      not_joined = apart.not_joined;
    },
  )

  essential_of_others : (m : List ℤ) → IsEssentialUpTo (lattice_of n rows w) upto m → IsEssentialUpTo (lattice_of n others w) upto m
  essential_of_others m e = record { essential = essential; light = e.light }
    where
      essential : IsEssential (lattice_of n others w) m
      essential = record {
        move = move_of_others w s m e.essential.move;
        not_joined = λ j. e.essential.not_joined (joined_of_others w (SameLattice-back s) m j);
      }

  answer_of_others : (moves : List (List ℤ)) → IsAnswer (lattice_of n rows w) upto moves → IsAnswer (lattice_of n others w) upto moves
  answer_of_others moves a = record {
    ascending = a.ascending;
    essential = All-weaker (IsEssentialUpTo (lattice_of n rows w) upto) (IsEssentialUpTo (lattice_of n others w) upto) essential_of_others moves a.essential;
    complete = λ m h light. go m (a.complete m (move_of_others w (SameLattice-back s) m h) light);
  }
    where
      go : (m : List ℤ) → Contains moves m ⊎ Joined n (MovesBefore (lattice_of n rows w) m) (lead m) (tail m) → Contains moves m ⊎ Joined n (MovesBefore (lattice_of n others w) m) (lead m) (tail m)
      go m (inl c) = inl c
      go m (inr j) = inr (joined_of_others w s m j)

-- a list of exactly the essential moves of the one is one of the other
lists_of_others : {n : ℕ} {rows others : List (List ℤ)} {w : List ℤ} {upto : Option ℕ} (s : SameLattice n rows others) (moves : List (List ℤ)) →
    ListsEssentialMoves (lattice_of n rows w) upto moves → ListsEssentialMoves (lattice_of n others w) upto moves
lists_of_others s moves a = record {
  ascending = a.ascending;
  members = λ m. (λ c. essential_of_others s m ((a.members m).0 c), λ e. (a.members m).1 (essential_of_others (SameLattice-back s) m e));
}

pub the_answer_of_others : {n : ℕ} {rows others : List (List ℤ)} {w : List ℤ} {upto : Option ℕ} {moves : List (List ℤ)} → SameLattice n rows others →
    IsMinimalMarkovBasis (lattice_of n rows w) upto moves → IsMinimalMarkovBasis (lattice_of n others w) upto moves
the_answer_of_others {moves = moves} s a = record {
  answer = answer_of_others s moves a.answer;
  only = λ list b. a.only list (lists_of_others (SameLattice-back s) list b);
  markov = markov_of_others s moves a.markov;
  minimal = minimal_of_others s moves a.minimal;
}
