-- In a legal state the settled pairs are joined below; in one that is ended, every pair is.
use Rattle.std.proofs.Common.{◌≡◌, ◌⊎◌, inl, inr, ℕ, ◌<◌, List, [], ◌∷◌, ◌++◌, length, ℤ, pos, All, Contains, arith, sym, subst, ⊎_elim}
use Rattle.std.proofs.Common.{append_assoc}
use Rattle.std.proofs.lemmas.List.{append-nil, get_or_default}
use Rattle.std.proofs.lemmas.List.Elements.{All-contains, All-push, Contains-append_left, Contains-get_or, Contains-push}
use Rattle.mk_model.specs.Vectors.{add, subtract, negate, scale, positive_part, negative_part}
use Rattle.mk_model.specs.Lattices.{lattice_of, InLattice}
use Rattle.mk_model.specs.Orders.{IsOriented, lead}
use Rattle.mk_model.specs.Reductions.{Divides, IsReduction, Reduct}
use Rattle.mk_model.specs.Reductions.Reaches.{here, go}
use Rattle.mk_model.specs.Pairs.{AreOrientedMoves, JoinedBelow, EveryPairJoined}
use Rattle.mk_model.specs.CoreStates.{Pair, pair_of, Way, Settle, CoreState, start_of, move_at, IsPairOf, IsSettled}
use Rattle.mk_model.specs.CoreStates.Way.{Coprime, Chain, Zero, Place}
use Rattle.mk_model.specs.Events.{AreSettled, IsPlaced, IsSettledBy}
use Rattle.mk_model.specs.Legal.{IsNext, Replays, IsLegal, IsEnded}
use Rattle.mk_model.proofs.Lists.{Contains-none}
use Rattle.mk_model.proofs.LatticeLaws.{InLattice-add, InLattice-scale, InLattice-negate, InLattice-subtract}
use Rattle.mk_model.proofs.Confluence.{JoinedBelow-swap}
use Rattle.mk_model.proofs.Reducts.{Reduct-append, JoinedBelow-append, joined_by_disjoint, joined_by_third, joined_by_zero}
use Rattle.mk_model.proofs.Reducts.{joined_by_member}
use Rattle.mk_model.proofs.Journals.{settled_cases, IsPairOf-append, first_at-append, second_at-append, Grows, moves_grow}

pub Contains-move_at : (moves : List (List ℤ)) (i : ℕ) → i < length moves → Contains moves (move_at moves i)
Contains-move_at moves i l = Contains-get_or moves i [] l

module _ (n : ℕ) (rows : List (List ℤ)) (w : List ℤ) (p : List ℕ) where
  -- ---- reducts stay in the lattice
  reduction_in_lattice : (moves : List (List ℤ)) → All (InLattice n rows) moves → (r s : List ℤ) → InLattice n rows r →
      IsReduction moves r s → InLattice n rows s
  reduction_in_lattice moves inside r s h d = cases d.taken_off
    where
      v : List ℤ
      v = scale (pos d.times) d.move

      k : InLattice n rows v
      k = InLattice-scale n rows (pos d.times) d.move (All-contains (InLattice n rows) moves d.move inside d.member)

      cases : (Divides (scale (pos d.times) (lead d.move)) (positive_part r) × (s ≡ subtract r v))
          ⊎ (Divides (scale (pos d.times) (lead d.move)) (negative_part r) × (s ≡ add r v)) → InLattice n rows s
      cases (inl (_, e)) = subst (InLattice n rows) (sym e) (InLattice-subtract n rows r v h k)
      cases (inr (_, e)) = subst (InLattice n rows) (sym e) (InLattice-add n rows r v h k)

  pub Reduct-in_lattice : (moves : List (List ℤ)) → All (InLattice n rows) moves → {r s : List ℤ} → InLattice n rows r → Reduct moves r s →
      InLattice n rows s
  Reduct-in_lattice moves inside h here = h
  Reduct-in_lattice moves inside h (go {x = x} {y = y} d rest) = Reduct-in_lattice moves inside
      (reduction_in_lattice moves inside x y h d) rest

  -- the pair's moves are joined below
  abbrev PairJoined : List (List ℤ) → Pair → Type 0
  PairJoined moves pair = JoinedBelow n p moves (move_at moves pair.first) (move_at moves pair.second)

  -- the moves are oriented, and the settled pairs are joined below
  pub record IsSound (journal : List Settle) (moves : List (List ℤ)) : Type 0 where
    pub oriented : AreOrientedMoves (lattice_of n rows w) p moves
    pub joined : (pair : Pair) → IsSettled journal pair → IsPairOf moves pair × PairJoined moves pair

  PairJoined-append : (moves more : List (List ℤ)) (pair : Pair) → IsPairOf moves pair → PairJoined moves pair →
      PairJoined (moves ++ more) pair
  PairJoined-append moves more pair h j =
      rw (first_at-append moves more pair h, second_at-append moves more pair h)
      (JoinedBelow-append n p moves more (move_at moves pair.first) (move_at moves pair.second) j)

  -- ---- one more entry
  module _ (limit : ℕ) (journal : List Settle) (moves : List (List ℤ)) (sound : IsSound journal moves) (pair : Pair)
      (h : IsPairOf moves pair) where
    abbrev a : List ℤ
    a = move_at moves pair.first

    abbrev b : List ℤ
    b = move_at moves pair.second

    a_member : Contains moves a
    a_member = Contains-move_at moves pair.first (omega (arith, h.ordered, h.within))

    b_member : Contains moves b
    b_member = Contains-move_at moves pair.second h.within

    placed_in_lattice : (place : ℕ) (move : List ℤ) → IsPlaced p limit moves pair place move → InLattice n rows move
    placed_in_lattice place move d =
        ⊎_elim (λ e. subst (InLattice n rows) (sym e) rest) (λ e. subst (InLattice n rows) (sym e)
        (InLattice-negate n rows d.normal_reduct.remainder rest)) d.sign
      where
        inside : All (InLattice n rows) moves
        inside = sound.oriented.in_lattice

        rest : InLattice n rows d.normal_reduct.remainder
        rest =
            Reduct-in_lattice moves inside
            (InLattice-subtract n rows b a (All-contains (InLattice n rows) moves b inside b_member)
            (All-contains (InLattice n rows) moves a inside a_member))
            d.normal_reduct.reduct

    with_placed : (place : ℕ) (move : List ℤ) → IsPlaced p limit moves pair place move →
        AreOrientedMoves (lattice_of n rows w) p (moves ++ move ∷ [])
    with_placed place move d = record {
      grading = sound.oriented.grading;
      in_lattice = All-push (InLattice n rows) moves move sound.oriented.in_lattice (placed_in_lattice place move d);
      oriented = All-push (IsOriented p) moves move sound.oriented.oriented d.oriented;
    }

    -- the pair of two places is joined, whichever of them is the lesser
    either_joined : (i j : ℕ) → AreSettled journal i j → JoinedBelow n p moves (move_at moves i) (move_at moves j)
    either_joined i j (inl s) = (sound.joined (pair_of i j) s).1
    either_joined i j (inr s) = JoinedBelow-swap sound.oriented (move_at moves j) (move_at moves i) ((sound.joined (pair_of j i) s).1)

    joined_placed : (place : ℕ) (move : List ℤ) → IsPlaced p limit moves pair place move → PairJoined (moves ++ move ∷ []) pair
    joined_placed place move d =
        rw (first_at-append moves (move ∷ []) pair h, second_at-append moves (move ∷ []) pair h)
        (joined_by_member (with_placed place move d) a b r (more a a_member) (more b b_member)
        (Reduct-append moves (move ∷ []) (subtract b a) r d.normal_reduct.reduct) member)
      where
        r : List ℤ
        r = d.normal_reduct.remainder

        more : (v : List ℤ) → Contains moves v → Contains (moves ++ move ∷ []) v
        more v k = Contains-append_left moves (move ∷ []) v k

        member : Contains (moves ++ move ∷ []) r ⊎ Contains (moves ++ move ∷ []) (negate r)
        member =
            ⊎_elim (λ e. inl (subst (Contains (moves ++ move ∷ [])) e (Contains-push moves move)))
            (λ e. inr (subst (Contains (moves ++ move ∷ [])) e (Contains-push moves move))) d.sign

    way_joins : (way : Way) (after : List (List ℤ)) → IsSettledBy n p limit moves journal pair way after →
        AreOrientedMoves (lattice_of n rows w) p after × PairJoined after pair
    way_joins Coprime after (d, e) = rw e (sound.oriented, joined_by_disjoint sound.oriented a b a_member b_member d)
    way_joins (Chain third) after (d, e) =
        rw e (
          sound.oriented,
          joined_by_third sound.oriented a b (move_at moves third) a_member b_member (Contains-move_at moves third d.within) d.divides
              (either_joined pair.first third d.first_settled) (either_joined pair.second third d.second_settled),
        )
    way_joins Zero after (d, e) = rw e (sound.oriented, joined_by_zero sound.oriented a b a_member b_member d)
    way_joins (Place place) after (move, d, e) = rw e (with_placed place move d, joined_placed place move d)

  next_sound : (limit : ℕ) (journal : List Settle) (moves : List (List ℤ)) (entry : Settle) (after : List (List ℤ)) →
      IsSound journal moves → IsNext n p limit journal moves entry after → IsSound (journal ++ entry ∷ []) after
  next_sound limit journal moves entry after sound h = record {
    oriented = result.0;
    joined = λ pair s. joined pair (settled_cases journal entry pair s);
  }
    where
      result : AreOrientedMoves (lattice_of n rows w) p after × PairJoined after entry.pair
      result = way_joins limit journal moves sound entry.pair h.of_moves entry.way after h.settled

      grows : Grows limit moves after
      grows = moves_grow n p limit moves journal entry.pair entry.way after h.settled

      joined : (pair : Pair) → IsSettled journal pair ⊎ (entry.pair ≡ pair) → IsPairOf after pair × PairJoined after pair
      joined pair (inl s) =
          let (k, j) = sound.joined pair s in
          rw grows.longer (IsPairOf-append moves grows.more pair k, PairJoined-append moves grows.more pair k j)
      joined pair (inr e) =
          subst (λ q. IsPairOf after q × PairJoined after q) e (
            subst (λ m. IsPairOf m entry.pair) (sym grows.longer)
                (IsPairOf-append moves grows.more entry.pair h.of_moves),
            result.1,
          )

  pub replay_sound : (limit : ℕ) (earlier : List Settle) (moves : List (List ℤ)) (journal : List Settle) (basis : List (List ℤ)) →
      IsSound earlier moves → Replays n p limit earlier moves journal basis → IsSound (earlier ++ journal) basis
  replay_sound limit earlier moves [] basis sound e = rw (append-nil earlier, e) sound
  replay_sound limit earlier moves (entry ∷ journal) basis sound (after, h, rest) =
      rw append_assoc at (replay_sound limit (earlier ++ entry ∷ []) after journal basis
      (next_sound limit earlier moves entry after sound h) rest)

  start_sound : (start : List (List ℤ)) → AreOrientedMoves (lattice_of n rows w) p start → IsSound [] start
  start_sound start o = record { oriented = o; joined = λ pair (entry, h, e). absurd (Contains-none entry h) }

  -- in a legal state the whole basis is oriented, and the settled pairs are joined below
  pub legal_sound : (state : CoreState) → IsLegal n p state → AreOrientedMoves (lattice_of n rows w) p (start_of state) →
      IsSound state.journal state.basis
  legal_sound state legal o = replay_sound state.limit [] (start_of state) state.journal state.basis
      (start_sound (start_of state) o) legal.replays

  pub ended_joined : (state : CoreState) → IsLegal n p state → AreOrientedMoves (lattice_of n rows w) p (start_of state) → IsEnded state →
      EveryPairJoined n p state.basis
  ended_joined state legal o ended i j d l k =
      let s = (legal_sound state legal o).joined (pair_of i j) (ended.all_settled (pair_of i j) (record { ordered = l; within = k })) in
      rw (get_or_default state.basis i d [] (omega arith), get_or_default state.basis j d [] k) (s.1)
