-- Each step on the table keeps the rule of the turn.
use Rattle.std.proofs.Common.{◌≡◌, ℕ, ◌+◌, ◌^◌, ◌<◌, ◌≤◌, eqb, ◌≢◌, ◌⊎◌, inl, inr, Bool, false, List, [], ◌∷◌, ◌++◌, length, get_or, set, sym, refl, ap, ◌∙◌, subst, ⊎_elim, true≢false, arith, le_refl, length-set, get_or-set_other, get_or-set_same, Option, Some, None, zero, suc}
use Rattle.std.proofs.lemmas.List.{append_assoc, append-nil}
use Rattle.std.proofs.lemmas.Option.{none-some, same_Some}
use Rattle.std.proofs.Math.Nat.{le_trans}
use mathlib.Core.Logic.{dite}
use mathlib.Core.Option.{some, none, some-injective, some-ne-none}
use mathlib.Core.Option as maybe
use native.Mathlib.Decide.{ℕ_discrete, dec_lt}
use lib.ListN.{get_elem?}
use lib.Seq.{set-get_or}
use prog.Atomic.{either}
use Rattle.atomic_table.specs.Table.{State, Me, step, keeps, takes, gives, rest, stepped, Allows, Splits, Joins, Final, Seen, opening}
use Rattle.atomic_table.proofs.Lists.{at_set, set_else, exchanged, at_longer, at_last, at_snoc}
use Rattle.mk_turn.specs.declared.view.View.{View}
use Rattle.mk_turn.specs.declared.view.JoinedSeat.{JoinedSeat}
use Rattle.mk_turn.specs.Meanings.{Meaning, Laws, Follows, BeginsWith}
use Rattle.mk_turn.specs.Turns.{Knows, Free, Held, Seated, Standing, beginning, one_if, took, missed, raised, Tries, Looks, with_notice, Gave, given, announced, one_more, newcomer, kept_of, joining, spent_view, AllJoined, Closes, IsLive, IsJoined, IsUnused, IsLeft}

at_either : {A : Type 0} (xs ys : List A) (b : A) (k : ℕ) → get_elem? (xs ++ ys) k ≡ some b → (get_elem? xs k ≡ some b)
    ⊎ ((i : ℕ) × (get_elem? ys i ≡ some b))
at_either [] ys b k e = inr (k, e)
at_either (x ∷ xs) ys b zero e = inl e
at_either (x ∷ xs) ys b (suc k) e = at_either xs ys b k e

module _ {S C E G F N W : Type 0} (m : Meaning S C E G F N W) where
  abbrev V : Type 0
  V = View S C E G F N W

  abbrev St : Type 0
  St = State (Option S) V

  -- the same seat, which isn't spent
  record IsSameSeat (v w : V) : Type 0 where
    pub number : w.number ≡ v.number
    pub awake : w.spent ≡ false
    pub seats : w.seats ≡ v.seats
    pub made : w.made ≡ v.made
    pub joined : w.joined ≡ v.joined

  -- what no give changes
  pub record KeepsRest (v w : V) : Type 0 where
    pub number : w.number ≡ v.number
    pub made : w.made ≡ v.made
    pub awake : w.spent ≡ v.spent
    pub misses : w.misses ≡ v.misses
    pub word : w.last_word ≡ v.last_word
    pub seats : w.seats ≡ v.seats

  each_after : (K : V → Type 0) (views : List V) (id : ℕ) (w : V) → K w →
      ((j : ℕ) (u : V) → j ≢ id → get_elem? views j ≡ some u → u.spent ≡ false → K u)
      → (j : ℕ) (u : V) → get_elem? (set views id w) j ≡ some u → u.spent ≡ false → K u
  each_after K views id w mine others j u at up = ⊎_elim (λ (t : (j ≡ id) × (w ≡ u)). subst K t.1 mine)
      (λ (t : (j ≢ id) × (get_elem? views j ≡ some u)). others j u t.0 t.1 up) (at_set views id j w u at)

  set_at : (l : List V) (i : ℕ) (a b : V) → get_elem? l i ≡ some a → get_elem? (set l i b) i ≡ some b
  set_at [] i a b e = absurd (some-ne-none a (sym e))
  set_at (x ∷ xs) zero a b e = refl
  set_at (x ∷ xs) (suc i) a b e = set_at xs i a b e

  home_set : (hs : List (maybe.Option (Option S))) (h : maybe.Option (Option S)) → 0 < length hs → get_elem? (set hs 0 h) 0 ≡ some h
  home_set [] h lt = absurd (omega arith)
  home_set (x ∷ xs) h lt = refl

  at_end : (l : List V) (a b : V) (j : ℕ) → get_elem? (l ++ a ∷ []) j ≡ some b → (get_elem? l j ≡ some b) ⊎ ((j ≡ length l) × (a ≡ b))
  at_end [] a b zero e = inr (refl, some-injective a b e)
  at_end [] a b (suc j) e = absurd (some-ne-none b (sym e))
  at_end (x ∷ xs) a b zero e = inl e
  at_end (x ∷ xs) a b (suc j) e = ⊎_elim inl (λ t. inr (ap suc t.0, t.1)) (at_end xs a b j e)

  only_one : (v u : V) (j : ℕ) → get_elem? (v ∷ []) j ≡ some u → (j ≡ 0) × (v ≡ u)
  only_one v u zero e = (refl, some-injective v u e)
  only_one v u (suc j) e = absurd (some-ne-none u (sym e))

  live_set : (views : List V) (id : ℕ) (v w : V) (n : ℕ) → get_elem? views id ≡ some v → w.spent ≡ false → w.number ≡ v.number →
      IsLive views n → IsLive (set views id w) n
  live_set views id v w n at up number l = dite (ℕ_discrete l.seat id)
      (λ e. let is : v ≡ l.view = some-injective v l.view (sym at ∙ ap (get_elem? views) (sym e) ∙ l.at) in
      record { seat = id; view = w; at = set_at views id v w at; awake = up; number = number ∙ ap (λ (z : V). z.number) is ∙ l.number })
      (λ ne. record { seat = l.seat; view = l.view; at = set_else views id l.seat w ne ∙ l.at; awake = l.awake; number = l.number })

  -- an unused number is so in a value with its claim and its entries
  unused_after : (x y : S) (n : ℕ) → m.claim n y ≡ m.claim n x → m.entries n y ≡ m.entries n x → IsUnused m x n → IsUnused m y n
  unused_after x y n claim entries u = record { claim = claim ∙ u.claim; entries = entries ∙ u.entries }

  -- the first seat joined the same ones
  joined_before : (v w : V) (n : ℕ) → w.joined ≡ v.joined → IsJoined v n → IsJoined w n
  joined_before v w n same j = record { place = j.place; kept = j.kept; at = ap (λ l. get_elem? l j.place) same ∙ j.at; number = j.number }

  same_seat : (v : V) → v.spent ≡ false → IsSameSeat v v
  same_seat v up = record { number = refl; awake = up; seats = refl; made = refl; joined = refl }

  module _ (laws : Laws m) where
    claim_kept : (n k : ℕ) (x y : S) → Follows m n x y → k ≢ n → m.claim k y ≡ m.claim k x
    claim_kept n k x y f ne = ⊎_elim (λ e. ap (m.claim k) (sym e)) (λ e. laws.same_claim n k x y e ne) f

    entries_kept : (n k : ℕ) (x y : S) → Follows m n x y → k ≢ n → m.entries k y ≡ m.entries k x
    entries_kept n k x y f ne = ⊎_elim (λ e. ap (m.entries k) (sym e)) (λ e. laws.same_entries n k x y e ne) f

    fixed_kept : (n : ℕ) (x y : S) → Follows m n x y → m.fixed y ≡ m.fixed x
    fixed_kept n x y f = ⊎_elim (λ e. ap m.fixed (sym e)) (λ e. laws.same_fixed n x y e) f

    bears_kept : (n : ℕ) (x y : S) (t : N) → Follows m n x y → m.bears t x → m.bears t y
    bears_kept n x y t f b = ⊎_elim (λ (e : x ≡ y). subst (m.bears t) e b) (λ e. laws.still_bears n x y t e b) f

    grown_kept : (n : ℕ) (x y : S) → Follows m n x y → BeginsWith (m.grown y) (m.grown x)
    grown_kept n x y f = ⊎_elim (λ (e : x ≡ y). ([], ap m.grown (sym e) ∙ sym (append-nil (m.grown x)))) (λ e. laws.grows n x y e) f

    begins_further : {A : Type 0} (xs ys zs : List A) → BeginsWith ys xs → BeginsWith zs ys → BeginsWith zs xs
    begins_further xs ys zs a b = (a.0 ++ b.0, b.1 ∙ (ap (λ l. l ++ b.0) a.1 ∙ append_assoc xs a.0 b.0))

    -- what another seat knows stays so
    others_know : (n : ℕ) (x y : S) (u : V) → Follows m n x y → u.number ≢ n → Knows m x u → Knows m y u
    others_know n x y u f ne k = record {
      claims = claim_kept n u.number x y f ne ∙ k.claims;
      own = entries_kept n u.number x y f ne ∙ k.own;
      saw = begins_further u.seen (m.grown x) (m.grown y) k.saw (grown_kept n x y f);
      fixed = ap Some (fixed_kept n x y f) ∙ k.fixed;
      notices = λ i t e. bears_kept n x y t f (k.notices i t e);
    }

    module _ (seats : ℕ) where
      -- the first seat after a step of the seat id
      first_after : (views : List V) (id : ℕ) (v w f : V) → get_elem? views id ≡ some v → IsSameSeat v w → get_elem? views 0 ≡ some f →
          f.spent ≡ false
          → (g : V) × (get_elem? (set views id w) 0 ≡ some g) × IsSameSeat f g
      first_after views id v w f at same at0 up = dite (ℕ_discrete 0 id)
          (λ e. let is : v ≡ f = some-injective v f (sym at ∙ (ap (get_elem? views) (sym e) ∙ at0)) in (
            w,
            subst (λ (i : ℕ). get_elem? (set views id w) i ≡ some w) (sym e) (set_at views id v w at),
            subst (λ (z : V). IsSameSeat z w) is same,
          ))
          (λ ne. (f, set_else views id 0 w ne ∙ at0, same_seat f up))

      -- each seat that isn't spent after the step was there before it
      before : (views : List V) (id : ℕ) (v w : V) → get_elem? views id ≡ some v → v.spent ≡ false → IsSameSeat v w → (j : ℕ) (u : V) →
          get_elem? (set views id w) j ≡ some u → u.spent ≡ false
          → (t : V) × (get_elem? views j ≡ some t) × (t.spent ≡ false) × (t.number ≡ u.number)
      before views id v w at up same j u p awake = ⊎_elim
          (λ (t : (j ≡ id) × (w ≡ u)). (v, ap (get_elem? views) t.0 ∙ at, up, sym same.number ∙ ap (λ (z : V). z.number) t.1))
          (λ (t : (j ≢ id) × (get_elem? views j ≡ some u)). (u, t.1, awake, refl)) (at_set views id j w u p)

      seated_after : (x y : S) (views : List V) (id : ℕ) (v w : V) → get_elem? views id ≡ some v → v.spent ≡ false → IsSameSeat v w →
          Follows m v.number x y → Seated m seats x views → Seated m seats y (set views id w)
      seated_after x y views id v w at up same f r = let g = first_after views id v w r.first at same r.at r.awake in let first : V = g.0 in
          let is : IsSameSeat r.first first = g.2 in let made = is.made in
          let old = before views id v w at up same in record {
            first = first;
            at = g.1;
            awake = is.awake;
            number = is.number ∙ r.number;
            room = subst (λ (n : ℕ). n ≤ seats) (sym made) r.room;
            left = λ k p e. let e' = subst (λ l. get_elem? l k ≡ some p) is.joined e in let l = r.left k p e' in
                let ne = r.still_here id v at up k p e' in
                record {
                  claim = claim_kept v.number p.number x y f ne ∙ l.claim;
                  entries = entries_kept v.number p.number x y f ne
                      ∙ l.entries;
                };
            left_below = λ k p e. subst (λ (n : ℕ). p.number < n) (sym made)
                (r.left_below k p (subst (λ l. get_elem? l k ≡ some p) is.joined e));
            unmade = λ n le. let le' : r.first.made ≤ n = subst (λ (k : ℕ). k ≤ n) made le in let b = r.below id v at up in
                let ne : n ≢ v.number = λ e. omega arith in
                unused_after x y n (claim_kept v.number n x y f ne) (entries_kept v.number n x y f ne) (r.unmade n le');
            below = λ j u e awake. let o = old j u e awake in let b = r.below j o.0 o.1 o.2 in let same_number = o.3 in
                subst (λ (n : ℕ). u.number < n) (sym made) (subst (λ (n : ℕ). n < r.first.made) same_number b);
            apart = λ i j a b p q ap_ bp e. let o = old i a p ap_ in let n = old j b q bp in
                r.apart i j o.0 n.0 o.1 n.1 o.2 n.2 (o.3 ∙ (e ∙ sym n.3));
            still_here = λ j u e awake k p jp. let o = old j u e awake in
                λ is_it. r.still_here j o.0 o.1 o.2 k p (subst (λ l. get_elem? l k ≡ some p) is.joined jp) (is_it ∙ sym o.3);
            each_made = λ n lt. ⊎_elim (λ (l : IsLive views n). inl (live_set views id v w n at same.awake same.number l))
                (λ (k : IsJoined r.first n). inr (joined_before r.first first n is.joined k))
                (r.each_made n (subst (λ (b : ℕ). n < b) made lt));
          }

      standing_after : (s : St) (r : Standing m seats s) (id : ℕ) (v w : V) (y : S) (words : List ℕ)
          (homes : List (maybe.Option (Option S))) → get_elem? s.views id ≡ some v → v.spent ≡ false → IsSameSeat v w →
          Follows m v.number r.now y
          → length words ≡ 2 → length homes ≡ 1 → get_or words 1 0 < 2 ^ 32 → get_or s.words 1 0 ≤ get_or words 1 0
          → (let s' : St = record { words = words; homes = homes; views = set s.views id w } in Free m y s' ⊎ Held m y s') → Knows m y w →
          w.known ≤ get_or words 1 0
          → Standing m seats record { words = words; homes = homes; views = set s.views id w }
      standing_after s r id v w y words homes at up same f two one short more turn mine known = record {
        now = y;
        two_words = two;
        one_slot = one;
        short = short;
        turn = turn;
        knows = each_after (Knows m y) s.views id w mine (λ j u other e awake. others_know v.number r.now y u f
            (λ is. other (r.seated.apart j id u v e at awake up is)) (r.knows j u e awake));
        lengths = each_after (λ u. u.known ≤ get_or words 1 0) s.views id w known
            (λ j u other e awake. le_trans (r.lengths j u e awake) more);
        rooms = each_after (λ u. u.seats ≡ seats) s.views id w (same.seats ∙ r.rooms id v at up) (λ j u other e awake. r.rooms j u e awake);
        seated = seated_after r.now y s.views id v w at up same f r.seated;
      }

      taken_by_one : (x : S) (v w : V) → v.taken ≡ None → w.taken ≡ Some x → (i j : ℕ) (views : List V) → get_elem? views i ≡ some v →
          get_elem? views j ≡ some w → i ≢ j
      taken_by_one x v w none_taken taken i j views p q e = none-some x
          (sym none_taken ∙ (ap (λ (z : V). z.taken) (some-injective v w (sym p ∙ (ap (get_elem? views) e ∙ q))) ∙ taken))

      free_try : (s : St) (r : Standing m seats s) (id : ℕ) (me : Me (Option S) V) (k : ℕ) → get_elem? s.views id ≡ some me.0 →
          me.0.spent ≡ false → k ≡ me.0.number + 1 → Free m r.now s
          → Standing m seats (stepped s 0 k id me.1 (took m r.now me.0) (takes 0 (Some r.now)))
      free_try s r id me k at up is f = let w : V = took m r.now me.0 in let knows = r.knows id me.0 at up in
          let words : List ℕ = set s.words 0 k in let two = r.two_words in let one = r.one_slot in
          let published : get_or words 1 0 ≡ get_or s.words 1 0 = get_or-set_other s.words 0 1 k 0 (λ e. omega arith) in
          standing_after s r id me.0 w r.now words (set s.homes 0 none) at up record {
            number = refl;
            awake = up;
            seats = refl;
            made = refl;
            joined = refl;
          } (inl refl)
          (length-set s.words 0 k ∙ two) (length-set s.homes 0 none ∙ one) (subst (λ (n : ℕ). n < 2 ^ 32) (sym published) r.short)
          (subst (λ (n : ℕ). get_or s.words 1 0 ≤ n) (sym published) (le_refl (get_or s.words 1 0)))
          (inr record {
            seat = id;
            by = w;
            at = set_at s.views id me.0 w at;
            awake = up;
            word = get_or-set_same s.words 0 k 0 (omega arith) ∙ is;
            took = refl;
            published = (let e : get_or words 1 0 ≡ m.len r.now = published ∙ f.published in omega arith);
            no_other = λ j u e other. ⊎_elim (λ (t : (j ≡ id) × (w ≡ u)). absurd (other t.0))
                (λ (t : (j ≢ id) × (get_elem? s.views j ≡ some u)). f.no_holder j u t.1) (at_set s.views id j w u e);
          })
          record { claims = knows.claims; own = knows.own; saw = knows.saw; fixed = knows.fixed; notices = knows.notices }
          (subst (λ (n : ℕ). m.len r.now ≤ n) (sym (published ∙ f.published)) (le_refl (m.len r.now)))

      held_try : (s : St) (r : Standing m seats s) (id : ℕ) (me : Me (Option S) V) (k found : ℕ) → get_elem? s.views id ≡ some me.0 →
          me.0.spent ≡ false → me.0.taken ≡ None → k ≡ get_or s.words 0 0 → Held m r.now s
          → Standing m seats (stepped s 0 k id me.1 (missed m found me.0) keeps)
      held_try s r id me k found at up none_taken is h = let w : V = missed m found me.0 in let knows = r.knows id me.0 at up in
          let words : List ℕ = set s.words 0 k in let two = r.two_words in let one = r.one_slot in
          let published : get_or words 1 0 ≡ get_or s.words 1 0 = get_or-set_other s.words 0 1 k 0 (λ e. omega arith) in
          let mine = r.lengths id me.0 at up in
          let apart : h.seat ≢ id = λ e. taken_by_one r.now me.0 h.by none_taken h.took id h.seat s.views at h.at (sym e) in
          standing_after s r id me.0 w r.now words s.homes at up record {
            number = refl;
            awake = up;
            seats = refl;
            made = refl;
            joined = refl;
          } (inl refl)
          (length-set s.words 0 k ∙ two) one (subst (λ (n : ℕ). n < 2 ^ 32) (sym published) r.short)
          (subst (λ (n : ℕ). get_or s.words 1 0 ≤ n) (sym published) (le_refl (get_or s.words 1 0)))
          (inr record {
            seat = h.seat;
            by = h.by;
            at = set_else s.views id h.seat w apart ∙ h.at;
            awake = h.awake;
            word = get_or-set_same s.words 0 k 0 (omega arith) ∙ (is ∙ h.word);
            took = h.took;
            published = published ∙ h.published;
            no_other = λ j u e other. ⊎_elim (λ (t : (j ≡ id) × (w ≡ u)). ap (λ (z : V). z.taken) (sym t.1) ∙ none_taken)
                (λ (t : (j ≢ id) × (get_elem? s.views j ≡ some u)). h.no_other j u t.1 other) (at_set s.views id j w u e);
          })
          record { claims = knows.claims; own = knows.own; saw = knows.saw; fixed = knows.fixed; notices = knows.notices }
          (subst (λ (n : ℕ). me.0.known ≤ n) (sym published) mine)

      pub tries : (slots id : ℕ) (me : Me (Option S) V) (mine : ℕ) → me.0.spent ≡ false → me.0.taken ≡ None → mine ≡ me.0.number + 1
          → Allows (Standing m seats) slots id me 0 (λ n. either (eqb n 0) mine n) (Tries m (step slots 0 0 mine none) me)
      tries slots id me mine up none_taken is s r _ at _ = ⊎_elim
          (λ (f : Free m r.now s). let k : ℕ = either (eqb (get_or s.words 0 0) 0) mine (get_or s.words 0 0) in
          let hit : k ≡ me.0.number + 1 = exchanged (get_or s.words 0 0) 0 mine (λ n. n ≡ me.0.number + 1) (λ _. is)
          (λ ne. absurd (ne f.word)) in (
            took m r.now me.0,
            takes 0 (Some r.now),
            f.home,
            free_try s r id me k at up hit f,
            record {
              hits = λ _. record {
                value = r.now;
                taken = refl;
                knows = r.knows id me.0 at up;
                known = subst (λ (n : ℕ). me.0.known ≤ n) f.published (r.lengths id me.0 at up);
              };
              misses = λ ne. absurd (ne f.word);
            },
          ))
          (λ (h : Held m r.now s). let k : ℕ = either (eqb (get_or s.words 0 0) 0) mine (get_or s.words 0 0) in
          let word = h.word in
          let miss : k ≡ get_or s.words 0 0 = exchanged (get_or s.words 0 0) 0 mine (λ n. n ≡ get_or s.words 0 0)
          (λ (e : get_or s.words 0 0 ≡ 0). absurd (omega arith)) (λ _. refl) in
          let below = r.seated.below h.seat h.by h.at h.awake in let room = r.seated.room in let rooms = r.rooms id me.0 at up in (
            missed m (get_or s.words 0 0) me.0,
            keeps,
            tt,
            held_try s r id me k (get_or s.words 0 0) at up none_taken miss h,
            record {
              hits = λ (e : get_or s.words 0 0 ≡ 0). absurd (omega arith);
              misses = λ _. record {
                counted = refl;
                of_a_seat = omega arith;
                of_another = λ (e : get_or s.words 0 0
                    ≡ me.0.number + 1). taken_by_one r.now me.0 h.by none_taken h.took id h.seat s.views at h.at
                    (r.seated.apart id h.seat me.0 h.by at h.at up h.awake (omega arith));
              };
            },
          ))
          r.turn

      -- who has the turn stays so where a seat's view changes in nothing that says it
      turn_after : (s : St) (x : S) (id : ℕ) (v w : V) → get_elem? s.views id ≡ some v → w.spent ≡ false → w.number ≡ v.number →
          w.taken ≡ v.taken → w.raised ≡ v.raised → Free m x s ⊎ Held m x s
          → (let t : St = record { words = s.words; homes = s.homes; views = set s.views id w } in Free m x t ⊎ Held m x t)
      turn_after s x id v w at up number taken raised_ turn = ⊎_elim
          (λ (f : Free m x s). inl record {
            word = f.word;
            home = f.home;
            published = f.published;
            no_holder = λ j u e. ⊎_elim (λ (t : (j ≡ id) × (w ≡ u)). ap (λ (z : V). z.taken) (sym t.1) ∙ (taken ∙ f.no_holder id v at))
                (λ (t : (j ≢ id) × (get_elem? s.views j ≡ some u)). f.no_holder j u t.1) (at_set s.views id j w u e);
          })
          (λ (h : Held m x s). dite (ℕ_discrete h.seat id)
          (λ here. let is : h.by ≡ v = some-injective h.by v (sym h.at ∙ (ap (get_elem? s.views) here ∙ at)) in inr record {
            seat = id;
            by = w;
            at = set_at s.views id v w at;
            awake = up;
            word = h.word ∙ ap (λ (n : ℕ). n + 1) (ap (λ (z : V). z.number) is ∙ sym number);
            took = taken ∙ (ap (λ (z : V). z.taken) (sym is) ∙ h.took);
            published = h.published ∙ ap (λ (b : Bool). m.len x + one_if b) (ap (λ (z : V). z.raised) is ∙ sym raised_);
            no_other = λ j u e other. ⊎_elim (λ (t : (j ≡ id) × (w ≡ u)). absurd (other t.0))
                (λ (t : (j ≢ id) × (get_elem? s.views j ≡ some u)). h.no_other j u t.1 (λ is_it. other (is_it ∙ here)))
                (at_set s.views id j w u e);
          })
          (λ elsewhere. inr record {
            seat = h.seat;
            by = h.by;
            at = set_else s.views id h.seat w elsewhere ∙ h.at;
            awake = h.awake;
            word = h.word;
            took = h.took;
            published = h.published;
            no_other = λ j u e other. ⊎_elim (λ (t : (j ≡ id) × (w ≡ u)). ap (λ (z : V). z.taken) (sym t.1)
                ∙ (taken ∙ h.no_other id v at (λ is_it. elsewhere (sym is_it))))
                (λ (t : (j ≢ id) × (get_elem? s.views j ≡ some u)). h.no_other j u t.1 other) (at_set s.views id j w u e);
          }))
          turn

      -- the seat that took the turn is the one that has it
      holding : (s : St) (r : Standing m seats s) (id : ℕ) (v : V) (x : S) → get_elem? s.views id ≡ some v → v.taken ≡ Some x →
          (h : Held m r.now s) × (h.seat ≡ id) × (h.by ≡ v) × (r.now ≡ x)
      holding s r id v x at taken = ⊎_elim (λ (f : Free m r.now s). absurd (none-some x (sym (f.no_holder id v at) ∙ taken)))
          (λ (h : Held m r.now s). let here : h.seat ≡ id = dite (ℕ_discrete h.seat id) (λ e. e)
          (λ ne. absurd (none-some x (sym (h.no_other id v at (λ e. ne (sym e))) ∙ taken))) in
          let is : h.by ≡ v = some-injective h.by v (sym h.at ∙ (ap (get_elem? s.views) here ∙ at)) in
          (h, here, is, same_Some r.now x (sym h.took ∙ (ap (λ (z : V). z.taken) is ∙ taken))))
          r.turn

      pub looks : (slots id : ℕ) (me : Me (Option S) V) → me.0.spent ≡ false →
          Allows (Standing m seats) slots id me 1 (λ n. n) (Looks m (step slots 1 0 0 none) me)
      looks slots id me up s r _ at _ = let found : ℕ = get_or s.words 1 0 in let w : V = record me.0 { known = found } in
          let knows = r.knows id me.0 at up in (
            w,
            keeps,
            tt,
            subst (λ (ws : List ℕ). Standing m seats record { words = ws; homes = s.homes; views = set s.views id w })
                (sym (set-get_or s.words 1 0))
                (standing_after s r id me.0 w r.now s.words s.homes at up record {
                  number = refl;
                  awake = up;
                  seats = refl;
                  made = refl;
                  joined = refl;
                } (inl refl) r.two_words r.one_slot r.short (le_refl found)
                (turn_after s r.now id me.0 w at up refl refl refl r.turn) record {
                  claims = knows.claims;
                  own = knows.own;
                  saw = knows.saw;
                  fixed = knows.fixed;
                  notices = knows.notices;
                } (le_refl found)),
            record {
              learns = refl;
              rises = r.lengths id me.0 at up;
              short = r.short;
              held = λ x taken. let held = holding s r id me.0 x at taken in held.0.published
                  ∙ (ap (λ (z : V). m.len r.now + one_if z.raised) held.2 ∙ ap (λ (z : S). m.len z + one_if me.0.raised) held.3);
            },
          )

      pub announces : (slots id : ℕ) (me : Me (Option S) V) (x : S) (n : ℕ) → me.0.spent ≡ false → me.0.taken ≡ Some x →
          me.0.raised ≡ false → n ≡ m.len x + 1 → n < 2 ^ 32
          → Allows (Standing m seats) slots id me 1 (λ _. n) (λ _. announced m (step slots 1 n 0 none) me n)
      announces slots id me x n up taken low is short s r _ at _ = let w : V = raised m me.0 in let knows = r.knows id me.0 at up in
          let words : List ℕ = set s.words 1 n in let two = r.two_words in
          let held = holding s r id me.0 x at taken in let h = held.0 in let here = held.1 in let by = held.2 in let now = held.3 in
          let old : get_or s.words 1 0 ≡ m.len r.now + 0 = h.published
          ∙ ap (λ (b : Bool). m.len r.now + one_if b) (ap (λ (z : V). z.raised) by ∙ low) in
          let read : get_or words 1 0 ≡ n = get_or-set_same s.words 1 n 0 (omega arith) in
          let len : n ≡ m.len r.now + 1 = is ∙ ap (λ (z : S). m.len z + 1) (sym now) in
          let more : get_or s.words 1 0 ≤ get_or words 1 0 = omega arith in (
            w,
            keeps,
            tt,
            standing_after s r id me.0 w r.now words s.homes at up record {
              number = refl;
              awake = up;
              seats = refl;
              made = refl;
              joined = refl;
            } (inl refl) (length-set s.words 1 n ∙ two) r.one_slot
                (subst (λ (k : ℕ). k < 2 ^ 32) (sym read) short) more
                (inr record {
                  seat = id;
                  by = w;
                  at = set_at s.views id me.0 w at;
                  awake = up;
                  word = get_or-set_other s.words 1 0 n 0 (λ e. omega arith) ∙ (h.word ∙ ap (λ (z : V). z.number + 1) by);
                  took = taken ∙ ap Some (sym now);
                  published = read ∙ len;
                  no_other = λ j u e other. ⊎_elim (λ (t : (j ≡ id) × (w ≡ u)). absurd (other t.0))
                      (λ (t : (j ≢ id) × (get_elem? s.views j ≡ some u)). h.no_other j u t.1 (λ is_it. other (is_it ∙ here)))
                      (at_set s.views id j w u e);
                })
                record { claims = knows.claims; own = knows.own; saw = knows.saw; fixed = knows.fixed; notices = knows.notices }
                (le_trans (r.lengths id me.0 at up) more),
            refl,
          )

      notices_with : (n : ℕ) (y : S) (ts : List N) (o : Option N) → m.notice n y ≡ o →
          ((k : ℕ) (t : N) → get_elem? ts k ≡ some t → m.bears t y) → (k : ℕ) (t : N) → get_elem? (with_notice ts o) k ≡ some t →
          m.bears t y
      notices_with n y ts None e hold k t at = hold k t at
      notices_with n y ts (Some u) e hold k t at = ⊎_elim (hold k t)
          (λ (is : u ≡ t). subst (λ (z : N). m.bears z y) is (laws.notice_holds n y u e)) (at_snoc ts u t k at)

      -- the view after a give, with what was seen and the notices
      abbrev gave : V → S → S → List G → List N → V
      gave v x y seen notices = record v {
        taken = None;
        raised = false;
        known = m.len y;
        claim = m.claim v.number y;
        entries = m.entries v.number y;
        seen = seen;
        notices = notices;
        gives = v.gives + 1;
        last = Some (m.whole x);
      }

      give_keeps : (s : St) (r : Standing m seats s) (id : ℕ) (v : V) (x y : S) (seen : List G) (notices : List N) →
          get_elem? s.views id ≡ some v → v.spent ≡ false → v.taken ≡ Some x → Follows m v.number x y
          → m.len y ≡ m.len x + one_if v.raised → BeginsWith (m.grown y) seen →
          ((k : ℕ) (t : N) → get_elem? notices k ≡ some t → m.bears t y)
          → Standing m seats record {
            words = set s.words 0 0;
            homes = set s.homes 0 (some (Some y));
            views = set s.views id (gave v x y seen notices);
          }
      give_keeps s r id v x y seen notices at up taken follows long saw hold = let w : V = gave v x y seen notices in
          let knows = r.knows id v at up in let words : List ℕ = set s.words 0 0 in let two = r.two_words in let one = r.one_slot in
          let held = holding s r id v x at taken in let h = held.0 in let here = held.1 in let by = held.2 in let now = held.3 in
          let f : Follows m v.number r.now y = subst (λ (z : S). Follows m v.number z y) (sym now) follows in
          let same : get_or words 1 0 ≡ get_or s.words 1 0 = get_or-set_other s.words 0 1 0 0 (λ e. omega arith) in
          let published : get_or words 1 0 ≡ m.len y = same ∙ (h.published
          ∙ (ap (λ (z : V). m.len r.now + one_if z.raised) by ∙ (ap (λ (z : S). m.len z + one_if v.raised) now ∙ sym long))) in
          standing_after s r id v w y words (set s.homes 0 (some (Some y))) at up record {
            number = refl;
            awake = up;
            seats = refl;
            made = refl;
            joined = refl;
          } f
          (length-set s.words 0 0 ∙ two) (length-set s.homes 0 (some (Some y)) ∙ one) (subst (λ (n : ℕ). n < 2 ^ 32) (sym same) r.short)
          (subst (λ (n : ℕ). get_or s.words 1 0 ≤ n) (sym same) (le_refl (get_or s.words 1 0)))
          (inl record {
            word = get_or-set_same s.words 0 0 0 (omega arith);
            home = home_set s.homes (some (Some y)) (omega arith);
            published = published;
            no_holder = λ j u e. ⊎_elim (λ (t : (j ≡ id) × (w ≡ u)). ap (λ (z : V). z.taken) (sym t.1))
                (λ (t : (j ≢ id) × (get_elem? s.views j ≡ some u)). h.no_other j u t.1 (λ is_it. t.0 (is_it ∙ here)))
                (at_set s.views id j w u e);
          })
          record { claims = refl; own = refl; saw = saw; fixed = ap Some (fixed_kept v.number r.now y f) ∙ knows.fixed; notices = hold }
          (subst (λ (n : ℕ). m.len y ≤ n) (sym published) (le_refl (m.len y)))

      abbrev value_in : S → List (ℕ × Option S) → S
      value_in d [] = d
      value_in d ((k, None) ∷ ps) = d
      value_in d ((k, Some z) ∷ ps) = z

      any_given : (v w : V) (x y : S) (slots : List (ℕ × Option S)) → v.taken ≡ Some x → slots ≡ (0, Some y) ∷ [] → Gave m v x y w →
          (x' y' : S) → v.taken ≡ Some x' → slots ≡ (0, Some y') ∷ [] → Gave m v x' y' w
      any_given v w x y slots taken carried g x' y' taken' carried' = let ex : x ≡ x' = same_Some x x' (sym taken ∙ taken') in
          let ey : y ≡ y' = ap (value_in y) (sym carried ∙ carried') in
          subst (λ (z : S). Gave m v z y' w) ex (subst (λ (z : S). Gave m v x z w) ey g)

      -- which moves were seen and which notices there are after a give
      abbrev GiveCase : V → S → S → Type 0
      GiveCase v x y = (seen : List G) × (notices : List N) × BeginsWith (m.grown y) seen
          × ((k : ℕ) (t : N) → get_elem? notices k ≡ some t → m.bears t y) × Gave m v x y (gave v x y seen notices)

      give_case : (now : S) (v : V) (x y : S) → now ≡ x → Knows m now v → Follows m v.number x y → GiveCase v x y
      give_case now v x y is knows follows = ⊎_elim
          (λ (same : x ≡ y). let ts : List N = with_notice v.notices (m.notice v.number y) in (
            m.grown y,
            ts,
            ([], sym (append-nil (m.grown y))),
            notices_with v.number y v.notices (m.notice v.number y) refl (λ k t e. subst (m.bears t) (is ∙ same) (knows.notices k t e)),
            record {
              others = refl;
              taken = refl;
              raised = refl;
              known = refl;
              claim = refl;
              entries = refl;
              gives = refl;
              last = refl;
              unchanged = λ _. (refl, refl);
              changed = λ ne. absurd (ne same);
              longer = λ _. refl;
              as_long = λ ne _. absurd (ne same);
            },
          ))
          (λ (ev : m.event v.number x y). let other = laws.changes v.number x y ev in let hold : (k : ℕ) (t : N) →
          get_elem? v.notices k ≡ some t → m.bears t y = λ k t e. laws.still_bears v.number x y t ev
          (subst (m.bears t) is (knows.notices k t e)) in
          dite (dec_lt (length (m.grown x)) (length (m.grown y)))
          (λ more. (
            m.grown y,
            v.notices,
            ([], sym (append-nil (m.grown y))),
            hold,
            record {
              others = refl;
              taken = refl;
              raised = refl;
              known = refl;
              claim = refl;
              entries = refl;
              gives = refl;
              last = refl;
              unchanged = λ e. absurd (other e);
              changed = λ _. refl;
              longer = λ _. refl;
              as_long = λ _ le. absurd (omega arith);
            },
          ))
          (λ less. (
            v.seen,
            v.notices,
            begins_further v.seen (m.grown x) (m.grown y) (subst (λ (z : S). BeginsWith (m.grown z) v.seen) is knows.saw)
                (laws.grows v.number x y ev),
            hold,
            record {
              others = refl;
              taken = refl;
              raised = refl;
              known = refl;
              claim = refl;
              entries = refl;
              gives = refl;
              last = refl;
              unchanged = λ e. absurd (other e);
              changed = λ _. refl;
              longer = λ lt. absurd (less lt);
              as_long = λ _ _. refl;
            },
          )))
          follows

      pub gives_back : (slots id : ℕ) (me : Me (Option S) V) (x y : S) → me.0.spent ≡ false → me.0.taken ≡ Some x →
          me.1 ≡ (0, Some y) ∷ [] → Follows m me.0.number x y → m.len y ≡ m.len x + one_if me.0.raised
          → Allows (Standing m seats) slots id me 0 (λ _. 0) (λ _. given m (step slots 0 0 0 none) me 0)
      gives_back slots id me x y up taken carried follows long s r _ at _ = let held = holding s r id me.0 x at taken in let now = held.3 in
          let t = give_case r.now me.0 x y now (r.knows id me.0 at up) follows in let w : V = gave me.0 x y t.0 t.1 in (
            w,
            gives,
            tt,
            subst (λ (cs : List (ℕ × Option S)). Standing m seats (stepped s 0 0 id cs w gives)) (sym carried)
                (give_keeps s r id me.0 x y t.0 t.1 at up taken follows long t.2 t.3),
            λ x' y' taken' carried'. (any_given me.0 w x y me.1 taken carried t.4 x' y' taken' carried', ap rest carried),
          )

      pub gave_same : (v w : V) (x y : S) → Gave m v x y w → KeepsRest v w
      gave_same v w x y g = let e = g.others in record {
        number = ap (λ (z : V). z.number) e;
        made = ap (λ (z : V). z.made) e;
        awake = ap (λ (z : V). z.spent) e;
        misses = ap (λ (z : V). z.misses) e;
        word = ap (λ (z : V). z.last_word) e;
        seats = ap (λ (z : V). z.seats) e;
      }

      -- the seat with number 0 is the first
      is_first : (s : St) (r : Standing m seats s) (id : ℕ) (v : V) → get_elem? s.views id ≡ some v → v.spent ≡ false → v.number ≡ 0 →
          (id ≡ 0) × (r.seated.first ≡ v)
      is_first s r id v at up zero_is = let q = r.seated in let e : id ≡ 0 = q.apart id 0 v q.first at q.at up q.awake
          (zero_is ∙ sym q.number) in
          (e, some-injective q.first v (sym q.at ∙ (ap (get_elem? s.views) (sym e) ∙ at)))

      with_newcomer : (s : St) (x : S) (w : V) → w.taken ≡ None → Free m x s ⊎ Held m x s →
          (let t : St = record { words = s.words; homes = s.homes; views = s.views ++ w ∷ [] } in Free m x t ⊎ Held m x t)
      with_newcomer s x w none_taken turn = ⊎_elim
          (λ (f : Free m x s). inl record {
            word = f.word;
            home = f.home;
            published = f.published;
            no_holder = λ j u e. ⊎_elim (f.no_holder j u) (λ (t : (j ≡ length s.views) × (w ≡ u)). ap (λ (z : V). z.taken) (sym t.1)
                ∙ none_taken) (at_end s.views w u j e);
          })
          (λ (h : Held m x s). inr record {
            seat = h.seat;
            by = h.by;
            at = at_longer s.views (w ∷ []) h.seat h.by h.at;
            awake = h.awake;
            word = h.word;
            took = h.took;
            published = h.published;
            no_other = λ j u e other. ⊎_elim (λ (b : get_elem? s.views j ≡ some u). h.no_other j u b other)
                (λ (t : (j ≡ length s.views) × (w ≡ u)). ap (λ (z : V). z.taken) (sym t.1) ∙ none_taken) (at_end s.views w u j e);
          })
          turn

      each_more : (K : V → Type 0) (views : List V) (w : V) → K w → ((j : ℕ) (u : V) → get_elem? views j ≡ some u → u.spent ≡ false → K u) →
          (j : ℕ) (u : V) → get_elem? (views ++ w ∷ []) j ≡ some u → u.spent ≡ false → K u
      each_more K views w mine others j u e up = ⊎_elim (λ (b : get_elem? views j ≡ some u). others j u b up)
          (λ (t : (j ≡ length views) × (w ≡ u)). subst K t.1 mine) (at_end views w u j e)

      pub splits : (id : ℕ) (v : V) → v.spent ≡ false → v.number ≡ 0 → v.made < v.seats →
          Splits (Standing m seats) id v (one_more v) (newcomer v)
      splits id v up zero_is fewer s r at = let q = r.seated in let one = is_first s r id v at up zero_is in let here = one.0 in
          let is = one.1 in let left : V = one_more v in let right : V = newcomer v in
          let vs : List V = set s.views id left in let knows = r.knows id v at up in let rooms = r.rooms id v at up in
          let made : q.first.made ≡ v.made = ap (λ (z : V). z.made) is in
          let joined : q.first.joined ≡ v.joined = ap (λ (z : V). z.joined) is in
          let old : (j : ℕ) (u : V) → get_elem? vs j ≡ some u → u.spent ≡ false → (t : V) × (get_elem? s.views j ≡ some t)
          × (t.spent ≡ false) × (t.number ≡ u.number) =
          λ j u e awake. ⊎_elim (λ (t : (j ≡ id) × (left ≡ u)). (v, ap (get_elem? s.views) t.0 ∙ at, up, ap (λ (z : V). z.number) t.1))
          (λ (t : (j ≢ id) × (get_elem? s.views j ≡ some u)). (u, t.1, awake, refl)) (at_set s.views id j left u e) in
          let lower : (j : ℕ) (u : V) → get_elem? vs j ≡ some u → u.spent ≡ false → u.number < v.made =
          λ j u e awake. let o = old j u e awake in subst (λ (n : ℕ). n < v.made) o.3
          (subst (λ (n : ℕ). o.0.number < n) made (q.below j o.0 o.1 o.2)) in
          let none_yet = q.unmade v.made (subst (λ (n : ℕ). n ≤ v.made) (sym made) (le_refl v.made)) in record {
            now = r.now;
            two_words = r.two_words;
            one_slot = r.one_slot;
            short = r.short;
            turn = with_newcomer record { words = s.words; homes = s.homes; views = vs } r.now right refl
                (turn_after s r.now id v left at up refl refl refl r.turn);
            knows = each_more (Knows m r.now) vs right
                record {
                  claims = none_yet.claim;
                  own = none_yet.entries;
                  saw = knows.saw;
                  fixed = knows.fixed;
                  notices = λ k t e. absurd (some-ne-none t (sym e));
                }
                (each_after (Knows m r.now) s.views id left record {
                  claims = knows.claims;
                  own = knows.own;
                  saw = knows.saw;
                  fixed = knows.fixed;
                  notices = knows.notices;
                } (λ j u _ e awake. r.knows j u e awake));
            lengths = each_more (λ u. u.known ≤ get_or s.words 1 0) vs right (r.lengths id v at up)
                (each_after (λ u. u.known ≤ get_or s.words 1 0) s.views id left (r.lengths id v at up)
                (λ j u _ e awake. r.lengths j u e awake));
            rooms = each_more (λ u. u.seats ≡ seats) vs right rooms (each_after (λ u. u.seats ≡ seats) s.views id left rooms
                (λ j u _ e awake. r.rooms j u e awake));
            seated = record {
              first = left;
              at = at_longer vs (right ∷ []) 0 left (subst (λ (i : ℕ). get_elem? vs i ≡ some left) here (set_at s.views id v left at));
              awake = up;
              number = zero_is;
              room = subst (λ (n : ℕ). v.made + 1 ≤ n) rooms (omega arith);
              left = λ k p e. q.left k p (subst (λ ps. get_elem? ps k ≡ some p) (sym joined) e);
              left_below = λ k p e. let lt = q.left_below k p (subst (λ ps. get_elem? ps k ≡ some p) (sym joined) e) in omega arith;
              unmade = λ n le. q.unmade n (omega arith);
              below = each_more (λ u. u.number < v.made + 1) vs right (omega arith)
                  (λ j u e awake. let b = lower j u e awake in omega arith);
              apart = λ i j a b p p' ua ub e. ⊎_elim
                  (λ (pa : get_elem? vs i ≡ some a). ⊎_elim
                  (λ (pb : get_elem? vs j ≡ some b). let o = old i a pa ua in let n = old j b pb ub in
                  q.apart i j o.0 n.0 o.1 n.1 o.2 n.2 (o.3 ∙ (e ∙ sym n.3)))
                  (λ (t : (j ≡ length vs) × (right ≡ b)). let lt = lower i a pa ua in
                  let is_made : v.made ≡ b.number = ap (λ (z : V). z.number) t.1 in absurd (omega arith))
                  (at_end vs right b j p'))
                  (λ (t : (i ≡ length vs) × (right ≡ a)). ⊎_elim
                  (λ (pb : get_elem? vs j ≡ some b). let lt = lower j b pb ub in
                  let is_made : v.made ≡ a.number = ap (λ (z : V). z.number) t.1 in absurd (omega arith))
                  (λ (t' : (j ≡ length vs) × (right ≡ b)). t.0 ∙ sym t'.0)
                  (at_end vs right b j p'))
                  (at_end vs right a i p);
              still_here = λ j u e awake k p jp. let jp' = subst (λ ps. get_elem? ps k ≡ some p) (sym joined) jp in ⊎_elim
                  (λ (b : get_elem? vs j ≡ some u). let o = old j u b awake in
                  λ is_it. q.still_here j o.0 o.1 o.2 k p jp' (is_it ∙ sym o.3))
                  (λ (t : (j ≡ length vs) × (right ≡ u)). let lt = q.left_below k p jp' in
                  let is_made : v.made ≡ u.number = ap (λ (z : V). z.number) t.1 in λ is_it. omega arith)
                  (at_end vs right u j e);
              each_made = λ n lt. dite (ℕ_discrete n v.made)
                  (λ new. inl record {
                    seat = length vs;
                    view = right;
                    at = at_last vs right (length vs) refl;
                    awake = up;
                    number = sym new;
                  })
                  (λ older. ⊎_elim (λ (l : IsLive s.views n). let t = live_set s.views id v left n at up refl l in
                  inl record {
                    seat = t.seat;
                    view = t.view;
                    at = at_longer vs (right ∷ []) t.seat t.view t.at;
                    awake = t.awake;
                    number = t.number;
                  })
                  (λ (k : IsJoined q.first n). inr (joined_before q.first left n (sym joined) k)) (q.each_made n (omega arith)));
            };
          }

      -- a seat that hasn't the turn is spent
      spent_away : (s : St) (x : S) (other : ℕ) (w : V) → get_elem? s.views other ≡ some w → w.taken ≡ None → Free m x s ⊎ Held m x s →
          (let t : St = record { words = s.words; homes = s.homes; views = set s.views other spent_view } in Free m x t ⊎ Held m x t)
      spent_away s x other w at none_taken turn = let gone : V = spent_view in ⊎_elim
          (λ (f : Free m x s). inl record {
            word = f.word;
            home = f.home;
            published = f.published;
            no_holder = λ j u e. ⊎_elim (λ (t : (j ≡ other) × (gone ≡ u)). ap (λ (z : V). z.taken) (sym t.1))
                (λ (t : (j ≢ other) × (get_elem? s.views j ≡ some u)). f.no_holder j u t.1) (at_set s.views other j gone u e);
          })
          (λ (h : Held m x s). inr record {
            seat = h.seat;
            by = h.by;
            at = set_else s.views other h.seat gone (λ e. taken_by_one x w h.by none_taken h.took other h.seat s.views at h.at (sym e))
                ∙ h.at;
            awake = h.awake;
            word = h.word;
            took = h.took;
            published = h.published;
            no_other = λ j u e away. ⊎_elim (λ (t : (j ≡ other) × (gone ≡ u)). ap (λ (z : V). z.taken) (sym t.1))
                (λ (t : (j ≢ other) × (get_elem? s.views j ≡ some u)). h.no_other j u t.1 away) (at_set s.views other j gone u e);
          })
          turn

      pub joins : (id : ℕ) (v : V) (other : ℕ) (w : V) → v.spent ≡ false → v.number ≡ 0 → w.spent ≡ false → w.taken ≡ None →
          w.claim ≡ None → Joins (Standing m seats) id v other w (joining v w) spent_view
      joins id v other w up zero_is awake none_taken no_claim s r at apart there = let q = r.seated in
          let one = is_first s r id v at up zero_is in let here = one.0 in let is = one.1 in let both : V = joining v w in
          let gone : V = spent_view in let kept : JoinedSeat E = kept_of w in
          let vs : List V = set s.views id both in let us : List V = set vs other gone in let knows = r.knows id v at up in
          let rooms = r.rooms id v at up in let made : q.first.made ≡ v.made = ap (λ (z : V). z.made) is in
          let joined : q.first.joined ≡ v.joined = ap (λ (z : V). z.joined) is in
          let there' : get_elem? s.views other ≡ some w = sym (set_else s.views id other both apart) ∙ there in
          let theirs = r.knows other w there' awake in
          let lower : w.number < v.made = subst (λ (n : ℕ). w.number < n) made (q.below other w there' awake) in
          let old : (j : ℕ) (u : V) → get_elem? us j ≡ some u → u.spent ≡ false → (t : V) × (get_elem? s.views j ≡ some t)
          × (t.spent ≡ false) × (t.number ≡ u.number) × (j ≢ other) =
          λ j u e a. ⊎_elim (λ (t : (j ≡ other) × (gone ≡ u)). absurd (true≢false (ap (λ (z : V). z.spent) t.1 ∙ a)))
          (λ (t : (j ≢ other) × (get_elem? vs j ≡ some u)). ⊎_elim
          (λ (t' : (j ≡ id) × (both ≡ u)). (v, ap (get_elem? s.views) t'.0 ∙ at, up, ap (λ (z : V). z.number) t'.1, t.0))
          (λ (t' : (j ≢ id) × (get_elem? s.views j ≡ some u)). (u, t'.1, a, refl, t.0)) (at_set s.views id j both u t.1))
          (at_set vs other j gone u e) in
          let each : (K : V → Type 0) → K both → ((j : ℕ) (u : V) → get_elem? s.views j ≡ some u → u.spent ≡ false → K u) →
          (j : ℕ) (u : V) → get_elem? us j ≡ some u → u.spent ≡ false → K u =
          λ K mine others j u e a. ⊎_elim (λ (t : (j ≡ other) × (gone ≡ u)). absurd (true≢false (ap (λ (z : V). z.spent) t.1 ∙ a)))
          (λ (t : (j ≢ other) × (get_elem? vs j ≡ some u)). each_after K s.views id both mine (λ i x _ p b. others i x p b) j u t.1 a)
          (at_set vs other j gone u e) in
          let turned = turn_after s r.now id v both at up refl refl refl r.turn in record {
            now = r.now;
            two_words = r.two_words;
            one_slot = r.one_slot;
            short = r.short;
            turn = spent_away record { words = s.words; homes = s.homes; views = vs } r.now other w there none_taken turned;
            knows = each (Knows m r.now)
                record {
                  claims = knows.claims;
                  own = knows.own;
                  saw = knows.saw;
                  fixed = knows.fixed;
                  notices = λ k t e. ⊎_elim (knows.notices k t) (λ (i : (i : ℕ)
                      × (get_elem? w.notices i ≡ some t)). theirs.notices i.0 t i.1) (at_either v.notices w.notices t k e);
                }
                r.knows;
            lengths = each (λ u. u.known ≤ get_or s.words 1 0) (r.lengths id v at up) r.lengths;
            rooms = each (λ u. u.seats ≡ seats) rooms r.rooms;
            seated = record {
              first = both;
              at = set_else vs other 0 gone (λ e. apart (sym e ∙ sym here))
                  ∙ subst (λ (i : ℕ). get_elem? vs i ≡ some both) here (set_at s.views id v both at);
              awake = up;
              number = zero_is;
              room = subst (λ (n : ℕ). n ≤ seats) made q.room;
              left = λ k p e. ⊎_elim
                  (λ (b : get_elem? v.joined k ≡ some p). q.left k p (subst (λ ps. get_elem? ps k ≡ some p) (sym joined) b))
                  (λ (is_it : kept ≡ p). subst (IsLeft m r.now) is_it record { claim = theirs.claims ∙ no_claim; entries = theirs.own })
                  (at_snoc v.joined kept p k e);
              left_below = λ k p e. ⊎_elim
                  (λ (b : get_elem? v.joined k ≡ some p). subst (λ (n : ℕ). p.number < n) made
                  (q.left_below k p (subst (λ ps. get_elem? ps k ≡ some p) (sym joined) b)))
                  (λ (is_it : kept ≡ p). subst (λ (p : JoinedSeat E). p.number < v.made) is_it lower)
                  (at_snoc v.joined kept p k e);
              unmade = λ n le. q.unmade n (subst (λ (k : ℕ). k ≤ n) (sym made) le);
              below = λ j u e a. let o = old j u e a in let b = q.below j o.0 o.1 o.2 in
                  subst (λ (n : ℕ). n < v.made) o.3 (subst (λ (n : ℕ). o.0.number < n) made b);
              apart = λ i j a b p p' ua ub e. let o = old i a p ua in let n = old j b p' ub in
                  q.apart i j o.0 n.0 o.1 n.1 o.2 n.2 (o.3 ∙ (e ∙ sym n.3));
              still_here = λ j u e a k p jp. let o = old j u e a in ⊎_elim
                  (λ (b : get_elem? v.joined k ≡ some p). λ is_it. q.still_here j o.0 o.1 o.2 k p
                  (subst (λ ps. get_elem? ps k ≡ some p) (sym joined) b) (is_it ∙ sym o.3))
                  (λ (is_it : kept ≡ p). λ same. o.4 (q.apart j other o.0 w o.1 there' o.2 awake
                  (o.3 ∙ (sym same ∙ ap (λ (z : JoinedSeat E). z.number) (sym is_it)))))
                  (at_snoc v.joined kept p k jp);
              each_made = λ n lt. ⊎_elim
                  (λ (l : IsLive s.views n). dite (ℕ_discrete l.seat other)
                  (λ e. let is_it : w ≡ l.view = some-injective w l.view (sym there' ∙ ap (get_elem? s.views) (sym e) ∙ l.at) in
                  inr record {
                    place = length v.joined;
                    kept = kept;
                    at = at_last v.joined kept (length v.joined) refl;
                    number = ap (λ (z : V). z.number) is_it ∙ l.number;
                  })
                  (λ ne. dite (ℕ_discrete l.seat id)
                  (λ e. let is_it : v ≡ l.view = some-injective v l.view (sym at ∙ ap (get_elem? s.views) (sym e) ∙ l.at) in
                  let here : get_elem? us id ≡ some both = set_else vs other id gone (λ same. ne (e ∙ same))
                  ∙ set_at s.views id v both at in
                  inl record { seat = id; view = both; at = here; awake = up; number = ap (λ (z : V). z.number) is_it ∙ l.number })
                  (λ away. let here = set_else vs other l.seat gone ne ∙ set_else s.views id l.seat both away ∙ l.at in
                  inl record { seat = l.seat; view = l.view; at = here; awake = l.awake; number = l.number })))
                  (λ (k : IsJoined q.first n). let j = joined_before q.first v n (sym joined) k in
                  inr record { place = j.place; kept = j.kept; at = at_longer v.joined (kept ∷ []) j.place j.kept j.at; number = j.number })
                  (q.each_made n (subst (λ (b : ℕ). n < b) (sym made) lt));
            };
          }

      pub closes : (id : ℕ) (v : V) (ws : List ℕ) (xs : List (Option S)) → v.spent ≡ false → v.number ≡ 0 → v.taken ≡ None → AllJoined v →
          Final (Seen (Standing m seats) id v) ws xs
          → (x : S) × (get_elem? xs 0 ≡ some (Some x)) × Closes m x v
      closes id v ws xs up zero_is none_taken all f = let s = f.0 in let r = f.1.0 in let at = f.1.1 in let q = r.seated in
          let one = is_first s r id v at up zero_is in let is = one.1 in let made : q.first.made ≡ v.made = ap (λ (z : V). z.made) is in
          let joined : q.first.joined ≡ v.joined = ap (λ (z : V). z.joined) is in ⊎_elim
          (λ (b : Free m r.now s). (
            r.now,
            f.4 0 (Some r.now) b.home,
            record {
              knows = r.knows id v at up;
              length_known = subst (λ (n : ℕ). v.known ≤ n) b.published (r.lengths id v at up);
              joined = λ k p e. q.left k p (subst (λ ps. get_elem? ps k ≡ some p) (sym joined) e);
              unmade = λ n le. q.unmade n (subst (λ (k : ℕ). k ≤ n) (sym made) le);
            },
          ))
          (λ (h : Held m r.now s). dite (ℕ_discrete h.by.number 0)
          (λ zero_by. absurd (taken_by_one r.now v h.by none_taken h.took id h.seat s.views at h.at
          (q.apart id h.seat v h.by at h.at up h.awake (zero_is ∙ sym zero_by))))
          (λ other. let below = q.below h.seat h.by h.at h.awake in let j = all h.by.number (omega arith)
          (subst (λ (n : ℕ). h.by.number < n) made below) in
          absurd (q.still_here h.seat h.by h.at h.awake j.place j.kept
          (subst (λ ps. get_elem? ps j.place ≡ some j.kept) (sym joined) j.at) j.number)))
          r.turn

    pub starts : (x : S) (length : ℕ) (seats : ℕ) → 0 < seats → length ≡ m.len x → length < 2 ^ 32 → ((n : ℕ) → IsUnused m x n)
        → Standing m seats (opening (0 ∷ length ∷ []) (Some x ∷ []) (beginning m x seats))
    starts x n seats some_seats is short fresh = let v : V = beginning m x seats in let only : (j : ℕ) (u : V) →
        get_elem? (v ∷ []) j ≡ some u → (j ≡ 0) × (v ≡ u) = λ j u e. only_one v u j e in record {
          now = x;
          two_words = refl;
          one_slot = refl;
          short = short;
          turn = inl record { word = refl; home = refl; published = is; no_holder = λ j u e. ap (λ (z : V). z.taken) (sym (only j u e).1) };
          knows = λ j u e _. subst (Knows m x) (only j u e).1 record {
            claims = (fresh 0).claim;
            own = (fresh 0).entries;
            saw = ([], sym (append-nil (m.grown x)));
            fixed = refl;
            notices = λ k t e. absurd (some-ne-none t (sym e));
          };
          lengths = λ j u e _. subst (λ (z : V). z.known ≤ n) (only j u e).1 (subst (λ (k : ℕ). m.len x ≤ k) (sym is) (le_refl (m.len x)));
          rooms = λ j u e _. ap (λ (z : V). z.seats) (sym (only j u e).1);
          seated = record {
            first = v;
            at = refl;
            awake = refl;
            number = refl;
            room = some_seats;
            left = λ k p e. absurd (some-ne-none p (sym e));
            left_below = λ k p e. absurd (some-ne-none p (sym e));
            unmade = λ k _. fresh k;
            below = λ j u e _. subst (λ (z : V). z.number < 1) (only j u e).1 (le_refl 1);
            apart = λ i j a b p q _ _ _. (only i a p).0 ∙ sym (only j b q).0;
            still_here = λ j u e _ k p jp. absurd (some-ne-none p (sym jp));
            each_made = λ k lt. inl record { seat = 0; view = v; at = refl; awake = refl; number = omega arith };
          };
        }
