-- Lists of the entries of a row from a least one on, one column after another.
use Rattle.std.proofs.Common.{◌≡◌, ◌≢◌, ◌⊎◌, inl, inr, ℕ, ◌+◌, ◌<◌, ◌≤◌, cond, List, [], ◌∷◌, ◌++◌, length, arith, refl, sym, ap, ◌∙◌, subst, ℤ, ◌≤ℤ◌, ◌<ℤ◌}
use Rattle.std.specs.Prelude.{◌==◌}
use Rattle.std.proofs.lemmas.Int.{ints}
use Rattle.std.proofs.lemmas.Bool.{cases_eq}
use Rattle.std.proofs.lemmas.List.Elements.{All-nil, All-cons, All-append}
use Rattle.mk_model.specs.Vectors.{entry}
use Rattle.mk_support.specs.declared.held.ColumnEntry.{ColumnEntry}
use Rattle.mk_support.specs.HeldLeads.{listed_or, ListsFrom}

-- an entry listed behind the others
listed_or-push : (listed : List ColumnEntry) (e : ColumnEntry) (c : ℕ) (other : ℤ) → listed_or (listed ++ e ∷ []) c other ≡ listed_or listed c (listed_or (e ∷ []) c other)
listed_or-push [] e c other = refl
listed_or-push (x ∷ listed) e c other = ap (λ z. cond (x.column == c) x.entry z) (listed_or-push listed e c other)

listed_same : (e : ColumnEntry) (c : ℕ) (other : ℤ) → e.column ≡ c → listed_or (e ∷ []) c other ≡ e.entry
listed_same e c other h = grind arith

listed_other : (e : ColumnEntry) (c : ℕ) (other : ℤ) → e.column ≢ c → listed_or (e ∷ []) c other ≡ other
listed_other e c other h = grind arith

-- it is an entry of the row, from the least on
abbrev IsOwn : List ℤ → ℤ → ColumnEntry → Type 0
IsOwn row least e = (e.column < length row) × (e.entry ≡ entry row e.column) × (least ≤ℤ e.entry)

pub lists_none : (row : List ℤ) (least : ℤ) → ListsFrom row least 0 []
lists_none row least = record {
  own = All-nil _;
  larger = λ c l h other. absurd (omega arith);
  others = λ c h other. refl;
}

pub lists_same : (row : List ℤ) (least : ℤ) (n : ℕ) (listed : List ColumnEntry) → entry row n <ℤ least → ListsFrom row least n listed → ListsFrom row least (n + 1) listed
lists_same row least n listed small h = record {
  own = h.own;
  larger = λ c l k other. h.larger c (below c l k (cases_eq c n)) k other;
  others = λ c k other. h.others c (elim k [ inl p ↦ inl (omega arith) | inr p ↦ inr p ]) other;
}
  where
    below : (c : ℕ) → c < n + 1 → least ≤ℤ entry row c → (c ≡ n) ⊎ (c ≢ n) → c < n
    below c l k (inl same) =
        let q : entry row c <ℤ least = subst (λ (i : ℕ). entry row i <ℤ least) (sym same) small in
        absurd (omega (arith, ints))
    below c l k (inr other) = omega arith

pub lists_more : (row : List ℤ) (least : ℤ) (n : ℕ) (listed : List ColumnEntry) (e : ColumnEntry) → n < length row → least ≤ℤ entry row n → e.column ≡ n → e.entry ≡ entry row n → ListsFrom row least n listed → ListsFrom row least (n + 1) (listed ++ e ∷ [])
lists_more row least n listed e within large at is h = record {
  own = All-append (IsOwn row least) listed (e ∷ []) h.own (All-cons (IsOwn row least) e [] own (All-nil (IsOwn row least)));
  larger = λ c l k other. listed_or-push listed e c other ∙ larger c l k other (cases_eq c n);
  others = λ c k other. listed_or-push listed e c other ∙ others c k other;
}
  where
    own : IsOwn row least e
    own = (omega (arith, at, within), is ∙ ap (entry row) (sym at), subst (λ (z : ℤ). least ≤ℤ z) (sym is) large)

    larger : (c : ℕ) → c < n + 1 → least ≤ℤ entry row c → (other : ℤ) → (c ≡ n) ⊎ (c ≢ n) → listed_or listed c (listed_or (e ∷ []) c other) ≡ entry row c
    larger c l k other (inl same) =
        h.others c (inl (omega arith)) (listed_or (e ∷ []) c other) ∙ listed_same e c other (at ∙ sym same) ∙ is ∙ ap (entry row) (sym same)
    larger c l k other (inr apart) = h.larger c (omega arith) k (listed_or (e ∷ []) c other)

    apart_from : (c : ℕ) → (n + 1 ≤ c) ⊎ (entry row c <ℤ least) → e.column ≢ c
    apart_from c (inl p) same = omega (arith, same)
    apart_from c (inr p) same =
        let q : least ≤ℤ entry row c = subst (λ (i : ℕ). least ≤ℤ entry row i) (sym at ∙ same) large in
        omega (arith, ints)

    others : (c : ℕ) → (n + 1 ≤ c) ⊎ (entry row c <ℤ least) → (other : ℤ) → listed_or listed c (listed_or (e ∷ []) c other) ≡ other
    others c k other =
        h.others c (elim k [ inl p ↦ inl (omega arith) | inr p ↦ inr p ]) (listed_or (e ∷ []) c other)
        ∙ listed_other e c other (apart_from c k)
