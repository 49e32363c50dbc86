-- What a state that is changed in turns means, and the laws of such a meaning.
use Rattle.std.specs.Prelude.{◌≡◌, ◌≢◌, ◌⊎◌, ℕ, ◌≤◌, List, ◌++◌, Option, Some}

-- the list ys begins with xs
abbrev pub BeginsWith : {A : Type 0} → List A → List A → Type 0
BeginsWith {A} ys xs = (zs : List A) × (ys ≡ xs ++ zs)

-- What is said of a state S: its length, and by number the claim, the entries and the notice; the list that only grows; what is fixed; and
-- the whole. `bears` says that a state bears out a notice, and `event` that the second state comes from the first by one event of that
-- number.
pub record Meaning (S C E G F N W : Type 0) : Type 1 where
  pub len : S → ℕ
  pub claim : ℕ → S → Option C
  pub entries : ℕ → S → List E
  pub grown : S → List G
  pub fixed : S → F
  pub notice : ℕ → S → Option N
  pub bears : N → S → Type 0
  pub whole : S → W
  pub event : ℕ → S → S → Type 0

module _ {S C E G F N W : Type 0} (m : Meaning S C E G F N W) where
  -- given back unchanged, or after one event
  abbrev pub Follows : ℕ → S → S → Type 0
  Follows n x y = (x ≡ y) ⊎ m.event n x y

  pub record Laws : Type 0 where
    pub changes : (n : ℕ) (x y : S) → m.event n x y → x ≢ y
    pub same_claim : (n k : ℕ) (x y : S) → m.event n x y → k ≢ n → m.claim k y ≡ m.claim k x
    pub same_entries : (n k : ℕ) (x y : S) → m.event n x y → k ≢ n → m.entries k y ≡ m.entries k x
    pub grows : (n : ℕ) (x y : S) → m.event n x y → BeginsWith (m.grown y) (m.grown x)
    pub longer : (n : ℕ) (x y : S) → m.event n x y → m.len x ≤ m.len y
    pub same_fixed : (n : ℕ) (x y : S) → m.event n x y → m.fixed y ≡ m.fixed x
    pub still_bears : (n : ℕ) (x y : S) (t : N) → m.event n x y → m.bears t x → m.bears t y
    pub notice_holds : (n : ℕ) (x : S) (t : N) → m.notice n x ≡ Some t → m.bears t x
