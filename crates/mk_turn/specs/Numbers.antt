-- A number of which nothing is known: each number follows each.
use Rattle.std.specs.Prelude.{◌≢◌, ℕ, [], None}
use Rattle.std.proofs.Common.{refl, le_refl}
use Rattle.mk_turn.specs.Meanings.{Meaning, Laws}

abbrev pub any_number : Meaning ℕ (Unit {0}) (Unit {0}) (Unit {0}) (Unit {0}) (Unit {0}) (Unit {0})
any_number = record {
  len = λ _. 0;
  claim = λ _ _. None;
  entries = λ _ _. [];
  grown = λ _. [];
  fixed = λ _. tt;
  notice = λ _ _. None;
  bears = λ _ _. Unit {0};
  whole = λ _. tt;
  event = λ _ x y. x ≢ y;
}

pub any_number_laws : Laws any_number
any_number_laws = record {
  changes = λ _ _ _ e. e;
  same_claim = λ _ _ _ _ _ _. refl;
  same_entries = λ _ _ _ _ _ _. refl;
  grows = λ _ _ _ _. ([], refl);
  longer = λ _ _ _ _. le_refl 0;
  same_fixed = λ _ _ _ _. refl;
  still_bears = λ _ _ _ _ _ _. tt;
  notice_holds = λ _ _ _ _. tt;
}
