-- Values that are found.
use Rattle.std.specs.Prelude.{List, [], ◌∷◌, Option, Some, None, option_map}
use Rattle.std.specs.Borrow.{Bor}
use Rattle.mk_words.specs.Words.{Word}

-- none or one
abbrev pub one_or_none : Option Word → List Word
one_or_none None = []
one_or_none (Some v) = v ∷ []

abbrev pub listed : Option (Bor Word) → List Word
listed found = one_or_none (option_map (λ v. v.now) found)
