-- Words are a line of the same pieces only, and ask for one thing only.
use Rattle.std.proofs.Common.{◌≡◌, ◌≤◌, length, arith, ℕ, List, [], ◌∷◌, Option, Some, Result, Ok, Err, IfOk, inl, inr, sym, ap, subst, ◌∙◌, IsTrue, nat_eq, eq-eqb}
use Rattle.std.proofs.lemmas.Bool.{eqb-true}
use Rattle.clap.specs.declared.parser.matches.ArgMatches.{ArgMatches}
use Rattle.mk_words.specs.declared.options.Setting.{Setting}
use Rattle.mk_words.specs.declared.options.Setting.TheVariants.{Workers, Budget, Upto, Model}
use Rattle.mk_words.specs.declared.request.Request.{Request}
use Rattle.mk_words.specs.declared.request.Task.{Task}
use Rattle.mk_words.specs.declared.request.Task.TheVariants as task
use Rattle.mk_words.specs.Words.{Word, Piece, option, plain, IsCommandLine}
use Rattle.mk_words.specs.Given.{given, plains_given, AskFor, AreGiven, AreNotGiven, AreRepeated}
use Rattle.mk_words.proofs.Reading.{Next, Any, Value, Plain, GoesOn}
use Rattle.mk_words.specs.Requests.{IsChosen, IsBound, IsTask, AreSizes, Asks, IsRequest, IsOnlyRequest, AreWrong, WantOne, values_of, plains_of}
use Rattle.mk_words.proofs.Steps.{whole_end, whole_bare, whole_both, whole_word}
use Rattle.mk_words.proofs.Lines.{line_goes}
use Rattle.mk_words.proofs.SizesRead.{same_sizes}

-- the words go on as the same pieces only, whatever the next word may be
record GoSame (words : List Word) : Type 0 where
  same : (before : Next) (one other : List Piece) → GoesOn words before one → GoesOn words before other → one ≡ other

any_same : (w : Word) (words : List Word) (one other : List Piece) → GoSame words → GoesOn (w ∷ words) Any one → GoesOn (w ∷ words) Any other → one ≡ other
unfolding GoesOn
any_same w words one other rest (inl p) h =
    let there = whole_end w words other p.is h in rest.same Plain one there.more p.rest there.rest ∙ sym there.are
any_same w words one other rest (inr (inl p)) h =
    let there = whole_bare p.setting w words other p.is h in rest.same (Value p.setting) one there.more p.rest there.rest ∙ sym there.are
any_same w words one other rest (inr (inr (inl p))) h =
    let there = whole_both p.setting p.value w words other p.is h in
    p.first.are ∙ ap (λ x. option p.setting p.value ∷ x) (rest.same Any p.first.more there.more p.first.rest there.rest) ∙ sym there.are
any_same w words one other rest (inr (inr (inr p))) h =
    let there = whole_word w words other p.isnt h in
    p.first.are ∙ ap (λ x. plain w ∷ x) (rest.same Any p.first.more there.more p.first.rest there.rest) ∙ sym there.are

step_same : (w : Word) (words : List Word) (before : Next) (one other : List Piece) → GoSame words → GoesOn (w ∷ words) before one → GoesOn (w ∷ words) before other → one ≡ other
unfolding GoesOn
step_same w words Any one other rest g h = any_same w words one other rest g h
step_same w words (Value s) one other rest g h =
    g.first.are ∙ ap (λ x. option s w ∷ x) (rest.same Any g.first.more h.first.more g.first.rest h.first.rest) ∙ sym h.first.are
step_same w words Plain one other rest g h =
    g.are ∙ ap (λ x. plain w ∷ x) (rest.same Plain g.more h.more g.rest h.rest) ∙ sym h.are

end_same : (before : Next) (one other : List Piece) → GoesOn [] before one → GoesOn [] before other → one ≡ other
unfolding GoesOn
end_same Any one other g h = g ∙ sym h
end_same (Value s) one other g h = absurd g
end_same Plain one other g h = g ∙ sym h

go_same : (words : List Word) → GoSame words
go_same [] = record { same = end_same }
go_same (w ∷ words) = record { same = λ before one other g h. step_same w words before one other (go_same words) g h }

pub same_line : (words : List Word) (one other : List Piece) → IsCommandLine words one → IsCommandLine words other → one ≡ other
same_line words one other g h = (go_same words).same Any one other (line_goes words one g) (line_goes words other h)

same_chosen : (least most default : ℕ) (values : List Word) (a b : ℕ) → IsChosen least most default values a → IsChosen least most default values b → a ≡ b
same_chosen least most default [] a b p q = p ∙ sym q
same_chosen least most default (v ∷ []) a b p q = p.value ∙ sym q.value
same_chosen least most default (v ∷ u ∷ more) a b p q = absurd p

pub same_workers : (words : List Word) (one other : Request) → IsRequest words one → IsRequest words other → one.workers ≡ other.workers
same_workers words one other g h =
    let pieces = same_line words h.pieces g.pieces h.line g.line in
    let asked = subst (λ (p : List Piece). IsChosen 1 64 4 (values_of Workers p) other.workers) pieces h.asked.workers in
    same_chosen 1 64 4 (values_of Workers g.pieces) one.workers other.workers g.asked.workers asked

made : ℕ → ℕ → Option ℕ → Task → Request
made workers budget upto task = record { workers = workers; budget = budget; upto = upto; task = task }

same_bound : (most : ℕ) (values : List Word) (a b : Option ℕ) → IsBound most values a → IsBound most values b → a ≡ b
same_bound most [] a b p q = p ∙ sym q
same_bound most (v ∷ []) a b p q = p.1 ∙ ap (λ n. Some n) (p.2.value ∙ sym q.2.value) ∙ sym q.1
same_bound most (v ∷ u ∷ more) a b p q = absurd p

same_task : (values plains : List Word) (a b : Task) → IsTask values plains a → IsTask values plains b → a ≡ b
same_task [] [] a b p q = absurd p
same_task [] (w ∷ []) (task.Project m) (task.Project n) p q = ap (λ x. task.Project x) (p.0 ∙ sym q.0)
same_task [] (w ∷ []) (task.Project m) (task.Model n) p q = absurd q
same_task [] (w ∷ []) (task.Model m) b p q = absurd p
same_task [] (w ∷ u ∷ more) a b p q = absurd p
same_task (v ∷ []) [] (task.Model m) (task.Model n) p q = ap (λ x. task.Model x) (same_sizes v m n p q)
same_task (v ∷ []) [] (task.Model m) (task.Project n) p q = absurd q
same_task (v ∷ []) [] (task.Project m) b p q = absurd p
same_task (v ∷ []) (w ∷ more) a b p q = absurd p
same_task (v ∷ u ∷ values) plains a b p q = absurd p

made_same : (a b : ℕ) (c d : ℕ) (e f : Option ℕ) (g h : Task) → a ≡ b → c ≡ d → e ≡ f → g ≡ h → made a c e g ≡ made b d f h
unfolding made
made_same a b c d e f g h p q r s = cc

same_asked : (pieces : List Piece) (one other : Request) → Asks pieces one → Asks pieces other → one ≡ other
unfolding made
same_asked pieces one other p q =
    let workers : one.workers ≡ other.workers = same_chosen 1 64 4 (values_of Workers pieces) one.workers other.workers p.workers q.workers in
    let budget : one.budget ≡ other.budget = same_chosen 0 100000000 20000000 (values_of Budget pieces) one.budget other.budget p.budget q.budget in
    let upto : one.upto ≡ other.upto = same_bound 18446744073709551615 (values_of Upto pieces) one.upto other.upto p.upto q.upto in
    let given : one.task ≡ other.task = same_task (values_of Model pieces) (plains_of pieces) one.task other.task p.task q.task in
    made_same one.workers other.workers one.budget other.budget one.upto other.upto one.task other.task workers budget upto given

pub same_request : (words : List Word) (one other : Request) → IsRequest words one → IsRequest words other → one ≡ other
same_request words one other g h =
    same_asked g.pieces one other g.asked (subst (λ (p : List Piece). Asks p other) (same_line words h.pieces g.pieces h.line g.line) h.asked)

-- a value that writes no sizes gives no task
pub no_model : (value : Word) → ((numbers : List ℕ) → AreSizes value numbers → ⊥) → (task : Task) → IsTask (value ∷ []) [] task → ⊥
no_model value none (task.Project name) h = h
no_model value none (task.Model sizes) h = none sizes h

-- what the values and the plain words ask for, the pieces that give them ask for
asks_by : (pieces : List Piece) (values : Setting → List Word) (plains : List Word) → ((s : Setting) → values_of s pieces ≡ values s) → plains_of pieces ≡ plains
    → (request : Request) → AskFor values plains request → Asks pieces request
asks_by pieces values plains same same_plains request asked = record {
  workers = subst (λ (v : List Word). IsChosen 1 64 4 v request.workers) (sym (same Workers)) asked.workers;
  budget = subst (λ (v : List Word). IsChosen 0 100000000 20000000 v request.budget) (sym (same Budget)) asked.budget;
  upto = subst (λ (v : List Word). IsBound 18446744073709551615 v request.upto) (sym (same Upto)) asked.upto;
  task = subst (λ (v : List Word). IsTask v (plains_of pieces) request.task) (sym (same Model))
      (subst (λ (p : List Word). IsTask (values Model) p request.task) (sym same_plains) asked.task);
}

asked_by : (pieces : List Piece) (values : Setting → List Word) (plains : List Word) → ((s : Setting) → values_of s pieces ≡ values s) → plains_of pieces ≡ plains
    → (request : Request) → Asks pieces request → AskFor values plains request
asked_by pieces values plains same same_plains request asked = record {
  workers = subst (λ (v : List Word). IsChosen 1 64 4 v request.workers) (same Workers) asked.workers;
  budget = subst (λ (v : List Word). IsChosen 0 100000000 20000000 v request.budget) (same Budget) asked.budget;
  upto = subst (λ (v : List Word). IsBound 18446744073709551615 v request.upto) (same Upto) asked.upto;
  task = subst (λ (v : List Word). IsTask v plains request.task) (same Model)
      (subst (λ (p : List Word). IsTask (values_of Model pieces) p request.task) same_plains asked.task);
}

-- the words ask for what the values that the parser found ask for, and for nothing else
request_by : (words : List Word) (found : ArgMatches) → AreGiven words found → (request : Request)
    → AskFor (λ s. given s found) (plains_given found) request → IsRequest words request
request_by words found is request asked = record {
  pieces = is.pieces;
  line = is.line.line;
  asked = asks_by is.pieces (λ s. given s found) (plains_given found) is.values is.plains request asked;
}

pub ask_request : {E : Type 0} (words : List Word) (found : ArgMatches) → AreGiven words found → (r : Result Request E)
    → IfOk r (AskFor (λ s. given s found) (plains_given found)) → IfOk r (IsRequest words)
ask_request words found is (Ok request) asked = request_by words found is request asked
ask_request words found is (Err e) asked = asked

pub ask_only : {E : Type 0} (words : List Word) (found : ArgMatches) → AreGiven words found → (r : Result Request E)
    → IfOk r (AskFor (λ s. given s found) (plains_given found)) → IfOk r (IsOnlyRequest words)
ask_only words found is (Ok request) asked = λ other request_is. same_request words other request request_is (request_by words found is request asked)
ask_only words found is (Err e) asked = asked

pub ask_nothing : (words : List Word) (found : ArgMatches) → AreGiven words found
    → ((request : Request) → AskFor (λ s. given s found) (plains_given found) request → ⊥) → AreWrong words
ask_nothing words found is none request asks =
    none request (asked_by is.pieces (λ s. given s found) (plains_given found) is.values is.plains request
    (subst (λ (p : List Piece). Asks p request) (is.line.alone asks.pieces asks.line) asks.asked))

-- words that are no line, or that give something more than once, ask for nothing
many_chosen : (least most default : ℕ) (values : List Word) (n : ℕ) → 2 ≤ length values → IsChosen least most default values n → ⊥
many_chosen least most default [] n le h = absurd (omega arith)
many_chosen least most default (v ∷ []) n le h = absurd (omega arith)
many_chosen least most default (v ∷ u ∷ more) n le h = h

many_bound : (most : ℕ) (values : List Word) (n : Option ℕ) → 2 ≤ length values → IsBound most values n → ⊥
many_bound most [] n le h = absurd (omega arith)
many_bound most (v ∷ []) n le h = absurd (omega arith)
many_bound most (v ∷ u ∷ more) n le h = h

many_models : (values plains : List Word) (task : Task) → 2 ≤ length values → IsTask values plains task → ⊥
many_models [] plains t le h = absurd (omega arith)
many_models (v ∷ []) plains t le h = absurd (omega arith)
many_models (v ∷ u ∷ more) plains t le h = h

many_plains : (values plains : List Word) (task : Task) → 2 ≤ length plains → IsTask values plains task → ⊥
many_plains values [] t le h = absurd (omega arith)
many_plains values (w ∷ []) t le h = absurd (omega arith)
many_plains [] (w ∷ u ∷ more) t le h = h
many_plains (v ∷ []) (w ∷ u ∷ more) t le h = h
many_plains (v ∷ x ∷ values) (w ∷ u ∷ more) t le h = h

repeated_asks : (pieces : List Piece) (request : Request) → AreRepeated pieces → Asks pieces request → ⊥
repeated_asks pieces request (inl p) asks = go p.0 p.1
  where
    go : (s : Setting) → 2 ≤ length (values_of s pieces) → ⊥
    go Workers le = many_chosen 1 64 4 (values_of Workers pieces) request.workers le asks.workers
    go Budget le = many_chosen 0 100000000 20000000 (values_of Budget pieces) request.budget le asks.budget
    go Upto le = many_bound 18446744073709551615 (values_of Upto pieces) request.upto le asks.upto
    go Model le = many_models (values_of Model pieces) (plains_of pieces) request.task le asks.task
repeated_asks pieces request (inr le) asks = many_plains (values_of Model pieces) (plains_of pieces) request.task le asks.task

pub not_given : (words : List Word) → AreNotGiven words → AreWrong words
not_given words none request is = repeated_asks is.pieces request (none is.pieces is.line) is.asked

-- whether one worker is wanted
wants_by : (words : List Word) (request : Request) → IsRequest words request → WantOne words → request.workers ≡ 1
wants_by words request is (inl wrong) = absurd (wrong request is)
wants_by words request is (inr one) = same_workers words request one.0 is one.1 ∙ one.2

pub wants : (words : List Word) (request : Request) → IsRequest words request → (IsTrue (nat_eq request.workers 1) → WantOne words) × (WantOne words → IsTrue (nat_eq request.workers 1))
wants words request is = (
  (λ one. inr (request, is, eqb-true request.workers 1 one)),
  (λ one. eq-eqb request.workers 1 (wants_by words request is one)),
)

pub wants_wrong : (words : List Word) → AreWrong words → WantOne words
wants_wrong words wrong = inl wrong
