-- How far a load has come, and what each call adds.
use Rattle.std.proofs.Common.{◌≡◌, ℕ, ◌+◌, ◌<◌, ◌≤◌, List, [], ◌++◌, length, take, Result, Ok, Err, Vec, IsErrAnd, IsErrOf, arith, refl, ap, sym, ◌∙◌, append_assoc, length-append}
use Rattle.std.proofs.lemmas.List.{append-nil, length-take-le}
use Rattle.std.specs.declared.alloc.Global.{Global}
use Rattle.mk_desk.specs.Folders.{Desk, State, HasCause, Reads}
use Rattle.mk_desk.specs.Transfers.{ReadsRest, passed_on}
use Rattle.mk_desk.proofs.Telling.{cause_from}
use Rattle.mk_desk.specs.declared.folder.DeskFault.{DeskFault}
use Rattle.mk_desk.specs.declared.folder.DeskFault.TheVariants as desk
use Rattle.mk_desk.specs.declared.transfer.LoadFault.{LoadFault}
use Rattle.mk_desk.specs.declared.transfer.LoadFault.TheVariants.{Memory, Failed, FileSize}

-- these bytes were read of what was left, and only that changed
pub record HasRead (bytes : List ℕ) (before after : Desk) : Type 0 where
  pub front : before.rest ≡ bytes ++ after.rest
  pub same : after ≡ record before { rest = after.rest }

-- nothing was read at first
pub none_read : (bytes : List ℕ) → bytes ≡ [] → (x : Desk) → HasRead bytes x x
none_read bytes none x = record { front = ap (λ xs. xs ++ x.rest) (sym none); same = refl }

-- a read adds what it gave
pub read_more : (bytes into more : List ℕ) (n : ℕ) → more ≡ bytes ++ take n into → (x y z : Desk) → HasRead bytes x y → Reads into (Ok n) y z → HasRead more x z
read_more bytes into more n e x y z so_far reads = record {
  front =
      so_far.front ∙ ap (λ rest. bytes ++ rest) (sym reads.0)
      ∙ sym (append_assoc bytes (take n into) z.rest) ∙ ap (λ front. front ++ z.rest) (sym e);
  same = reads.2 ∙ ap (λ (w : Desk). record w { rest = z.rest }) so_far.same;
}

-- at the end of the file all of it was read
pub all_read : (into : List ℕ) (bytes : Vec ℕ Global) (limit n : ℕ) → n ≡ 0 → length bytes.items ≤ limit → (x y z : Desk)
    → HasRead bytes.items x y → Reads into (Ok n) y z → ReadsRest limit (Ok bytes) x z
all_read into bytes limit n none within x y z so_far reads = (
  (so_far.front ∙ ap (λ rest. bytes.items ++ rest) (reads.1 none) ∙ append-nil bytes.items, within),
  reads.2 ∙ ap (λ (w : Desk). record w { rest = z.rest }) so_far.same,
)

-- a file of which more than the limit was read is too long
pub too_long : (into bytes : List ℕ) (limit read n : ℕ) → limit < length bytes + n → n ≤ length into → (x y z : Desk)
    → HasRead bytes x y → Reads into (Ok n) y z → ReadsRest limit (Err (FileSize read)) x z
too_long into bytes limit read n long within x y z so_far reads = (
  omega (arith, length-take-le n into within, ap length reads.0, length-append (take n into) z.rest, ap length so_far.front, length-append bytes y.rest),
  reads.2 ∙ ap (λ (w : Desk). record w { rest = z.rest }) so_far.same,
)

-- a load that memory ended
pub no_memory : (into bytes : List ℕ) (limit n : ℕ) (result : Result (Vec ℕ Global) LoadFault) → result ≡ Err Memory → (x y z : Desk)
    → HasRead bytes x y → Reads into (Ok n) y z → ReadsRest limit result x z
no_memory into bytes limit n result is x y z so_far reads = rw is (tt, reads.2 ∙ ap (λ (w : Desk). record w { rest = z.rest }) so_far.same)

-- the error is this one
pub the_error : {T E : Type 0} (result : Result T E) (e : E) → IsErrAnd result (λ y. y ≡ e) → result ≡ Err e
the_error (Ok x) e h = absurd h
the_error (Err y) e h = ap Err h

-- a load that the folder refused
refused_for : (into bytes : List ℕ) (limit : ℕ) (fault : DeskFault) (x y z : Desk) → HasRead bytes x y → Reads into (Err fault) y z → ReadsRest limit (Err (passed_on fault)) x z
refused_for into bytes limit desk.Memory x y z so_far same = (tt, same ∙ so_far.same ∙ ap (λ (w : Desk). record x { rest = w.rest }) (sym same))
refused_for into bytes limit desk.Failed x y z so_far same = (tt, same ∙ so_far.same ∙ ap (λ (w : Desk). record x { rest = w.rest }) (sym same))

pub refused : (into bytes : List ℕ) (limit : ℕ) (fault : DeskFault) (result : Result (Vec ℕ Global) LoadFault) → IsErrAnd result (λ e. e ≡ passed_on fault)
    → (x y z : Desk) → HasRead bytes x y → Reads into (Err fault) y z → ReadsRest limit result x z
refused into bytes limit fault result is x y z so_far same =
    rw (the_error result (passed_on fault) is) (refused_for into bytes limit fault x y z so_far same)

-- a folder's fault is no size
no_size_for : (fault : DeskFault) (read : ℕ) → passed_on fault ≡ FileSize read → ⊥
no_size_for desk.Memory read e = cc
no_size_for desk.Failed read e = cc

pub no_size : (T : Type 0) (fault : DeskFault) (result : Result T LoadFault) → IsErrAnd result (λ e. e ≡ passed_on fault) → (read : ℕ) → IsErrOf result (FileSize read) → ⊥
no_size T fault result is read e =
    let both : ◌≡◌ {A = Result T LoadFault} (Err (passed_on fault)) (Err (FileSize read)) = sym (the_error result (passed_on fault) is) ∙ e in
    no_size_for fault read (cc)

-- a load failed only where the folder did
failed_by_folder : (fault : DeskFault) → passed_on fault ≡ Failed → fault ≡ desk.Failed
failed_by_folder desk.Memory e = cc
failed_by_folder desk.Failed e = refl

pub cause_passed_on : (T U : Type 0) (a b c : State) (fault : DeskFault) (result : Result T LoadFault) → IsErrAnd result (λ e. e ≡ passed_on fault)
    → b.faults ≡ a.faults → HasCause {T = U} desk.Failed b c (Err fault) → HasCause Failed a c result
cause_passed_on T U a b c fault result is before cause = cause_from a b c result before (record {
  later = cause.later;
  failed = λ failed.
      let both : ◌≡◌ {A = Result T LoadFault} (Err (passed_on fault)) (Err Failed) = sym (the_error result (passed_on fault) is) ∙ failed in
      cause.failed (ap Err (failed_by_folder fault (cc)));
  quiet = λ not_failed. cause.quiet (λ e.
      let same : fault ≡ desk.Failed = cc in
      not_failed (the_error result (passed_on fault) is ∙ ap (λ f. Err (passed_on f)) same));
})

-- a read that did not fail counted no fault
pub none_counted : {T : Type 0} (a b c : State) (n : ℕ) (result : Result T DeskFault) → b ≡ record a { given = n } → HasCause desk.Failed b c result
    → (IsErrOf result desk.Failed → ⊥) → c.faults ≡ a.faults
none_counted a b c n result same cause not_failed = cause.quiet not_failed ∙ ap (λ (s : State). s.faults) same

-- only what was given changed, where no fault was counted
pub given_more : (a b c : State) (n m : ℕ) → b ≡ record a { given = n } → c ≡ record b { given = m; faults = c.faults } → c.faults ≡ a.faults → c ≡ record a { given = m }
given_more a b c n m first then same =
    then ∙ ap (λ (s : State). record s { given = m; faults = c.faults }) first ∙ ap (λ k. record a { given = m; faults = k }) same
