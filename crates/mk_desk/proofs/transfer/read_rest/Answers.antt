use Rattle.std.proofs.Common.{◌≡◌, ◌+◌, ap, sym, ◌∙◌, vec_len, arith}
use Rattle.std.proofs.lemmas.List.{length-take}
use Rattle.mk_desk.specs.Folders.{State}
use Rattle.mk_desk.proofs.Telling.{where_told_then, where_told_same, no_failure}
use Rattle.mk_desk.proofs.Loading.{none_read, read_more, all_read, too_long, no_memory, refused, no_size, the_error, cause_passed_on, none_counted, given_more}
use Rattle.mk_desk.specs.declared.transfer.LoadFault.TheVariants.{Memory}
use Rattle.mk_desk.proofs.transfer.read_rest.Given.{Over}
use Rattle.mk_desk.proofs.transfer.read_rest.Goals as goal

given_of : {a b : State} → a ≡ b → a.given ≡ b.given
given_of same = ap (λ (s : State). s.given) same

faults_of : {a b : State} → a ≡ b → a.faults ≡ b.faults
faults_of same = ap (λ (s : State). s.faults) same

pub loop-buffer-init : goal.loop-buffer-init
loop-buffer-init g c = record {
  within = omega (arith, c.new-bytes.ensures.len);
  same = ap (λ n. record (g.F.Folder.state c.args.folder.now) { given = n }) (c.requires.given ∙ sym c.new-bytes.ensures.len);
  room = c.in_ok-buffer.ensures.len;
  told = where_told_same (g.F.Folder.told c.args.folder.now) _ (none_read c.new-bytes.result.items c.new-bytes.ensures.items);
}

pub returns-in_err-count-clause-size : goal.returns-in_err-count-clause-size
returns-in_err-count-clause-size g c = (
  λ e. absurd (no_size _ c.in_err-count.field-0.0 c.from_residual-in_err-count.result c.from_residual-in_err-count.ensures.1 _ e),
  λ e. absurd (omega (arith, given_of c.in_err-count.ensures.state, given_of c.loop-buffer.invariant.same, c.loop-buffer.invariant.within)),
)

pub returns-in_err-count-clause-one_size : goal.returns-in_err-count-clause-one_size
returns-in_err-count-clause-one_size g c = λ read e. absurd (no_size _ c.in_err-count.field-0.0 c.from_residual-in_err-count.result c.from_residual-in_err-count.ensures.1 read e)

pub returns-in_err-count-clause-cause : goal.returns-in_err-count-clause-cause
returns-in_err-count-clause-cause g c =
    cause_passed_on _ _ _ _ _ c.in_err-count.field-0.0 c.from_residual-in_err-count.result c.from_residual-in_err-count.ensures.1 (faults_of c.loop-buffer.invariant.same) c.in_err-count.ensures.cause

pub returns-in_err-count-clause-told : goal.returns-in_err-count-clause-told
returns-in_err-count-clause-told g c =
    where_told_then _ _ _ _ _ _ c.loop-buffer.invariant.told c.in_err-count.ensures.told
    (refused c.read.new.into c.loop-buffer.bytes.items c.args.limit c.in_err-count.field-0.0 c.from_residual-in_err-count.result c.from_residual-in_err-count.ensures.1)

pub returns-then-count-eq0-clause-cause : goal.returns-then-count-eq0-clause-cause
returns-then-count-eq0-clause-cause g c = no_failure _ _ _ (none_counted (g.F.Folder.state c.args.folder.now) _ _ _ _ c.loop-buffer.invariant.same c.in_ok-count.ensures.cause (λ e. cc)) (λ e. cc)

pub returns-then-count-eq0-clause-told : goal.returns-then-count-eq0-clause-told
returns-then-count-eq0-clause-told g c =
    where_told_then _ _ _ _ _ _ c.loop-buffer.invariant.told c.in_ok-count.ensures.told
    (all_read c.read.new.into c.loop-buffer.bytes c.args.limit c.in_ok-count.count c.if-count-eq0.true (omega (arith, c.loop-buffer.invariant.within)))

pub returns-then-count-left-clause-cause : goal.returns-then-count-left-clause-cause
returns-then-count-left-clause-cause g c = no_failure _ _ _ (none_counted (g.F.Folder.state c.args.folder.now) _ _ _ _ c.loop-buffer.invariant.same c.in_ok-count.ensures.cause (λ e. cc)) (λ e. cc)

pub returns-then-count-left-clause-told : goal.returns-then-count-left-clause-told
returns-then-count-left-clause-told g c =
    where_told_then _ _ _ _ _ _ c.loop-buffer.invariant.told c.in_ok-count.ensures.told
    (too_long c.read.new.into c.loop-buffer.bytes.items c.args.limit (c.args.limit + 1) c.in_ok-count.count
    (omega (arith, c.loop-buffer.invariant.within, c.len.ensures, c.if-count-left.true))
    (let kept = c.read.auto.into in omega (arith, kept, c.in_ok-count.ensures.within)))

-- as many bytes as were read were added
grown_by : (g : Over) (c : goal.In_ok-extend_from_slice g) → vec_len c.extend_from_slice.new.self ≡ vec_len c.loop-buffer.bytes + c.in_ok-count.count
grown_by g c =
    let kept = c.read.auto.into in
    omega (arith, c.in_ok-extend_from_slice.ensures.len, length-take c.in_ok-count.count c.read.new.into, c.in_ok-count.ensures.within)

pub loop-buffer-preserved : goal.loop-buffer-preserved
loop-buffer-preserved g c = record {
  within =
      omega (
        arith,
        grown_by g c,
        c.in_ok-count.ensures.within,
        c.len.ensures,
        c.min.ensures,
        c.loop-buffer.invariant.within,
        c.if-count-left.false,
        length-take c.min.result c.deref_mut.result.now,
      );
  same =
      given_more (g.F.Folder.state c.args.folder.now) _ _ _ _ c.loop-buffer.invariant.same c.in_ok-count.ensures.state (none_counted (g.F.Folder.state c.args.folder.now) _ _ _ _ c.loop-buffer.invariant.same c.in_ok-count.ensures.cause (λ e. cc))
      ∙ ap (λ n. record (g.F.Folder.state c.args.folder.now) { given = n }) (omega (
        arith,
        grown_by g c,
        given_of c.loop-buffer.invariant.same,
        c.requires.limit,
        c.in_ok-count.ensures.within,
        c.len.ensures,
        c.min.ensures,
        c.loop-buffer.invariant.within,
        length-take c.min.result c.deref_mut.result.now,
      ));
  room = c.loop-buffer.invariant.room;
  told =
      where_told_then _ _ _ _ _ _ c.loop-buffer.invariant.told c.in_ok-count.ensures.told
      (read_more c.loop-buffer.bytes.items c.read.new.into c.extend_from_slice.new.self.items c.in_ok-count.count c.in_ok-extend_from_slice.ensures.items);
}

pub returns-in_err-extend_from_slice-clause-cause :
    goal.returns-in_err-extend_from_slice-clause-cause
returns-in_err-extend_from_slice-clause-cause g c =
    no_failure _ _ c.from_residual-in_err-extend_from_slice.result (none_counted (g.F.Folder.state c.args.folder.now) _ _ _ _ c.loop-buffer.invariant.same c.in_ok-count.ensures.cause (λ e. cc)) (λ e. cc (the_error c.from_residual-in_err-extend_from_slice.result Memory c.from_residual-in_err-extend_from_slice.ensures.1))

pub returns-in_err-extend_from_slice-clause-told :
    goal.returns-in_err-extend_from_slice-clause-told
returns-in_err-extend_from_slice-clause-told g c =
    where_told_then _ _ _ _ _ _ c.loop-buffer.invariant.told c.in_ok-count.ensures.told
    (no_memory c.read.new.into c.loop-buffer.bytes.items c.args.limit c.in_ok-count.count c.from_residual-in_err-extend_from_slice.result
    (the_error c.from_residual-in_err-extend_from_slice.result Memory c.from_residual-in_err-extend_from_slice.ensures.1))
