use Rattle.std.proofs.Common.{◌≡◌, ◌*◌, inr, FitsSigned, rules, arith}
use mir.Syntax.{w128}
use Rattle.std.proofs.lemmas.Int.{to_z-of_z}
use Rattle.std.proofs.lemmas.Result.{err_from_is_err_and}
use Rattle.mk_files.proofs.FaultsFound.{entry_read, missing, bad_entry, one_more}
use Rattle.mk_files.proofs.reading.read_entries.Goals as goal

pub returns-in_default-clause-fault : goal.returns-in_default-clause-fault
returns-in_default-clause-fault c =
    let wanted : c.from.result * c.from-2.result ≡ c.args.rows * c.args.columns = cc (c.from.ensures, c.from-2.ensures) in
    inr (missing c.args.bytes.now c.args.bounds.now _ c.loop-found.end c.loop-found.invariant.so_far c.loop-found.found _ c.place_at-place.result c.loop-found.invariant.count wanted (omega arith) c.place_at-place.ensures c.in_default.ensures)

pub returns-in_err-read_entry-clause-fault : goal.returns-in_err-read_entry-clause-fault
returns-in_err-read_entry-clause-fault c =
    let wanted : c.from.result * c.from-2.result ≡ c.args.rows * c.args.columns = cc (c.from.ensures, c.from-2.ensures) in
    let p = err_from_is_err_and c.from_residual.result c.from_residual.ensures.1 in
    rw (p.1, p.2)
    (inr (bad_entry c.args.bytes.now c.args.bounds.now _ c.loop-found.end c.loop-found.invariant.so_far c.loop-found.found _ c.in-Some.token _ c.loop-found.invariant.count wanted (omega arith) c.in-Some.ensures c.in_err-read_entry.ensures.fault))

pub loop-found-preserved : goal.loop-found-preserved
loop-found-preserved c =
    let fits : FitsSigned w128 c.in_ok-read_entry.field-0 = search rules in
    let pushed = simp to_z-of_z at c.in_ok-push.ensures.items in
    record {
      count = grind arith;
      so_far = rw pushed (entry_read c.args.bytes.now c.args.bounds.now c.args.rows c.args.columns c.loop-found.end c.loop-found.entries.items c.in-Some.token c.in_ok-read_entry.field-0 c.loop-found.invariant.so_far c.in-Some.ensures c.in_ok-read_entry.ensures.ok.0 c.in_ok-read_entry.ensures.ok.1);
    }

pub returns-in-Some-next_token-clause-fault : goal.returns-in-Some-next_token-clause-fault
returns-in-Some-next_token-clause-fault c =
    let product : c.from.result * c.from-2.result ≡ c.args.rows * c.args.columns = cc (c.from.ensures, c.from-2.ensures) in
    let wanted : c.loop-found.found ≡ c.args.rows * c.args.columns = omega arith in
    inr (one_more c.args.bytes.now c.args.bounds.now _ c.loop-found.end c.loop-found.invariant.so_far c.loop-found.found c.in-Some-next_token.token c.place_at.result c.loop-found.invariant.count wanted c.in-Some-next_token.ensures c.place_at.ensures)
