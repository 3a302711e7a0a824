use Rattle.std.proofs.Common.{rules, [], refl}
use Rattle.std.proofs.lemmas.Result.{err_from_is_err_and}
use Rattle.lp_script.proofs.PutLemmas.{Puts-none, encoded_stop, encoded_next, encoded_all}
use Rattle.lp_script.proofs.put.put_chars.Goals as goal

pub loop-rest-init : goal.loop-rest-init
loop-rest-init g c = ([], refl, Puts-none _)

pub returns-in_err-put : goal.returns-in_err-put
returns-in_err-put g c =
    let p = err_from_is_err_and c.from_residual.result c.from_residual.ensures.1 in
    rw (p.1, p.2) (encoded_stop _ _ _ _ c.args.chars.now c.loop-rest.invariant.0 c.loop-rest.rest.now _ _ _ _ c.split_at.ensures.front c.split_at.ensures.back c.encode-n.ensures.bytes c.loop-rest.invariant.1 c.loop-rest.invariant.2 c.in_err-put.ensures)

pub loop-rest-preserved : goal.loop-rest-preserved
loop-rest-preserved g c = encoded_next _ _ _ c.args.chars.now c.loop-rest.invariant.0 c.loop-rest.rest.now _ _ _ _ c.split_at.ensures.front c.split_at.ensures.back c.encode-n.ensures.bytes c.loop-rest.invariant.1 c.loop-rest.invariant.2 c.in_ok-put.ensures

pub returns : goal.returns
returns g c = encoded_all _ _ _ c.loop-rest.invariant.0 c.loop-rest.rest.now c.loop-rest.invariant.1 (search rules) c.loop-rest.invariant.2
