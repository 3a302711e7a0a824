use Rattle.std.proofs.Common.{[], arith, length-drop, refl}
use Rattle.std.proofs.lemmas.Result.{err_from_is_err_and}
use Rattle.lp_script.proofs.PutLemmas.{Puts-none}
use Rattle.lp_script.proofs.BlockLemmas.{block_more, block_cut, block_all, some_more, rest_from}
use Rattle.lp_script.proofs.block.put_block.Goals as goal

pub returns-in_err-done : goal.returns-in_err-done
returns-in_err-done g c =
    let p = err_from_is_err_and c.from_residual.result c.from_residual.ensures.1 in
    let cut = rw (rest_from c.loop-done.done c.args.outs.now) at c.in_err-done.ensures in
    rw (p.1, p.2) (block_cut _ _ _ _ c.args.outs.now c.loop-done.done c.loop-done.invariant.1 c.loop-done.invariant.2 c.loop-done.invariant.3 cut)

pub loop-done-init : goal.loop-done-init
loop-done-init g c = (omega arith, [], refl, Puts-none _)

pub loop-done-smaller : goal.loop-done-smaller
loop-done-smaller g c =
    let wrote = rw (rest_from c.loop-done.done c.args.outs.now) at c.in_ok-done.ensures in
    let some = some_more _ _ _ _ wrote in
    omega (arith, length-drop c.loop-done.done c.args.outs.now)

pub overflow_add-done : goal.overflow_add-done
overflow_add-done g c =
    let wrote = rw (rest_from c.loop-done.done c.args.outs.now) at c.in_ok-done.ensures in
    let some = some_more _ _ _ _ wrote in
    omega (arith, length-drop c.loop-done.done c.args.outs.now)

pub loop-done-preserved : goal.loop-done-preserved
loop-done-preserved g c =
    let wrote = rw (rest_from c.loop-done.done c.args.outs.now) at c.in_ok-done.ensures in
    block_more _ _ _ c.args.outs.now c.loop-done.done _ c.loop-done.invariant.1 c.loop-done.invariant.0 c.loop-done.invariant.2 c.loop-done.invariant.3 wrote

pub returns : goal.returns
returns g c = block_all _ _ c.args.outs.now c.loop-done.done c.loop-done.invariant.1 c.loop-done-test.false c.loop-done.invariant.2 c.loop-done.invariant.3
