use Rattle.std.proofs.lemmas.Result.{err_from_is_err_and}
use Rattle.lp_script.proofs.PutLemmas.{Puts-none, Puts-next, Puts-stop, Puts-all}
use Rattle.lp_recording.proofs.put.put_pieces.Goals as goal

pub loop-piece-init : goal.loop-piece-init
loop-piece-init g c = Puts-none _

pub returns-in_err-put : goal.returns-in_err-put
returns-in_err-put g c =
    let p = err_from_is_err_and c.from_residual.result c.from_residual.ensures.1 in
    rw (p.1, p.2) (Puts-stop _ _ _ _ _ _ _ c.loop-piece-test.true c.loop-piece.invariant (c.in_err-put.ensures))

pub loop-piece-preserved : goal.loop-piece-preserved
loop-piece-preserved g c = Puts-next _ _ _ _ _ _ c.loop-piece-test.true c.loop-piece.invariant (c.in_ok-put.ensures)

pub returns : goal.returns
returns g c = Puts-all _ _ _ _ c.loop-piece-test.false c.loop-piece.invariant
