use Rattle.std.proofs.Common.{refl}
use Rattle.std.proofs.lemmas.Result.{IfOk-weaker}
use Rattle.lp_commanding.specs.declared.job.Commanding.{Commanding}
use Rattle.lp_commanding.proofs.Told.{goes_from}
use Rattle.lp_commanding.proofs.next.go.Goals as goal

pub returns-clause-goes : goal.returns-clause-goes
returns-clause-goes c =
    let a = c.args in
    let o = c.ask_or_tell in
    let job : Commanding = record a.job.now { left = c.skip.new.left } in
    IfOk-weaker o.result _ _
    (λ r k. goes_from r a.job.now job o.new.job a.live.now o.new.live a.turn.now o.new.turn a.stack.now.items o.new.stack.items c.requires.untold refl c.skip.ensures.same k) o.ensures.goes
