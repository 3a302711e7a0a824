use Rattle.std.proofs.Common.{◌∙◌, subst, sym}
use Rattle.std.proofs.lemmas.Result.{IfOk-weaker}
use Rattle.lp_step.specs.Steps.{KeepsVariables}
use Rattle.lp_calling.proofs.Entering.{goes_entered}
use Rattle.lp_calling.proofs.Waiting.{waits_so}
use Rattle.lp_calling.proofs.next.next.Goals as goal

pub returns-clause-goes : goal.returns-clause-goes
returns-clause-goes c =
    let a = c.args in
    let e = c.enter_job.new in
    IfOk-weaker c.go.result _ _
    (λ r k. goes_entered r a.job.now e.job e.job a.live.now e.live c.go.new.live a.turn.now e.turn c.go.new.turn a.stack.now.items e.stack.items c.go.new.stack.items a.budget.now c.go.new.budget c.in_ok-enter_job.ensures.enters k) c.go.ensures.goes

pub returns-clause-variables : goal.returns-clause-variables
returns-clause-variables c = subst (λ rows. KeepsVariables c.args.live.now.objects rows) (sym c.go.ensures.objects) c.enter_job.ensures.variables

pub returns-clause-stay : goal.returns-clause-stay
returns-clause-stay c = λ v h. c.go.ensures.stay v (c.enter_job.ensures.stay v h)

pub returns-clause-names : goal.returns-clause-names
returns-clause-names c = c.go.ensures.names ∙ c.enter_job.ensures.names

pub returns-clause-waits : goal.returns-clause-waits
returns-clause-waits c =
    let e = c.enter_job.new in
    IfOk-weaker c.go.result _ _
    (λ r k. waits_so r e.job e.job e.live c.go.new.live e.turn c.go.new.turn e.stack.items c.go.new.stack.items c.args.budget.now c.go.new.budget c.in_ok-enter_job.ensures.on k) c.go.ensures.goes
