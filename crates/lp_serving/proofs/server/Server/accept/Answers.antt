use Rattle.lp_serving.proofs.Going.{ok_then}
use Rattle.lp_serving.proofs.Happening.{accepts_new, accepts_old}
use Rattle.lp_serving.proofs.server.Server.accept.Goals as goal

pub returns-in-Ok-true-clause-goes : goal.returns-in-Ok-true-clause-goes
returns-in-Ok-true-clause-goes g c =
    ok_then c.event.result _ _
    (λ all origin from. accepts_new c.in-Ok-true.field-0 c.args.k c.args.self.now.moment _ _ _ c.args.self.now.connections c.accept.new.self c.event.new.self.connections _ _ c.in-Ok-true.field-0-test c.in-Ok-true.ensures.fresh c.in-Ok-true.ensures.ok c.requires.number
    c.event.ensures.highest c.event.ensures.moment (all origin from))
    c.event.ensures.goes

pub returns-in-Ok-false-clause-goes : goal.returns-in-Ok-false-clause-goes
returns-in-Ok-false-clause-goes g c = λ origin from.
    accepts_old c.in-Ok-false.field-0 c.args.k c.args.self.now.moment _ c.args.self.now.connections c.accept.new.self _ c.in-Ok-false.field-0-test c.in-Ok-false.ensures.fresh c.in-Ok-false.ensures.ok c.requires.number
