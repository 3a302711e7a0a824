use Rattle.std.proofs.Common.{◌≤◌, arith}
use Rattle.lp_serving.proofs.Going.{ok_then}
use Rattle.lp_serving.proofs.Happening.{ticks, ticks_not, to_state}
use Rattle.lp_serving.proofs.server.Server.tick.Goals as goal

pub returns-then-moment-self-clause-goes : goal.returns-then-moment-self-clause-goes
returns-then-moment-self-clause-goes g c = λ origin from. ticks_not c.args.moment _ _ _ _ _ (λ low high. omega (arith, low, c.if-moment-self.true))

pub returns-then-moment-gt1000000000000-clause-goes : goal.returns-then-moment-gt1000000000000-clause-goes
returns-then-moment-gt1000000000000-clause-goes g c = λ origin from. ticks_not c.args.moment _ _ _ _ _ (λ low high. omega (arith, high, c.if-moment-gt1000000000000.true))

pub returns-clause-goes : goal.returns-clause-goes
returns-clause-goes g c =
    let low : c.args.self.now.moment ≤ c.args.moment = omega (arith, c.if-moment-self.false) in
    let high : c.args.moment ≤ 1000000000000 = omega (arith, c.if-moment-gt1000000000000.false) in
    ok_then c.event.result _ _
    (λ all origin from. to_state _ _ _ _ _ _ _ _ _ _ _ _ _ c.event.ensures.highest c.event.ensures.moment (ticks c.args.moment c.args.self.now.connections.highest c.args.self.now.moment _ _ _ _ _ _ low high (all origin from)))
    c.event.ensures.goes
