use Rattle.std.proofs.Common.{ap}
use Rattle.lp_tidying.proofs.Forgotten.{forgotten_closed, forgotten_world}
use Rattle.lp_tidying.proofs.ended.forget_ended.Goals as goal

pub returns-clause-world : goal.returns-clause-world
returns-clause-world c =
    forgotten_world c.args.live.now _ c.forget_dead.new.self c.died.result.now (ap (λ rows. record c.args.live.now { names = c.forget_dead.new.self; objects = rows }) c.forget_rows.ensures) c.forget_dead.ensures.clones c.forget_dead.ensures.same

pub returns-clause-closed : goal.returns-clause-closed
returns-clause-closed c =
    forgotten_closed c.args.live.now _ c.forget_dead.new.self c.died.result.now (ap (λ rows. record c.args.live.now { names = c.forget_dead.new.self; objects = rows }) c.forget_rows.ensures) c.requires.closed
