use Rattle.lp_putting.proofs.Planned.{line_planned, no_line}
use Rattle.lp_putting.proofs.awaiting.plan_line.Goals as goal

pub returns-in-Some-clause-planned : goal.returns-in-Some-clause-planned
returns-in-Some-clause-planned c = λ vs. line_planned c.args.caller.now vs c.args.live.now c.args.turn.now c.in-Some.k c.in-Some.ensures

pub returns-in-None-clause-planned : goal.returns-in-None-clause-planned
returns-in-None-clause-planned c = λ vs. no_line c.args.caller.now vs c.args.live.now c.args.turn.now c.in-None.ensures
