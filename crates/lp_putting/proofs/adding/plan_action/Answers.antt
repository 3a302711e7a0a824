use Rattle.std.proofs.Common.{◌∙◌, sym}
use Rattle.lp_putting.proofs.Planned.{dead_action, holder_planned, no_holder}
use Rattle.lp_putting.proofs.adding.plan_action.Goals as goal

pub returns-then-not-is_live-clause-planned : goal.returns-then-not-is_live-clause-planned
returns-then-not-is_live-clause-planned c = λ vs. dead_action c.args.caller.now vs c.args.live.now c.args.turn.now (sym c.is_live.ensures ∙ c.if-not-is_live.true)

pub returns-in-Some-clause-planned : goal.returns-in-Some-clause-planned
returns-in-Some-clause-planned c = λ vs. holder_planned c.args.caller.now vs c.args.live.now c.args.turn.now c.in-Some.p (sym c.is_live.ensures ∙ c.if-not-is_live.false) c.in-Some.ensures

pub returns-in-None-clause-planned : goal.returns-in-None-clause-planned
returns-in-None-clause-planned c = λ vs. no_holder c.args.caller.now vs c.args.live.now c.args.turn.now (sym c.is_live.ensures ∙ c.if-not-is_live.false) c.in-None.ensures
