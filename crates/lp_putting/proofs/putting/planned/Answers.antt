use Rattle.std.proofs.Common.{subst, sym}
use Rattle.lp_putting.specs.Plans.{IsPlanned}
use Rattle.lp_putting.proofs.putting.planned.Goals as goal

pub returns-in-AddAction-clause-planned : goal.returns-in-AddAction-clause-planned
returns-in-AddAction-clause-planned c = subst (λ e. IsPlanned e c.args.caller.now c.args.args.now c.args.live.now c.args.turn.now c.plan_action.result) (sym c.in-AddAction.is) (c.plan_action.ensures.planned c.args.args.now)

pub returns-in-InputTo-clause-planned : goal.returns-in-InputTo-clause-planned
returns-in-InputTo-clause-planned c = subst (λ e. IsPlanned e c.args.caller.now c.args.args.now c.args.live.now c.args.turn.now c.plan_line.result) (sym c.in-InputTo.is) (c.plan_line.ensures.planned c.args.args.now)
