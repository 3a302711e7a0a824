use Rattle.std.proofs.Common.{◌∙◌, subst, sym}
use Rattle.lp_instr.specs.declared.efun.Efun.TheVariants as efuns
use Rattle.lp_efuns.specs.Deeds.{Does}
use Rattle.lp_putting.proofs.Planned.{dead_delay, delay_planned, negative_delay}
use Rattle.lp_putting.proofs.delaying.plan_delay.Goals as goal

pub returns-then-not-is_live-clause-planned : goal.returns-then-not-is_live-clause-planned
returns-then-not-is_live-clause-planned c = λ turn. dead_delay c.args.caller.now c.args.args.now c.args.live.now turn (sym c.is_live.ensures ∙ c.if-not-is_live.true)

pub returns-in-Some-clause-planned : goal.returns-in-Some-clause-planned
returns-in-Some-clause-planned c = λ turn. delay_planned c.args.caller.now c.args.args.now c.args.live.now turn c.in-Some.n (sym c.is_live.ensures ∙ c.if-not-is_live.false) c.in-Some.ensures.value

pub returns-in_ok-bad_second-in-None-clause-planned : goal.returns-in_ok-bad_second-in-None-clause-planned
returns-in_ok-bad_second-in-None-clause-planned c = λ turn.
    subst (λ d. Does efuns.CallOut c.args.caller.now c.args.args.now c.args.live.now turn d c.args.live.now turn) (sym c.in_ok-bad_second-in-None.ensures)
    (negative_delay c.args.caller.now c.args.args.now c.args.live.now turn (sym c.is_live.ensures ∙ c.if-not-is_live.false) c.in-None.ensures.value)
