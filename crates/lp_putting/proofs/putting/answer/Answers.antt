use Rattle.std.proofs.Common.{◌≡◌, subst, sym, true, false}
use Rattle.std.proofs.lemmas.Result.{IfOk-weaker}
use Rattle.lp_values.specs.Errors.{plain}
use Rattle.lp_values.specs.declared.error.ErrorKind.TheVariants as errors
use Rattle.lp_efuns.specs.declared.answer.Did.TheVariants as did
use Rattle.lp_putting.specs.Plans.{AnswersPlan, CarriesPlan}
use Rattle.lp_putting.proofs.Carried.{plan_answered, plan_refused}
use Rattle.lp_putting.proofs.putting.answer.Goals as goal

pub returns-then-not-has-clause-does : goal.returns-then-not-has-clause-does
returns-then-not-has-clause-does c =
    IfOk-weaker c.refusal.result (λ d. d ≡ did.Error (plain errors.NoFunction)) _
    (λ d e. subst (λ b. AnswersPlan c.args.plan c.args.this c.args.args.now b c.args.live.now d c.args.live.now) (sym c.if-not-has.true)
    (subst (λ d. AnswersPlan c.args.plan c.args.this c.args.args.now false c.args.live.now d c.args.live.now) (sym e) (plan_refused c.args.plan c.args.this c.args.args.now c.args.live.now))) c.refusal.ensures

pub returns-clause-does : goal.returns-clause-does
returns-clause-does c =
    IfOk-weaker c.carry_out.result (λ d. CarriesPlan c.args.plan c.args.this c.args.args.now c.args.live.now d c.carry_out.new.live) _
    (λ d k. subst (λ b. AnswersPlan c.args.plan c.args.this c.args.args.now b c.args.live.now d c.carry_out.new.live) (sym c.if-not-has.false)
    (plan_answered c.args.plan c.args.this c.args.args.now c.args.live.now c.carry_out.new.live d k)) c.carry_out.ensures.does
