use Rattle.std.proofs.Common.{nat_lt, ◌≡◌}
use Rattle.std.proofs.lemmas.Result.{IfOk-weaker}
use Rattle.lp_values.specs.Errors.{bad_arg}
use Rattle.lp_instr.specs.EfunList.{efun_name}
use Rattle.lp_instr.specs.declared.efun.Efun.TheVariants as efuns
use Rattle.lp_efuns.specs.declared.answer.Answer.TheVariants as answers
use Rattle.lp_efuns.proofs.Called.{acted_call, bad_call, paid_is, spent_call, unpaid_is}
use Rattle.lp_destructing.proofs.destruct.call_destruct.Goals as goal

pub returns-then-not-is_paid-clause-calls : goal.returns-then-not-is_paid-clause-calls
returns-then-not-is_paid-clause-calls c =
    let a = c.args in
    let before = c.price_before-before.result in
    let q = unpaid_is (nat_lt a.budget.now before) c.pay_wide-is_paid.result before a.budget.now c.pay_wide-is_paid.new.budget c.pay_wide-is_paid.ensures c.if-not-is_paid.true in
    spent_call efuns.Destruct a.caller.now a.args.now a.live.now a.turn.now a.budget.now tt c.requires.there before c.pay_wide-is_paid.new.budget q.0 q.1 c.price_before-before.ensures

pub returns-in-Some-clause-calls : goal.returns-in-Some-clause-calls
returns-in-Some-clause-calls c =
    let a = c.args in
    let before = c.price_before-before.result in
    let q = paid_is (nat_lt a.budget.now before) c.pay_wide-is_paid.result before a.budget.now c.pay_wide-is_paid.new.budget c.pay_wide-is_paid.ensures c.if-not-is_paid.false in
    IfOk-weaker c.bad_argument.result (λ x. x ≡ answers.Error (bad_arg c.in-Some.number (efun_name efuns.Destruct))) _
    (λ x e. bad_call efuns.Destruct a.caller.now a.args.now a.live.now a.turn.now a.budget.now tt c.requires.there before c.pay_wide-is_paid.new.budget c.in-Some.number x q.0 q.1 c.price_before-before.ensures c.in-Some.ensures e) c.bad_argument.ensures

pub returns-in_ok-did-in-None-clause-calls : goal.returns-in_ok-did-in-None-clause-calls
returns-in_ok-did-in-None-clause-calls c =
    let a = c.args in
    let before = c.price_before-before.result in
    let q = paid_is (nat_lt a.budget.now before) c.pay_wide-is_paid.result before a.budget.now c.pay_wide-is_paid.new.budget c.pay_wide-is_paid.ensures c.if-not-is_paid.false in
    acted_call efuns.Destruct a.caller.now a.args.now a.live.now a.turn.now a.budget.now tt c.requires.there before c.pay_wide-is_paid.new.budget c.finish.new.budget c.in_ok-did-in-None.did c.finish.result
    c.destruct.new.live a.turn.now q.0 q.1 c.price_before-before.ensures c.in-None.ensures (c.in_ok-did-in-None.ensures.does a.caller.now a.turn.now) c.in_ok-did-in-None.ensures.there c.finish.ensures.finishes
