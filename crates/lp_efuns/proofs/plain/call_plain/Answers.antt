use Rattle.std.proofs.Common.{nat_lt, ◌≡◌}
use Rattle.std.proofs.lemmas.Result.{IfOk-weaker}
use Rattle.lp_values.specs.Errors.{bad_arg}
use Rattle.lp_instr.specs.EfunList.{efun_name}
use Rattle.lp_efuns.specs.declared.answer.Answer.TheVariants as answers
use Rattle.lp_meaning.specs.Questions.{group}
use Rattle.lp_efuns.proofs.Called.{acted_call, bad_call, paid_is, plain_asks_nothing, spent_call, unpaid_is}
use Rattle.lp_efuns.proofs.plain.call_plain.Goals as goal

pub returns-then-not-is_paid-clause-calls : goal.returns-then-not-is_paid-clause-calls
returns-then-not-is_paid-clause-calls c =
    let a = c.args in
    let before = c.price_before-before.result in
    let q = unpaid_is (nat_lt a.budget.now before) c.pay_wide-is_paid.result before a.budget.now c.pay_wide-is_paid.new.budget c.pay_wide-is_paid.ensures c.if-not-is_paid.true in
    spent_call a.efun a.caller.now a.args.now a.live.now a.turn.now a.budget.now (plain_asks_nothing (group a.efun) a.efun c.requires.plain) c.requires.there before c.pay_wide-is_paid.new.budget q.0 q.1 c.price_before-before.ensures

pub returns-in_err-did-in-None-clause-variables : goal.returns-in_err-did-in-None-clause-variables
returns-in_err-did-in-None-clause-variables c = c.did.ensures.variables

pub returns-in-Some-clause-calls : goal.returns-in-Some-clause-calls
returns-in-Some-clause-calls c =
    let a = c.args in
    let before = c.price_before-before.result in
    let q = paid_is (nat_lt a.budget.now before) c.pay_wide-is_paid.result before a.budget.now c.pay_wide-is_paid.new.budget c.pay_wide-is_paid.ensures c.if-not-is_paid.false in
    IfOk-weaker c.bad_argument.result (λ x. x ≡ answers.Error (bad_arg c.in-Some.number (efun_name a.efun))) _
    (λ x e. bad_call a.efun a.caller.now a.args.now a.live.now a.turn.now a.budget.now (plain_asks_nothing (group a.efun) a.efun c.requires.plain) c.requires.there before c.pay_wide-is_paid.new.budget c.in-Some.number x q.0 q.1 c.price_before-before.ensures c.in-Some.ensures e) c.bad_argument.ensures

pub returns-in_ok-did-in-None-clause-calls : goal.returns-in_ok-did-in-None-clause-calls
returns-in_ok-did-in-None-clause-calls c =
    let a = c.args in
    let before = c.price_before-before.result in
    let q = paid_is (nat_lt a.budget.now before) c.pay_wide-is_paid.result before a.budget.now c.pay_wide-is_paid.new.budget c.pay_wide-is_paid.ensures c.if-not-is_paid.false in
    acted_call a.efun a.caller.now a.args.now a.live.now a.turn.now a.budget.now (plain_asks_nothing (group a.efun) a.efun c.requires.plain) c.requires.there before c.pay_wide-is_paid.new.budget c.finish.new.budget c.in_ok-did-in-None.did c.finish.result
    c.did.new.live c.did.new.turn q.0 q.1 c.price_before-before.ensures c.in-None.ensures c.in_ok-did-in-None.ensures.does c.in_ok-did-in-None.ensures.there c.finish.ensures.finishes

pub returns-in_ok-did-in-None-clause-variables : goal.returns-in_ok-did-in-None-clause-variables
returns-in_ok-did-in-None-clause-variables c = c.did.ensures.variables
