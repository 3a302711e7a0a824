use Rattle.std.proofs.Common.{◌≡◌, ◌-◌, length, nat_lt, rules, subst, sym}
use Rattle.std.proofs.lemmas.Result.{IfOk-weaker}
use Rattle.lp_values.specs.Errors.{bad_arg}
use Rattle.lp_instr.specs.EfunList.{efun_name}
use Rattle.lp_instr.specs.declared.efun.Efun.TheVariants as efuns
use Rattle.lp_efuns.specs.declared.answer.Answer.TheVariants as answers
use Rattle.lp_efuns.proofs.Called.{paid_is, unpaid_is}
use Rattle.lp_calling.proofs.Beginnings.{bad_begins, spent_begins}
use Rattle.lp_calling.specs.declared.job.Begun.TheVariants as begun
use Rattle.lp_shadowing.specs.Shadowing.{BeginsShadow}
use Rattle.lp_shadowing.proofs.Begun.{acts_begins, begins_over}
use Rattle.lp_shadowing.proofs.shadowing.begin_shadow.Goals as goal

pub returns-then-not-is_paid-clause-begins : goal.returns-then-not-is_paid-clause-begins
returns-then-not-is_paid-clause-begins g c = λ t.
    let a = c.args in
    let told = g.W.SwapFile.content a.swap.now in
    let before = c.price_above-before.result in
    let paid = c.pay_wide-is_paid.new.budget in
    let low : c.len.result - a.args ≡ length a.stack.now.items - a.args = search rules in
    let q = unpaid_is (nat_lt a.budget.now before) c.pay_wide-is_paid.result before a.budget.now paid c.pay_wide-is_paid.ensures c.if-not-is_paid.true in
    subst (λ r. BeginsShadow r a.caller.now told a.live.now a.stack.now.items a.args a.budget.now a.live.now c.end.new.stack.items paid) (sym c.end.ensures.answer)
    (begins_over (begun.Ends answers.Spent) a.caller.now told a.live.now a.stack.now.items c.end.new.stack.items a.args a.budget.now paid
    (spent_begins efuns.Shadow a.live.now a.stack.now.items (c.len.result - a.args) a.args a.budget.now c.requires.fit.there c.requires.args low before paid a.caller.now c.end.new.stack.items q.0 q.1 c.price_above-before.ensures c.end.ensures.items))

pub returns-in-Ok-clause-begins : goal.returns-in-Ok-clause-begins
returns-in-Ok-clause-begins g c = λ t.
    let a = c.args in
    let told = g.W.SwapFile.content a.swap.now in
    let before = c.price_above-before.result in
    let paid = c.pay_wide-is_paid.new.budget in
    let low : c.len.result - a.args ≡ length a.stack.now.items - a.args = search rules in
    let q = paid_is (nat_lt a.budget.now before) c.pay_wide-is_paid.result before a.budget.now paid c.pay_wide-is_paid.ensures c.if-not-is_paid.false in
    subst (λ r. BeginsShadow r a.caller.now told a.live.now a.stack.now.items a.args a.budget.now a.live.now c.end-in-Ok.new.stack.items paid) (sym c.end-in-Ok.ensures.answer)
    (subst (λ x. BeginsShadow (begun.Ends x) a.caller.now told a.live.now a.stack.now.items a.args a.budget.now a.live.now c.end-in-Ok.new.stack.items paid) (sym c.in-Ok.ensures)
    (begins_over (begun.Ends (answers.Error (bad_arg c.in-Some.number (efun_name efuns.Shadow)))) a.caller.now told a.live.now a.stack.now.items c.end-in-Ok.new.stack.items a.args a.budget.now paid
    (bad_begins efuns.Shadow a.live.now a.stack.now.items (c.len.result - a.args) a.args a.budget.now c.requires.fit.there c.requires.args low before paid c.in-Some.number a.caller.now c.end-in-Ok.new.stack.items q.0 q.1 c.price_above-before.ensures c.in-Some.ensures c.end-in-Ok.ensures.items)))

pub returns-in-None-clause-begins : goal.returns-in-None-clause-begins
returns-in-None-clause-begins g c = λ t.
    let a = c.args in
    let told = g.W.SwapFile.content a.swap.now in
    let before = c.price_above-before.result in
    let paid = c.pay_wide-is_paid.new.budget in
    let low : c.len.result - a.args ≡ length a.stack.now.items - a.args = search rules in
    let q = paid_is (nat_lt a.budget.now before) c.pay_wide-is_paid.result before a.budget.now paid c.pay_wide-is_paid.ensures c.if-not-is_paid.false in
    IfOk-weaker c.act.result _ _
    (λ r k. acts_begins a.live.now a.stack.now.items (c.len.result - a.args) a.args a.budget.now c.requires.fit.there c.requires.args low r before paid a.caller.now told c.act.new.live a.stack.now.items q.0 q.1 c.price_above-before.ensures c.in-None.ensures k) (c.act.ensures.acts t)
