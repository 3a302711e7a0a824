use Rattle.std.proofs.Common.{◌≡◌, ◌-◌, length, nat_lt, rules, subst, sym, take}
use Rattle.std.proofs.lemmas.Result.{IfOk-weaker}
use Rattle.lp_values.specs.Errors.{bad_arg}
use Rattle.lp_instr.specs.EfunList.{efun_name}
use Rattle.lp_efuns.specs.declared.answer.Answer.TheVariants as answers
use Rattle.lp_efuns.proofs.Called.{paid_is, unpaid_is}
use Rattle.lp_calling.specs.declared.job.Begun.TheVariants as begun
use Rattle.lp_calling.specs.Beginning.{Begins}
use Rattle.lp_calling.proofs.Beginnings.{bad_begins, spent_begins, start_begins}
use Rattle.lp_calling.proofs.begin.begin.Goals as goal

pub returns-then-not-is_paid-clause-begins : goal.returns-then-not-is_paid-clause-begins
returns-then-not-is_paid-clause-begins c =
    let a = c.args in
    let before = c.price_above-before.result in
    let paid = c.pay_wide-is_paid.new.budget in
    let low : c.len.result - a.args ≡ length a.stack.now.items - a.args = search rules in
    let q = unpaid_is (nat_lt a.budget.now before) c.pay_wide-is_paid.result before a.budget.now paid c.pay_wide-is_paid.ensures c.if-not-is_paid.true in
    subst (λ r. Begins r a.efun a.caller.now a.live.now a.stack.now.items a.args a.budget.now c.begin_end.new.stack.items paid) (sym c.begin_end.ensures.answer)
    (spent_begins a.efun a.live.now a.stack.now.items (c.len.result - a.args) a.args a.budget.now c.requires.fit.there c.requires.args low before paid a.caller.now c.begin_end.new.stack.items q.0 q.1 c.price_above-before.ensures c.begin_end.ensures.stack)

pub returns-in-Some-clause-begins : goal.returns-in-Some-clause-begins
returns-in-Some-clause-begins c =
    let a = c.args in
    let before = c.price_above-before.result in
    let paid = c.pay_wide-is_paid.new.budget in
    let low : c.len.result - a.args ≡ length a.stack.now.items - a.args = search rules in
    let q = paid_is (nat_lt a.budget.now before) c.pay_wide-is_paid.result before a.budget.now paid c.pay_wide-is_paid.ensures c.if-not-is_paid.false in
    IfOk-weaker c.begin_bad.result (λ r. (r ≡ begun.Ends (answers.Error (bad_arg c.in-Some.number (efun_name a.efun)))) × (c.begin_bad.new.stack.items ≡ take (c.len.result - a.args) a.stack.now.items)) _
    (λ r k. subst (λ r. Begins r a.efun a.caller.now a.live.now a.stack.now.items a.args a.budget.now c.begin_bad.new.stack.items paid) (sym k.0)
    (bad_begins a.efun a.live.now a.stack.now.items (c.len.result - a.args) a.args a.budget.now c.requires.fit.there c.requires.args low before paid c.in-Some.number a.caller.now c.begin_bad.new.stack.items q.0 q.1 c.price_above-before.ensures c.in-Some.ensures k.1)) c.begin_bad.ensures.ends

pub returns-in-None-clause-begins : goal.returns-in-None-clause-begins
returns-in-None-clause-begins c =
    let a = c.args in
    let before = c.price_above-before.result in
    let paid = c.pay_wide-is_paid.new.budget in
    let low : c.len.result - a.args ≡ length a.stack.now.items - a.args = search rules in
    let q = paid_is (nat_lt a.budget.now before) c.pay_wide-is_paid.result before a.budget.now paid c.pay_wide-is_paid.ensures c.if-not-is_paid.false in
    IfOk-weaker c.start.result _ _
    (λ r k. start_begins a.efun a.live.now a.stack.now.items (c.len.result - a.args) a.args a.budget.now c.requires.fit.there c.requires.args low r before paid a.caller.now c.start.new.stack.items q.0 q.1 c.price_above-before.ensures c.in-None.ensures k) c.start.ensures.starts
