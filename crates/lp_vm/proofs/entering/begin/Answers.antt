use Rattle.std.proofs.Common.{◌∙◌, ◌+◌, ◌<◌, ◌≤◌, All, ap, arith, length, subst, sym}
use Rattle.lp_cells.specs.Cells.{IsThere}
use Rattle.lp_language.specs.Course as course
use Rattle.lp_step.specs.Steps.{IsFit}
use Rattle.lp_step_laws.specs.Running.{HasVariables}
use Rattle.lp_asking.specs.Endings.{cause_of}
use Rattle.lp_vm.proofs.Beginnings.{begins_deep, begins_runs, begins_spent, entered_fit}
use Rattle.lp_vm.proofs.entering.begin.Goals as goal

pub returns-then-not-is_paid-clause-begins : goal.returns-then-not-is_paid-clause-begins
returns-then-not-is_paid-clause-begins c =
    begins_spent c.args.live.now c.args.stack.now.items c.drop_top.new.stack.items c.args.asker.now c.args.reached.callee c.args.reached.code c.args.reached.caller c.args.args c.args.budget.now c.pay_entry-is_paid.new.budget c.unbegun.result
    c.if-not-is_paid.ensures.0 c.if-not-is_paid.ensures.1 (ap (λ z. cause_of z.cause) c.unbegun.ensures) (ap (λ z. z.place) c.unbegun.ensures) c.drop_top.ensures.items

pub returns-then-asker-ge-MAX_DEPTH-clause-begins : goal.returns-then-asker-ge-MAX_DEPTH-clause-begins
returns-then-asker-ge-MAX_DEPTH-clause-begins c =
    let deep : 100 ≤ c.args.asker.now.depth = omega arith in
    begins_deep c.args.live.now c.args.stack.now.items c.drop_top-then-asker-ge-MAX_DEPTH.new.stack.items c.args.asker.now c.args.reached.callee c.args.reached.code c.args.reached.caller c.args.args c.args.budget.now c.pay_entry-is_paid.new.budget c.unbegun-then-asker-ge-MAX_DEPTH.result
    c.if-not-is_paid.ensures deep (ap (λ z. cause_of z.cause) c.unbegun-then-asker-ge-MAX_DEPTH.ensures ∙ ap course.Failed c.in_ok-error.ensures) (ap (λ z. z.place) c.unbegun-then-asker-ge-MAX_DEPTH.ensures) c.drop_top-then-asker-ge-MAX_DEPTH.ensures.items

pub returns-clause-begins : goal.returns-clause-begins
returns-clause-begins c =
    let high : c.args.asker.now.depth < 100 = omega arith in
    let fit : IsFit c.mark.new.live c.args.stack.now.items = record { closed = c.mark.ensures.closed; there = subst (λ cells. All (IsThere cells) c.args.stack.now.items) (sym c.mark.ensures.cells) c.requires.fit.there } in
    begins_runs c.args.live.now c.mark.new.live c.args.stack.now.items c.enter.new.stack.items c.in_ok-frame.frame c.args.asker.now c.push_caller.new.asker c.args.reached.callee c.args.reached.code c.args.reached.caller c.args.args c.args.budget.now c.pay_entry-is_paid.new.budget
    c.if-not-is_paid.ensures high c.in_ok-push_caller.ensures c.mark.ensures.stands c.mark.ensures.outputs fit
    (subst (λ o. HasVariables o (c.args.reached.callee.base + length c.args.reached.code.tables.vars)) (sym (c.mark.ensures.variables c.args.reached.callee.this)) c.requires.there.variables)
    c.in_ok-frame.ensures.runs c.in_ok-frame.ensures.of

pub returns-clause-begun : goal.returns-clause-begun
returns-clause-begun c =
    let fit : IsFit c.mark.new.live c.args.stack.now.items = record { closed = c.mark.ensures.closed; there = subst (λ cells. All (IsThere cells) c.args.stack.now.items) (sym c.mark.ensures.cells) c.requires.fit.there } in
    (c.in_ok-push_caller.ensures, c.if-not-is_paid.ensures, entered_fit c.mark.new.live c.args.stack.now.items c.enter.new.stack.items _ c.in_ok-frame.ensures.stack.row.params c.in_ok-frame.ensures.stack.row.locals c.in_ok-frame.ensures.stack.stack fit)
