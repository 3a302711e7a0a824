use Rattle.std.proofs.Common.{◌≡◌, ◌∙◌, ◌+◌, ◌-◌, ◌++◌, ap, arith, drop, length, length-append, subst, sym, take}
use Rattle.std.proofs.lemmas.Result.{IfOk-weaker}
use Rattle.lp_world.specs.Rows.{live_in}
use Rattle.lp_calling.specs.Jobs.{added}
use Rattle.lp_calling.proofs.Rounds.{fit_part, laid_item, laid_zero}
use Rattle.lp_calling.proofs.items.lay_answer.Goals as goal

pub returns-then-is_zero-clause-adds : goal.returns-then-is_zero-clause-adds
returns-then-is_zero-clause-adds c = λ x e.
    subst (λ f. c.args.stack.now.items ≡ c.args.stack.now.items ++ added f (live_in c.args.objects.now) x c.args.v) (sym c.if-not-is_filter.false)
    (laid_zero (live_in c.args.objects.now) c.args.stack.now.items x c.args.v (sym c.is_zero.ensures ∙ c.if-is_zero.true))

pub returns-clause-adds : goal.returns-clause-adds
returns-clause-adds c =
    let a = c.args in
    IfOk-weaker c.copy_up.result (λ _. c.copy_up.new.stack.items ≡ a.stack.now.items ++ take (a.at + 1 - a.at) (drop a.at a.stack.now.items)) _
    (λ _ t. λ x e. subst (λ f. c.copy_up.new.stack.items ≡ a.stack.now.items ++ added f (live_in a.objects.now) x a.v) (sym c.if-not-is_filter.false)
    (laid_item (live_in a.objects.now) a.stack.now.items c.copy_up.new.stack.items a.at x a.v (sym c.is_zero.ensures ∙ c.if-is_zero.false) e t)) c.copy_up.ensures

pub returns-clause-fit : goal.returns-clause-fit
returns-clause-fit c =
    let a = c.args in
    IfOk-weaker c.copy_up.result (λ _. c.copy_up.new.stack.items ≡ a.stack.now.items ++ take (a.at + 1 - a.at) (drop a.at a.stack.now.items)) _
    (λ _ t. λ l i h. fit_part l a.stack.now.items c.copy_up.new.stack.items a.at t h) c.copy_up.ensures

pub returns-clause-more : goal.returns-clause-more
returns-clause-more c =
    let a = c.args in
    IfOk-weaker c.copy_up.result (λ _. c.copy_up.new.stack.items ≡ a.stack.now.items ++ take (a.at + 1 - a.at) (drop a.at a.stack.now.items)) _
    (λ _ t. let z : length c.copy_up.new.stack.items ≡ length a.stack.now.items + length (take (a.at + 1 - a.at) (drop a.at a.stack.now.items)) = ap length t ∙ length-append a.stack.now.items (take (a.at + 1 - a.at) (drop a.at a.stack.now.items)) in omega arith) c.copy_up.ensures
