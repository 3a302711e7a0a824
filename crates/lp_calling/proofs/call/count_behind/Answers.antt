use Rattle.std.proofs.Common.{◌≡◌, ◌∙◌, ◌-◌, ap, drop, length, length-drop, rules, sym}
use Rattle.lp_calling.proofs.call.count_behind.Goals as goal

pub returns : goal.returns
returns c =
    let size : c.len.result - c.args.low ≡ length c.args.stack.now.items - c.args.low = search rules in
    c.saturating_sub.ensures ∙ ap (λ n. n - 2) (size ∙ sym (length-drop c.args.low c.args.stack.now.items)) ∙ sym (length-drop 2 (drop c.args.low c.args.stack.now.items))
