use Rattle.std.proofs.Common.{◌≡◌, ◌∙◌, ◌-◌, ◌<◌, ◌++◌, ap, arith, drop, length, rules, slice_get, take, Some}
use Rattle.lp_calling.proofs.Lists.{copied_more, copied_none, got_read, inside_more}
use Rattle.lp_calling.proofs.laying.copy_up.Goals as goal

pub index-requires : goal.index-requires
index-requires c =
    let at : c.loop-i.i < length c.args.stack.now.items = omega arith in
    let inside : c.loop-i.i < length c.loop-i.stack.items = inside_more _ _ _ _ c.loop-i.invariant at in
    search rules

pub loop-i-init : goal.loop-i-init
loop-i-init c = copied_none c.args.stack.now.items c.args.from

pub loop-i-preserved : goal.loop-i-preserved
loop-i-preserved c =
    let at : c.loop-i.i < length c.args.stack.now.items = omega arith in
    let inside : c.loop-i.i < length c.loop-i.stack.items = inside_more _ _ _ _ c.loop-i.invariant at in
    let read : slice_get c.loop-i.stack.items c.loop-i.i ≡ Some c.index.result.now = got_read c.loop-i.stack.items c.loop-i.i c.index.result.now inside c.index.ensures in
    c.in_ok-push.ensures.items ∙ copied_more c.args.stack.now.items c.loop-i.stack.items c.args.from c.loop-i.i c.in_ok-v.v c.loop-i.invariant c.loop-i.auto.i at (read ∙ ap Some (search rules))

pub returns : goal.returns
returns c =
    let at_end : c.loop-i.i ≡ c.args.to = omega arith in
    c.loop-i.invariant ∙ ap (λ n. c.args.stack.now.items ++ take (n - c.args.from) (drop c.args.from c.args.stack.now.items)) at_end
