use Rattle.std.proofs.Common.{◌≡◌, ◌+◌, ◌-◌, ◌<◌, ◌≤◌, ◌++◌, arith, drop, take}
use Rattle.std.proofs.lemmas.Result.{IfOk-weaker}
use Rattle.lp_calling.proofs.Lists.{further_laid, no_further_laid}
use Rattle.lp_calling.proofs.items.lay_further.Goals as goal

pub returns-then-arguments-gt3 : goal.returns-then-arguments-gt3
returns-then-arguments-gt3 c =
    let a = c.args in
    let more : 3 < a.arguments = omega arith in
    IfOk-weaker c.copy_up.result (λ _. c.copy_up.new.stack.items ≡ a.stack.now.items ++ take (a.low + a.arguments - (a.low + 3)) (drop (a.low + 3) a.stack.now.items)) _
    (λ _ e. further_laid a.stack.now.items c.copy_up.new.stack.items a.low a.arguments more e) c.copy_up.ensures

pub returns : goal.returns
returns c = let few : c.args.arguments ≤ 3 = omega arith in no_further_laid c.args.stack.now.items c.args.low c.args.arguments few
