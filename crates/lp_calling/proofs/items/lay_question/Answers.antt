use Rattle.std.proofs.Common.{◌≡◌, ◌∙◌, ◌+◌, ◌-◌, ◌++◌, ap, arith, drop, length, length-append, take}
use Rattle.std.proofs.lemmas.Result.{IfOk-weaker}
use Rattle.lp_calling.proofs.Lists.{question_laid}
use Rattle.lp_calling.proofs.items.lay_question.Goals as goal

pub lay_further-requires : goal.lay_further-requires
lay_further-requires c =
    let a = c.args in
    let size : length c.copy_up.new.stack.items ≡ length a.stack.now.items + length (take (a.at + 1 - a.at) (drop a.at a.stack.now.items)) =
    ap length c.in_ok-copy_up.ensures ∙ length-append a.stack.now.items (take (a.at + 1 - a.at) (drop a.at a.stack.now.items)) in
    omega arith

pub returns : goal.returns
returns c =
    let a = c.args in
    IfOk-weaker c.lay_further.result (λ _. c.lay_further.new.stack.items ≡ c.copy_up.new.stack.items ++ take (a.arguments - 3) (drop (a.low + 3) c.copy_up.new.stack.items)) _
    (λ _ e. question_laid a.stack.now.items c.copy_up.new.stack.items c.lay_further.new.stack.items a.low a.arguments a.at c.requires.arguments c.in_ok-copy_up.ensures e) c.lay_further.ensures
