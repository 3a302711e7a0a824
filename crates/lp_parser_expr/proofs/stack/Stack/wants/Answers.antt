use Rattle.std.proofs.Common.{arith, ◌∙◌, ◌<◌, ◌≡◌, length}
use Rattle.std.proofs.lemmas.Bool.Decides.{nat_tests}
use Rattle.lp_parser_expr.proofs.Stacks.{top_wants}
use Rattle.lp_parser_expr.proofs.stack.Stack.wants.Goals as goal

pub returns : goal.returns
returns c =
    let size : c.len.result ≡ length c.args.self.now.frames.items = c.len.ensures ∙ c.args.self.now.frames.ok.0 in let some : 0 < c.len.result = grind (arith, nat_tests) in
    top_wants _ c.len.result _ _ size some c.index.ensures c.wants.ensures
