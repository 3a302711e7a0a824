use Rattle.std.proofs.Common.{arith, ◌∙◌, ◌<◌, ◌≡◌, length}
use Rattle.std.proofs.lemmas.Bool.Decides.{nat_tests}
use Rattle.lp_parser_stmt.specs.View.{stmts_of}
use Rattle.lp_parser_stmt.proofs.Stacks.{top_right}
use Rattle.lp_parser_stmt.proofs.stack.Stack.may_continue.Goals as goal

pub returns : goal.returns
returns c =
    let size : c.len.result ≡ length c.args.self.now.opens.items = c.len.ensures ∙ c.args.self.now.opens.ok.0 in let some : 0 < c.len.result = grind (arith, nat_tests) in
    (top_right (stmts_of c.args.self.now.done) _ c.len.result _ size some c.index.ensures c.args.self.now.right).1
