use Rattle.std.proofs.Common.{arith, ◌∙◌, ◌≡◌, length}
use Rattle.lp_parser_stmt.specs.Machine.{InFunction}
use Rattle.lp_parser_stmt.specs.View.{stmts_of}
use Rattle.lp_parser_stmt.proofs.Stacks.{depth-above}
use Rattle.lp_parser_stmt.proofs.stack.Stack.depth.Goals as goal

pub returns-then-count : goal.returns-then-count
returns-then-count c =
    let size : c.len-count.result ≡ length c.args.self.now.opens.items = c.len-count.ensures ∙ c.args.self.now.opens.ok.0 in
    omega (arith, size, c.if-count.true, depth-above (InFunction (stmts_of c.args.self.now.done)) c.args.self.now.opens.items)

pub returns : goal.returns
returns c =
    let size : c.len-count.result ≡ length c.args.self.now.opens.items = c.len-count.ensures ∙ c.args.self.now.opens.ok.0 in
    omega (arith, size, c.if-count.false, depth-above (InFunction (stmts_of c.args.self.now.done)) c.args.self.now.opens.items)
