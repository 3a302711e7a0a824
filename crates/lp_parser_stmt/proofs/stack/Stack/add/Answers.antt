use Rattle.std.proofs.Common.{ap, map, ◌∙◌}
use Rattle.lp_tree.specs.StatementView.{stmt_of}
use Rattle.lp_parser_stmt.specs.Machine.{InFunction}
use Rattle.lp_parser_stmt.specs.View.{stmts_of}
use Rattle.lp_parser_stmt.proofs.Stacks.{add_view, map-push}
use Rattle.lp_parser_stmt.proofs.stack.Stack.add.Goals as goal

pub returns : goal.returns
returns c = add_view _ (stmts_of c.push.new.self) c.args.self.now.opens.items c.requires ∙ ap InFunction (ap (map stmt_of) c.in_ok-push.ensures.items ∙ map-push stmt_of c.args.self.now.done.items c.args.stmt)
